-- Packets in plain bytes.
-- Assumes nothing.
use Rattle.std.specs.Prelude.{Some, Ok}
use mathlib.Core.Path.{◌≡◌, refl, sym, ap, subst⁻¹, ◌∙◌}
use mathlib.Core.List.{List, [], ◌∷◌, ◌++◌}
use Prim.Native.Nat.{ℕ, ◌+◌, ◌*◌, ◌-◌, ◌/◌, ◌%◌, ◌≤◌, ◌<◌, min}
use native.Mathlib.Omega.{arith}
use lib.ListN.{length, get_or, take, drop, length-append, length-take, get_or-append, get_or-eq_default}
use lib.Seq.{get_or-append-add, get_or-take, get_or-drop}
use Rattle.lists.proofs.Tests.{by_lt}
use Rattle.wire.specs.Bytes.{AreBytes, word_bytes, words_at}
use Rattle.wire.specs.ByByte.{byte, two, four}
use Rattle.wire.proofs.ByByte.{at_two, at_four, in_four}
use Rattle.wire.proofs.Numbers.{be_back}
use Rattle.wire.proofs.Undo.{words_back}
use Rattle.wire.proofs.Words.{words_at_length, words_at_word}
use Rattle.rules.specs.Regions.{start_of, dump_right, image_index, words_of}
use Rattle.rules.specs.States.{piece_words}
use Rattle.rules.specs.Packets.{header_at, request_of, symbol_request_of, data_words, name_in, name_words, packet_length, used_words, name_bytes, sealed, command_bytes}
use Rattle.rules.specs.Results.{answer_number, answer_length}
use Rattle.rules.specs.Slots.{SlotArgs, next_words, packet_bytes, slot_call}
use Rattle.rules.specs.Ground.{write_command, read_command, words_beside, packet_fields, PacketRead, read_packet, packet_number}
use Rattle.rules.specs.Demand2.{SlotDone}
use Rattle.rules.specs.ReadBack.{CommandFits, AreWords, SlotFits, packet_of}
use Rattle.rules.specs.PlainWords.{ImageFits}
use Rattle.rules.specs.Values.{Reached, on, back}
use Rattle.rules.specs.PlainBytes.{SignedOffset, AskedOfCallers, HeaderFields, request_at, CommandFields, code_in, NameWritten, Body, CommandWritten, NameBeside, Beside, CommandGiven, PacketWritten, PacketGiven, PlainBytes}
use Rattle.rules.specs.declared.ActiveDump.{ActiveDump}
use Rattle.rules.specs.declared.Command.{Command}
use Rattle.rules.specs.declared.Command.TheVariants.{Dump, Cancel, Load, PoolStatistics, SymbolValue, DumpSymbol}
use Rattle.rules.specs.declared.DumpPacket.{DumpPacket}
use Rattle.rules.specs.declared.Header.{Header}
use Rattle.rules.specs.declared.Request.{Request}
use Rattle.rules.specs.declared.State.{State}
use Rattle.rules.specs.declared.SymbolRequest.{SymbolRequest}
use Rattle.rules.specs.declared.Telecommand.{Telecommand}
use Rattle.rules.proofs.Asks.{asked_is}
use Rattle.rules.proofs.Allowed.{decode_dump, decode_cancel, decode_load, decode_pool, decode_value, decode_by_name, decode_other}
use Rattle.rules.proofs.Fits.{name_length, command_length, packet_length_lem}
use Rattle.rules.proofs.GoodWhen.{good_when}
use Rattle.rules.proofs.GroundCases.{length_of}
use Rattle.rules.proofs.GroundTests.{Writable, writable_out, writable_in, readable_in, readable_out}
use Rattle.rules.proofs.Located.{good_table, words_sum, lies_from}
use Rattle.rules.proofs.PacketTests.{packet_out, packet_in_lem}
use Rattle.rules.proofs.PlainWords.{words_in_image}
use Rattle.rules.proofs.SlotRead.{Bounds, bounds, packet_length_field}
use Rattle.rules.proofs.Table.{one_out}
use Rattle.rules.proofs.UsedWords.{padded_at, filled_used, filled_rest, used_word, unused_word, load_most, load_words, name_tail, by_name_parts, by_name_tail}
use Rattle.rules.proofs.WriteRead.{length_most, command_check, packet_written}

-- THE FIELDS OF A PACKET

low_bits : (x y : ℕ) → y < 256 → (x * 256 + y) % 4096 ≡ x % 16 * 256 + y
low_bits x y h = omega arith

header_fields : (p : List ℕ) → AreBytes p → HeaderFields p
header_fields p b =
    let l = b 1 in
    let m = b 3 in
    record {
      version = omega arith;
      type = omega arith;
      second_header = omega arith;
      apid = omega arith;
      sequence_flags = omega arith;
      sequence_count = omega arith;
      length_field = at_two p 4;
      unit = λ at. (let e = at_two p at in let n = b (at + 1) in omega arith);
      transaction = λ at. ap (λ (n : ℕ). n % 4096) (at_two p at) ∙ low_bits (byte p at) (byte p (at + 1)) (b (at + 1));
    }

request_at_lem : (p : List ℕ) → request_of p ≡ request_at p
request_at_lem p = λ i. record { size = at_two p 10 i; address = record { 0 = at_four p 12 i } }

symbol_request_at : (p : List ℕ) → symbol_request_of p ≡ record { name = byte p 10; offset = four p 60; size = two p 64 }
symbol_request_at p = λ i. record { name = byte p 10; offset = at_four p 60 i; size = at_two p 64 i }

command_fields : (p : List ℕ) → AreBytes p → CommandFields p
unfolding name_in
command_fields p b =
    let f = header_fields p b in
    record {
      zero_bit = refl;
      code = refl;
      unit = f.unit 8;
      transaction = f.transaction 8;
      range = λ i. record { start = record { 0 = at_four p 12 i }; words = at_two p 10 i };
      pool = at_two p 10;
      dump = λ e. decode_dump p e ∙ ap (λ (q : Request). Some (Dump q)) (request_at_lem p);
      cancel = λ e. decode_cancel p e;
      load = λ e. decode_load p e ∙ ap (λ (q : Request). Some (Load q)) (request_at_lem p);
      statistics = λ e. decode_pool p e ∙ ap (λ (n : ℕ). Some (PoolStatistics n)) (at_two p 10);
      value = λ e. decode_value p e;
      by_name = λ e. decode_by_name p e ∙ ap (λ (q : SymbolRequest). Some (DumpSymbol q)) (symbol_request_at p);
      other = decode_other p;
      words = words_at_length 11 p 16;
      word = λ k l. words_at_word 11 p 16 k l ∙ at_four p (16 + 4 * k);
      name = refl;
      name_from_lem = refl;
      range_from_lem = λ a. refl;
    }

-- COMMANDS, WRITTEN

module _ (h : Header) (ws : List ℕ) where
  written_code : (k : Command) → byte (command_bytes h k ws) 6 ≡ code_in k
  unfolding command_bytes sealed
  written_code (Dump q) = refl
  written_code Cancel = refl
  written_code (Load q) = refl
  written_code (PoolStatistics i) = refl
  written_code (SymbolValue n) = refl
  written_code (DumpSymbol q) = refl

  load_word : (q : Request) → AreWords ws → (k x : ℕ) → k < 11 → get_or (used_words q.size ws) k 0 ≡ x → four (command_bytes h (Load q) ws) (16 + 4 * k) ≡ x
  load_word q words k x l e =
      let p = command_bytes h (Load q) ws in
      in_four p (16 + 4 * k) x (sym (words_at_word 11 p 16 k l) ∙ ap (λ (v : List ℕ). get_or v k 0) (load_words h q ws words) ∙ e)

  -- a packet with the 48 bytes of a name from byte 12 on
  name_written : (n : ℕ) (p : List ℕ) → byte p 10 ≡ n → byte p 11 ≡ 0 → ((j : ℕ) → j < 48 → byte p (12 + j) ≡ get_or (name_bytes n ws) j 0) → NameWritten n ws p
  name_written n p size pad at =
      record {
        size = size;
        pad = pad;
        letters = λ j m l. at j l ∙ filled_used 48 n (word_bytes ws) j m l;
        rest = λ j m l. at j l ∙ filled_rest 48 n (word_bytes ws) j m;
      }

  written_body : (k : Command) → CommandFits k → AreWords ws → (room : List ℕ) → Writable h k room → Body k ws (command_bytes h k ws)
  unfolding command_bytes sealed
  written_body (Dump q) fit words room w = (omega arith, omega arith)
  written_body Cancel fit words room w = tt
  written_body (Load q) fit words room w =
      let most = load_most q w.fields in (
        omega arith,
        omega arith,
        λ k l. load_word q words k _ (omega arith) (used_word q.size ws k l (omega arith)),
        λ k m l. load_word q words k _ l (unused_word q.size ws k m),
      )
  written_body (PoolStatistics i) fit words room w = omega arith
  written_body (SymbolValue n) fit words room w =
      let p = command_bytes h (SymbolValue n) ws in
      name_written n p refl refl (λ j l. get_or-append-add (take 12 p) (name_bytes n ws) j 0)
  written_body (DumpSymbol q) fit words room w =
      let p = command_bytes h (DumpSymbol q) ws in
      let name = name_bytes q.name ws in
      let e = name_length q.name ws in
      let at : (j : ℕ) → j < 48 → byte p (12 + j) ≡ get_or name j 0 = λ j l.
      (ap (λ (b : List ℕ). get_or b (12 + j) 0) (by_name_parts h q ws)
      ∙ get_or-append-add (take 12 p) (name ++ name_tail q) j 0
      ∙ get_or-append name (name_tail q) 0 j (omega arith)) in
      let offset = by_name_tail h q ws 4 0 in
      let size = by_name_tail h q ws 2 4 in
      let zeros = by_name_tail h q ws 2 6 in
      (name_written q.name p refl refl at, in_four p 60 _ (omega arith), omega arith, omega arith)

module _ (h : Header) (k : Command) (ws buffer : List ℕ) (fit : CommandFits k) (words : AreWords ws) where
  bytes_written : Writable h k buffer → CommandWritten h k ws (command_bytes h k ws)
  unfolding command_bytes sealed
  bytes_written w =
      let l = command_length h k ws in
      let m = length_most k in
      record {
        bytes = l ∙ length_of k;
        kind = refl;
        sequence = let c = w.count in omega arith;
        length_field = omega arith;
        code = written_code h ws k;
        check = command_check h ws k;
        identity = let u = w.unit in let t = w.transaction in omega arith;
        body = written_body h ws k fit words buffer w;
      }

  command_written : answer_number (write_command h k ws buffer).answer ≡ 0
      → CommandWritten h k ws (take (answer_length (write_command h k ws buffer).answer) (write_command h k ws buffer).buffer)
  command_written e =
      let w = writable_out h k ws buffer e in
      let n : answer_length (write_command h k ws buffer).answer ≡ packet_length k = rw (writable_in h k ws buffer w) in
      rw n (subst⁻¹ (CommandWritten h k ws) (packet_written h k ws buffer w) (bytes_written w))

-- COMMANDS, READ

name_beside : (p : List ℕ) → NameBeside p (name_words p)
name_beside p = (words_at_length 12 p 12, λ k l. words_at_word 12 p 12 k l ∙ at_four p (12 + 4 * k))

beside : (p : List ℕ) (k : Command) → Beside k p (words_beside p k)
beside p (Dump q) = refl
beside p Cancel = refl
beside p (Load q) =
    let n = words_at_length 11 p 16 in (
      length-append (data_words p) (0 ∷ []) ∙ ap (λ (m : ℕ). m + 1) n,
      λ k l. padded_at 1 (data_words p) k ∙ words_at_word 11 p 16 k l ∙ at_four p (16 + 4 * k),
      padded_at 1 (data_words p) 11 ∙ get_or-eq_default (data_words p) 0 (omega arith),
    )
beside p (PoolStatistics i) = refl
beside p (SymbolValue n) = name_beside p
beside p (DumpSymbol q) = name_beside p

-- header fields of a packet, as its bytes have them
header_at_lem : (p : List ℕ) → AreBytes p → (at : ℕ)
    → header_at p at ≡ record { count = byte p 2 % 64 * 256 + byte p 3; unit = byte p at / 16; transaction = byte p at % 16 * 256 + byte p (at + 1) }
header_at_lem p b at =
    let f = header_fields p b in
    let c = f.sequence_count in
    let u = f.unit at in
    let t = f.transaction at in
    λ i. record { count = c i; unit = u i; transaction = t i }

command_given : (p : List ℕ) (f : Telecommand) → AreBytes p → (read_command p).reading ≡ Ok f → CommandGiven p f (read_command p).words
command_given p f b e =
    let r = readable_out p f.header f.command e in
    record {
      header = sym r.1 ∙ header_at_lem p b 8;
      command = r.0.known;
      words = rw (readable_in p f.command r.0) (beside p f.command);
    }

-- DUMP PACKETS, READ

packet_given : (p : List ℕ) (f : DumpPacket) → AreBytes p → (read_packet p).reading ≡ Ok f → PacketGiven p f (read_packet p).part
packet_given p f b e =
    let is = packet_in_lem p (packet_out p (ap packet_number e)) in
    let r : Ok (packet_fields p) ≡ Ok f = sym (ap (λ (r : PacketRead). r.reading) is) ∙ e in
    let g : packet_fields p ≡ f = cc in
    record {
      header = ap (λ (x : DumpPacket). x.header) (sym g) ∙ header_at_lem p b 6;
      tick = ap (λ (x : DumpPacket). x.tick) (sym g) ∙ at_four p 8;
      requested = ap (λ (x : DumpPacket). x.range) (sym g) ∙ (λ i. record { start = record { 0 = at_four p 12 i }; words = at_four p 16 i });
      own = (ap (λ (x : DumpPacket). x.here.0) (sym g) ∙ at_four p 20, ap (λ (x : DumpPacket). x.words) (sym g) ∙ at_four p 24);
      handed_back = ap (λ (r : PacketRead). r.part) is;
    }

-- DUMP PACKETS, WRITTEN

-- words taken and words dropped are words
dropped_fit : (n : ℕ) (ws : List ℕ) → AreWords ws → AreWords (drop n ws)
dropped_fit n ws fit i = let e = get_or-drop n ws i 0 in let f = fit (n + i) in omega arith

taken_fit : (n : ℕ) (ws : List ℕ) → AreWords ws → AreWords (take n ws)
taken_fit n ws fit i =
    by_lt i n
    (λ l. let e = get_or-take n ws i 0 l in let f = fit i in omega arith)
    (λ l. let e : get_or (take n ws) i 0 ≡ 0 = get_or-eq_default (take n ws) 0 (simp length-take (omega arith)) in omega arith)

-- a data word
data_word : (s : State) (tick : ℕ) (d : ActiveDump) (ws : List ℕ) → AreWords ws → (k : ℕ) → k < length ws
    → four (packet_bytes s tick d ws) (28 + 4 * k) ≡ get_or ws k 0
unfolding packet_bytes
data_word s tick d ws fit k l =
    let p = packet_bytes s tick d ws in
    let back : words_at (length ws) p 28 ≡ ws = words_back ws (take 28 p) fit in
    in_four p (28 + 4 * k) _ (sym (words_at_word (length ws) p 28 k l) ∙ ap (λ (v : List ℕ). get_or v k 0) back)

module _ (s : State) (c : SlotArgs) (fits : SlotFits s c) (x : SlotDone s c (slot_call s c)) where
  abbrev dump : ActiveDump
  dump = x.dump

  abbrev words : List ℕ
  words = next_words s c.image dump

  within : Bounds s c dump
  within = bounds s c x fits.good fits.image

  -- word k of the packet is word `sent + k` of the range
  next_word : (k : ℕ) → k < length words → get_or words k 0 ≡ get_or (words_of s.regions s.count dump.range c.image) (dump.sent + k) 0
  unfolding next_words
  next_word k l =
      let ws = words_of s.regions s.count dump.range c.image in
      let n : k < piece_words dump.range = (let m = length-take (piece_words dump.range) (drop dump.sent ws) in omega arith) in
      get_or-take (piece_words dump.range) (drop dump.sent ws) k 0 n ∙ get_or-drop dump.sent ws k 0

  -- each word is one of the image, or past the packet's end
  words_fit : AreWords words
  unfolding next_words words_of
  words_fit =
      let first = (image_index s.regions s.count dump.range).0 in
      let range = taken_fit dump.range.words (drop first c.image) (dropped_fit first c.image fits.words) in
      taken_fit (piece_words dump.range) _ (dropped_fit dump.sent _ range)

  bytes_packed : PacketWritten s c dump (packet_bytes s c.tick dump words)
  unfolding packet_bytes piece_words
  bytes_packed =
      let p = packet_bytes s c.tick dump words in
      let b = within in
      let r = dump.range in
      let lies = one_out dump_right s.regions s.count r b.dump.region in
      let at = lies_from s.regions s.count r (good_table s fits.good) b.dump.multiple dump_right lies.0 lies.1 in
      let image : ImageFits s c.image = record { good = fits.good; as_long = fits.image ∙ words_sum s.regions s.count } in
      let here = words_in_image s c.image r lies.0 _ image b.dump.some at in
      let e : length words ≡ min 1016 (r.words - dump.sent) = b.cut in
      let low = b.low in
      let more = b.dump.more in
      let l = packet_length_lem s c.tick dump words in
      let most = b.longest in
      record {
        header =
            record {
              kind = refl;
              sequence = let q = b.packets in omega arith;
              length_field = ap (λ (n : ℕ). n + 7) (sym (at_two p 4)) ∙ packet_length_field s c.tick dump words b.longest ∙ sym l;
              identity = let u = b.unit in let t = b.dump.number in omega arith;
            };
        tick = in_four p 8 _ (be_back 4 c.tick fits.tick);
        requested = (in_four p 12 _ (be_back 4 (start_of r) (omega arith)), in_four p 16 _ (be_back 4 r.words (omega arith)));
        own = (
          in_four p 20 _ (be_back 4 (start_of r + 4 * dump.sent) (omega arith)),
          in_four p 24 _ (be_back 4 (length words) (omega arith)) ∙ e,
        );
        bytes = l ∙ ap (λ (n : ℕ). 28 + 4 * n) e;
        region = lies.0;
        offset = _;
        lies = at;
        word = λ k h. data_word s c.tick dump words words_fit k (omega arith) ∙ next_word k (omega arith) ∙ here.word (dump.sent + k) (omega arith) ∙ ap (λ (n : ℕ). get_or c.image n 0) (omega arith);
      }

  packet_packed : PacketWritten s c dump (packet_of s c)
  packet_packed = subst⁻¹ (PacketWritten s c dump) x.packet bytes_packed

-- THE OFFSET

reached_on : {v offset a : ℕ} → offset < 2147483648 → Reached v offset a → a ≡ v + offset
reached_on l (on h e) = e
reached_on l (back b h e f) = absurd (omega arith)

reached_back : {v offset a : ℕ} → 2147483648 ≤ offset → Reached v offset a → a + 4294967296 ≡ v + offset
reached_back l (on h e) = absurd (omega arith)
reached_back l (back b h e f) = omega arith

signed_offset : SignedOffset
signed_offset =
    record {
      on = λ v offset a l. (reached_on l, on l);
      back = λ v offset a l h. (reached_back l, λ e. back (4294967296 - offset) l (omega arith) (omega arith));
    }

-- WHAT IS ASKED

below : (m : ℕ) → 0 < m → (l : List ℕ) → ((i : ℕ) → i < length l → get_or l i 0 < m) → (i : ℕ) → get_or l i 0 < m
below m some l h i = by_lt i (length l) (h i) (λ past. rw (get_or-eq_default l 0 past) some)

asked_of_callers : AskedOfCallers
asked_of_callers =
    record {
      bytes = below 256 (omega arith);
      words = below 4294967296 (omega arith);
      request = λ q n a. ((n, a), (n, a));
      cancel = tt;
      pool = λ i h. h;
      value = λ n h. h;
      by_name = λ q n o k. (n, o, k);
      slots = λ s c g image buffer tick words. record {
        good = (good_when s).1 g;
        image = image ∙ sym (words_sum s.regions s.count);
        buffer = buffer;
        tick = tick;
        words = below 4294967296 (omega arith) c.image words;
      };
      no_call = tt;
      command_call = λ c cs b r. (b, r);
      slot_call_lem = λ c cs r. r;
    }

pub plain_bytes : PlainBytes
plain_bytes =
    record {
      signed_offset = signed_offset;
      asked_of_callers = asked_of_callers;
      asked_is = asked_is;
      header_fields = header_fields;
      command_fields = command_fields;
      command_written = λ h k ws buffer fit words e. command_written h k ws buffer fit words e;
      command_read = command_given;
      packet_written = packet_packed;
      packet_read = packet_given;
    }
