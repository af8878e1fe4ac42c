-- What the dump packet reader accepts is what a slot of some box in a good state writes.
-- Assumes nothing.
use mathlib.Core.Path.{◌≡◌, ◌∙◌, refl, ap, ap₂}
use mathlib.Core.Bool.{true, false}
use mathlib.Core.List.{List, [], ◌∷◌, ◌++◌, append-nil}
use Prim.Native.Nat.{ℕ, zero, suc, ◌+◌, ◌*◌, ◌-◌, ◌/◌, ◌%◌, ◌≤◌, ◌<◌, min}
use native.Mathlib.Omega.{arith}
use lib.ListN.{length, take, drop, replicate, length-append, length-replicate, length-drop, take-append-drop}
use lib.Seq.{take_all, take_at, drop_at}
use borrow.Author.Tests.{le-leb, eq-eqb}
use Rattle.lists.proofs.Tests.{by_lt}
use Rattle.wire.specs.Bytes.{AreBytes, be, be_at, word_bytes, words_at}
use Rattle.wire.proofs.Numbers.{be_at_below, cells, be_of}
use Rattle.wire.proofs.Undo.{cells_part, words_part}
use Rattle.wire.proofs.Words.{words_at_length}
use Rattle.rules.specs.Regions.{start_of, end_of, no_range, no_region, dump_right, table_rules, words_below, image_length, image_index, words_of}
use Rattle.rules.specs.States.{start_rules, fresh_state, idle_place, piece_words, good_state}
use Rattle.rules.specs.Packets.{sequence_count_of, unit_at, transaction_at}
use Rattle.rules.specs.Results.{answer_number}
use Rattle.rules.specs.Commands.{set_context}
use Rattle.rules.specs.Slots.{SlotArgs, slot_call, served, dump_apid, packet_header, longest_packet, next_words, packet_bytes}
use Rattle.rules.specs.Ground.{packet_fields, packet_number, read_packet}
use Rattle.rules.specs.Demand2.{SlotDone}
use Rattle.rules.specs.GoodWhen.{LiesIn}
use Rattle.rules.specs.ReadBack.{AreWords, SlotFits, packet_of}
use Rattle.rules.specs.declared.ActiveDump.{ActiveDump}
use Rattle.rules.specs.declared.Context.TheVariants.{Idle, Busy}
use Rattle.rules.specs.declared.DumpPacket.{DumpPacket}
use Rattle.rules.specs.declared.Range.{Range}
use Rattle.rules.specs.declared.Region.{Region}
use Rattle.rules.specs.declared.State.{State}
use Rattle.rules.proofs.Good.{DumpIs, dump_in, places_keep, GoodIs, good_in}
use Rattle.rules.proofs.PacketTests.{sent_before, CutIs, PacketIs, packet_out}
use Rattle.rules.proofs.Rules.{replicate_at}
use Rattle.rules.proofs.Slot.{slot}
use Rattle.rules.proofs.StaysGood.{idle_places, fresh_good}
use Rattle.rules.proofs.Table.{one_in, holds_any, image_index_lem}

-- THE BOX: one region, which is the requested range, with one dump under way

abbrev dump_of : DumpPacket → ActiveDump
dump_of f = record { transaction = f.header.transaction; range = f.range; sent = sent_before f }

abbrev regions_of : Range → List Region
regions_of r = record { range = r; load = false; dump = true } ∷ replicate 15 no_region

abbrev box_of : DumpPacket → State
box_of f =
    served (fresh_state (regions_of f.range) 1 (replicate 2 no_range) f.header.unit)
    (set_context (replicate 4 idle_place) 0 (Busy (dump_of f))) 3 f.header.count

abbrev data_of : List ℕ → List ℕ
data_of p = words_at (packet_fields p).words p packet_header

-- the packet's data stand in the image where its address says, among zeros
abbrev image_of : DumpPacket → List ℕ → List ℕ
image_of f ws = replicate (sent_before f) 0 ++ (ws ++ replicate (f.range.words - sent_before f - length ws) 0)

abbrev args_of : DumpPacket → List ℕ → SlotArgs
args_of f ws = record { tick = f.tick; image = image_of f ws; buffer = replicate longest_packet 0 }

-- IT IS GOOD

lies : (r : Range) → LiesIn dump_right (regions_of r) 1 r 0
lies r = record { in_use = omega arith; from = omega arith; to = omega arith; allowed = refl }

module _ (f : DumpPacket) (k : CutIs f) where
  table : table_rules (regions_of f.range) 1 ≡ true
  unfolding table_rules
  table =
      let r = f.range in
      rw (
        eq-eqb (start_of r % 4) 0 k.multiple,
        le-leb 1 r.words k.some,
        le-leb r.words 1048576 (omega arith),
        le-leb (end_of r) 4294967296 k.low,
        le-leb 0 (start_of r) (omega arith),
      )

  starts : f.header.unit ≤ 15 → start_rules (regions_of f.range) 1 (replicate 2 no_range) f.header.unit ≡ true
  unfolding start_rules
  starts h = rw (table, le-leb f.header.unit 15 h)

  dump_is : f.header.transaction ≤ 4095 → DumpIs (regions_of f.range) 1 (dump_of f)
  dump_is h =
      record {
        number = h;
        some = k.some;
        most = k.most;
        multiple = k.multiple;
        region = one_in dump_right (regions_of f.range) 1 f.range 0 (lies f.range);
        cut = k.cut;
        more = k.more;
      }

  box_good : f.header.unit ≤ 15 → f.header.transaction ≤ 4095 → f.header.count ≤ 16383 → good_state (box_of f) ≡ true
  box_good u t n =
      let rs = regions_of f.range in
      let g : GoodIs (fresh_state rs 1 (replicate 2 no_range) f.header.unit) = fresh_good rs 1 (replicate 2 no_range) f.header.unit (starts u) in
      good_in (box_of f)
      (record {
        rules = g.rules;
        last = g.last;
        replies = g.replies;
        values = g.values;
        packets = n;
        accepted = g.accepted;
        refused = g.refused;
        places =
            places_keep rs 1 (replicate 4 idle_place) g.places 0 (Busy (dump_of f)) (omega arith) (dump_in rs 1 (dump_of f) (dump_is t))
            (λ j l ne t' e. rw (idle_places j));
      })

-- ITS IMAGE

-- data among zeros
first_words : (ws : List ℕ) (n m : ℕ) → length ws ≡ min n m → take n (ws ++ replicate (m - length ws) 0) ≡ ws
first_words ws n m e =
    by_lt m n
    (λ l. let z : m - length ws ≡ 0 = omega arith in rw (z, append-nil) (take_all n ws (omega arith)))
    (λ l. take_at ws (replicate (m - length ws) 0) n (omega arith))

module _ (f : DumpPacket) (k : CutIs f) (ws : List ℕ) (e : length ws ≡ f.words) where
  image_length_lem : length (image_of f ws) ≡ f.range.words
  image_length_lem = let p = k.piece in let m = k.more in simp (length-append, length-replicate) (omega arith)

  image_fits : length (image_of f ws) ≡ image_length (regions_of f.range) 1
  unfolding words_below
  image_fits = image_length_lem ∙ omega arith

  image_start : (image_index (regions_of f.range) 1 f.range).0 ≡ 0
  unfolding words_below
  image_start =
      image_index_lem (regions_of f.range) 1 (table f k) f.range 0 k.some (holds_any dump_right (regions_of f.range) 1 f.range 0 (lies f.range))
      ∙ omega arith

  next_words_lem : next_words (box_of f) (image_of f ws) (dump_of f) ≡ ws
  unfolding next_words words_of
  next_words_lem =
      let l = image_length_lem in
      let rest = ws ++ replicate (f.range.words - sent_before f - length ws) 0 in
      rw (image_start, take_all f.range.words (image_of f ws) (omega arith), drop_at (replicate (sent_before f) 0) rest (sent_before f) (length-replicate _ _))
      (first_words ws (piece_words f.range) (f.range.words - sent_before f) (e ∙ k.piece))

-- words of 32 bits
zero_words : (n : ℕ) → AreWords (replicate n 0)
zero_words n i = omega (arith, replicate_at {A = ℕ} n i 0)

read_words : (n : ℕ) (p : List ℕ) (at : ℕ) → AreBytes p → AreWords (words_at n p at)
unfolding words_at
read_words zero p at b i = omega arith
read_words (suc n) p at b zero = be_at_below 4 p at b
read_words (suc n) p at b (suc i) = read_words n p (at + 4) b i

both_words : (xs ys : List ℕ) → AreWords xs → AreWords ys → AreWords (xs ++ ys)
both_words [] ys f g i = g i
both_words (x ∷ xs) ys f g zero = f 0
both_words (x ∷ xs) ys f g (suc i) = both_words xs ys (λ j. f (suc j)) g i

image_words : (f : DumpPacket) (ws : List ℕ) → AreWords ws → AreWords (image_of f ws)
image_words f ws h =
    let n : ℕ = f.range.words - sent_before f - length ws in
    both_words (replicate (sent_before f) 0) (ws ++ replicate n 0) (zero_words (sent_before f))
    (both_words ws (replicate n 0) h (zero_words n))

-- ITS PACKET

data_length : (p : List ℕ) → length (data_of p) ≡ (packet_fields p).words
data_length p = words_at_length (packet_fields p).words p packet_header

one_bit : (x : ℕ) → x < 2 → x % 2 ≡ 0 → x ≡ 0
one_bit x l e = omega arith

-- with version, type and second-header flag 0, the first two bytes are the APID
apid_alone : (x : ℕ) → x / 8192 ≡ 0 → x / 4096 % 2 ≡ 0 → x / 2048 % 2 ≡ 0 → x ≡ x % 2048
apid_alone x v t s =
    let a = one_bit (x / 4096) (omega arith) t in
    let b = one_bit (x / 2048) (omega arith) s in
    omega arith

module _ (p : List ℕ) (b : AreBytes p) where
  number_bytes : (n at x : ℕ) → x ≡ be_at n p at → be n x ≡ cells n p at
  number_bytes n at x e = ap (be n) e ∙ be_of n p at b

  -- the bytes of a packet with the fields and the data of p
  header_bytes : (ws : List ℕ) → PacketIs p → length ws ≡ (packet_fields p).words
      → packet_bytes (box_of (packet_fields p)) (packet_fields p).tick (dump_of (packet_fields p)) ws ≡ cells packet_header p 0 ++ word_bytes ws
  unfolding packet_bytes
  header_bytes ws is e =
      let kind = number_bytes 2 0 dump_apid (omega (arith, apid_alone (be_at 2 p 0) is.formed.version is.formed.type is.formed.second_header)) in
      let sequence = number_bytes 2 2 (16384 * 3 + sequence_count_of p) (omega arith) in
      let bytes = number_bytes 2 4 (packet_header + 4 * length ws - 7) (omega arith) in
      let identity = number_bytes 2 6 (4096 * unit_at p 6 + transaction_at p 6) (omega arith) in
      let here = number_bytes 4 20 (start_of (packet_fields p).range + 4 * sent_before (packet_fields p)) (omega arith) in
      let count = number_bytes 4 24 (length ws) e in
      λ i. kind i ++ sequence i ++ bytes i ++ identity i ++ be_of 4 p 8 b i ++ be_of 4 p 12 b i ++ be_of 4 p 16 b i ++ here i ++ count i ++ word_bytes ws

  packet_back : PacketIs p → packet_bytes (box_of (packet_fields p)) (packet_fields p).tick (dump_of (packet_fields p)) (data_of p) ≡ p
  packet_back is =
      let n = (packet_fields p).words in
      let m = is.bytes in
      let rest : length (drop packet_header p) ≤ 4 * n = simp length-drop (omega arith) in
      header_bytes (data_of p) is (data_length p)
      ∙ ap₂ (λ (xs ys : List ℕ). xs ++ ys)
      (cells_part packet_header p 0 (omega arith))
      (words_part n p packet_header b (omega arith) ∙ take_all (4 * n) (drop packet_header p) rest)
      ∙ take-append-drop packet_header p

-- THE SLOT

-- what the box serves is its one dump
serves_it : (f : DumpPacket) (c : SlotArgs) (x : SlotDone (box_of f) c (slot_call (box_of f) c)) → x.dump ≡ dump_of f
serves_it f c x =
    by_lt 0 x.k
    (λ l. let q : Busy (dump_of f) ≡ Idle = x.passed 0 l in let z : ◌≡◌ {A = ℕ} 0 1 = cc in absurd (omega arith))
    (λ l. let e : x.k ≡ 0 = omega arith in let q : Busy (dump_of f) ≡ Busy x.dump = rw e at x.busy in cc)

box_fits : (p : List ℕ) → AreBytes p → PacketIs p → SlotFits (box_of (packet_fields p)) (args_of (packet_fields p) (data_of p))
box_fits p b is =
    let f = packet_fields p in
    let x = b 6 in
    let y = b 7 in
    record {
      good = box_good f is.cut (omega arith) (omega arith) (omega arith);
      image = image_fits f is.cut (data_of p) (data_length p);
      buffer = omega (arith, length-replicate {A = ℕ} longest_packet 0);
      tick = be_at_below 4 p 8 b;
      words = image_words f (data_of p) (read_words f.words p packet_header b);
    }

pub read_slot : (p : List ℕ) → AreBytes p → packet_number (read_packet p).reading ≡ 0
    → (s : State) × (c : SlotArgs) × (length s.regions ≡ 16) × (length s.pools ≡ 2) × SlotFits s c × (answer_number (slot_call s c).answer ≡ 0)
    × (packet_of s c ≡ p)
read_slot p b h =
    let is = packet_out p h in
    let f = packet_fields p in
    let s = box_of f in
    let c = args_of f (data_of p) in
    let fit = box_fits p b is in
    let e = slot s c fit.good fit.image fit.buffer in
    let a = e.when.1 (0, omega arith, λ q. let z : ◌≡◌ {A = ℕ} 0 1 = cc in omega arith) in
    let x = e.done a in (
      s,
      c,
      refl,
      refl,
      fit,
      a,
      x.packet
          ∙ ap (λ (d : ActiveDump). packet_bytes s f.tick d (next_words s c.image d)) (serves_it f c x)
          ∙ ap (packet_bytes s f.tick (dump_of f)) (next_words_lem f is.cut (data_of p) (data_length p))
          ∙ packet_back p b is,
    )
