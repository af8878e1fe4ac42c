-- A load comes back: the words that it wrote, a dump of its range, and the packet that a slot makes of them.
-- Assumes nothing.
use mathlib.Core.Path.{◌≡◌, sym, ap, ◌∙◌}
use mathlib.Core.Bool.{true}
use mathlib.Core.List.{List, ◌++◌}
use Prim.Native.Nat.{ℕ, ◌+◌, ◌*◌, ◌%◌, ◌≤◌, ◌<◌}
use native.Mathlib.Decide.{ℕ_discrete}
use native.Mathlib.Omega.{arith}
use lib.ListN.{length, get_or, drop, take, take-append-drop}
use lib.Seq.{take_all, get_or-take, get_or-drop, ext_get_or}
use Rattle.wire.specs.Bytes.{word_bytes, words_at}
use Rattle.wire.specs.ByByte.{byte}
use Rattle.wire.proofs.ByByte.{at_two, at_four}
use Rattle.wire.proofs.Undo.{words_part}
use Rattle.wire.proofs.Words.{words_at_length, words_at_word}
use Rattle.rules.specs.Regions.{words_of}
use Rattle.rules.specs.States.{piece_words, context_at, good_state}
use Rattle.rules.specs.Packets.{function_code_of, command_transaction}
use Rattle.rules.specs.Cases.{range_of}
use Rattle.rules.specs.Commands.{CommandArgs, command_call, new_dump}
use Rattle.rules.specs.Results.{answer_length}
use Rattle.rules.specs.Slots.{SlotArgs, place_after, next_words, packet_bytes, slot_call}
use Rattle.rules.specs.Demand2.{IsAccepted, LoadAllowed, LoadDone, DumpDone, SlotDone}
use Rattle.rules.specs.PlainWords.{ImageFits}
use Rattle.rules.specs.LoadBack.{loaded, asked, sent, ThreeCalls, ComesBack, LoadBack}
use Rattle.rules.specs.declared.ActiveDump.{ActiveDump}
use Rattle.rules.specs.declared.Context.TheVariants.{Busy}
use Rattle.rules.specs.declared.Range.{Range}
use Rattle.rules.specs.declared.State.{State}
use Rattle.rules.proofs.AcceptedWhen.{accepted_when}
use Rattle.rules.proofs.Effects.{effects}
use Rattle.rules.proofs.GoodWhen.{good_when}
use Rattle.rules.proofs.Lawful.{slot_lent}
use Rattle.rules.proofs.Located.{words_sum}
use Rattle.rules.proofs.Passed.{Passed, passed_out}
use Rattle.rules.proofs.PlainBytes.{plain_bytes}
use Rattle.rules.proofs.PlainWords.{words_in_image}
use Rattle.rules.proofs.Shown.{packet_data, served_dump}
use Rattle.rules.proofs.Slot.{slot}
use Rattle.rules.proofs.StaysGood.{command_good}

-- AN ACCEPTED LOAD

module _ (s : State) (c : CommandArgs) (accepted : IsAccepted s c) (code : byte c.packet 6 ≡ 4) where
  abbrev range : Range
  range = range_of c.packet

  -- its function code, as demand 2 reads it
  load_code : function_code_of c.packet ≡ 4
  load_code = ap (λ (n : ℕ). n % 128) code

  -- all its tests passed
  lent : Passed s c
  lent = passed_out s c accepted

  -- it has 60 bytes and 1 to 11 words
  load_allowed : LoadAllowed s c.packet
  load_allowed = (((accepted_when s c lent.good lent.image lent.reply).load load_code).0 accepted).1

  -- it did what demand 2 says of a load
  load_done : LoadDone s c (command_call s c)
  load_done = (effects s c accepted).load load_code

  -- the image that it left is as long as the regions in use
  left_fits : ImageFits s (command_call s c).image
  left_fits = record { good = lent.good; as_long = load_done.as_long ∙ lent.image ∙ words_sum s.regions s.count }

  -- the words of the range in that image are the packet's from byte 16 on
  words_loaded : words_of s.regions s.count range (command_call s c).image ≡ words_at range.words c.packet 16
  words_loaded =
      let p = c.packet in
      let n = range.words in
      let done = load_done in
      let here = words_in_image s (command_call s c).image range done.region done.offset left_fits load_allowed.some done.lies in
      let at : (k : ℕ) → k < n → get_or (words_of s.regions s.count range (command_call s c).image) k 0 ≡ get_or (words_at n p 16) k 0 = λ k l.
      (here.word k l
      ∙ ap (λ (x : ℕ). get_or (command_call s c).image (x + k) 0) (sym done.index)
      ∙ done.written k l
      ∙ sym (at_four p (16 + 4 * k))
      ∙ sym (words_at_word n p 16 k l)) in
      ext_get_or 0 _ _ (here.count ∙ sym (words_at_length n p 16)) (λ k l. at k (rw here.count at l))

-- A SLOT THAT SERVES

-- the number in bytes 6 and 7 of a packet is its dump's
number_written : (s : State) (tick : ℕ) (d : ActiveDump) (ws rest : List ℕ) → d.transaction ≤ 4095
    → byte (packet_bytes s tick d ws ++ rest) 6 % 16 * 256 + byte (packet_bytes s tick d ws ++ rest) 7 ≡ d.transaction
unfolding packet_bytes
number_written s tick d ws rest h = omega arith

module _ (s : State) (c : SlotArgs) (good : good_state s ≡ true) (x : SlotDone s c (slot_call s c)) where
  -- the number in the buffer is the served dump's
  number_in_buffer : byte (slot_call s c).buffer 6 % 16 * 256 + byte (slot_call s c).buffer 7 ≡ x.dump.transaction
  number_in_buffer =
      let q = answer_length (slot_call s c).answer in
      rw (← take-append-drop q (slot_call s c).buffer, x.packet)
      (number_written s c.tick x.dump (next_words s c.image x.dump) (drop q (slot_call s c).buffer) (served_dump s c (slot_call s c) x good).number)

  -- a busy dump with the served dump's number is the served dump
  served_by_number : (i : ℕ) (d : ActiveDump) → i < 4 → context_at s.places i ≡ Busy d → x.dump.transaction ≡ d.transaction → x.dump ≡ d
  served_by_number i d l busy same =
      let p = place_after s.last x.k in
      elim (ℕ_discrete p i) [
        | yes e ↦ (let u : Busy x.dump ≡ Busy d = sym x.busy ∙ ap (context_at s.places) e ∙ busy in cc)
        | no n ↦ absurd (((good_when s).0 good).apart p i x.dump d (omega arith) l n x.busy busy same)
      ]

  -- the bytes from byte 28 on are those of the dump's next words
  data_in_buffer : (k : ℕ) → k < 4 * length (next_words s c.image x.dump)
      → byte (slot_call s c).buffer (28 + k) ≡ byte (word_bytes (next_words s c.image x.dump)) k
  data_in_buffer k l =
      let q = answer_length (slot_call s c).answer in
      let ws = next_words s c.image x.dump in
      let r = x.reported in
      sym (get_or-take q (slot_call s c).buffer (28 + k) 0 (omega arith))
      ∙ ap (λ (b : List ℕ). byte b (28 + k)) x.packet
      ∙ sym (get_or-drop 28 (packet_bytes s c.tick x.dump ws) k 0)
      ∙ ap (λ (b : List ℕ). byte b k) (packet_data s c.tick x.dump ws)

-- the next words of a new dump of at most a packet's words are all words of its range
all_words_next : (s : State) (image : List ℕ) (t : ℕ) (r : Range) → length (words_of s.regions s.count r image) ≤ 1016
    → next_words s image (new_dump t r) ≡ words_of s.regions s.count r image
unfolding next_words piece_words
all_words_next s image t r h = take_all 1016 (words_of s.regions s.count r image) h

-- THE THREE CALLS

module _ (s : State) (load dump : CommandArgs) (tick : ℕ) (buffer : List ℕ) (h : ThreeCalls s load dump tick buffer) where
  -- the state and the image that the load left
  abbrev middle : State
  middle = (loaded s load dump tick buffer).state

  abbrev image : List ℕ
  image = (loaded s load dump tick buffer).image

  -- the state that the dump left, and what the slot is lent with it
  abbrev last : State
  last = (asked s load dump tick buffer).state

  abbrev args : SlotArgs
  args = record { tick = tick; image = image; buffer = buffer }

  -- the dump's number, and the load's range
  abbrev number : ℕ
  number = command_transaction dump.packet

  abbrev wanted : Range
  wanted = range_of load.packet

  -- the dump's range is the load's
  same_range : range_of dump.packet ≡ wanted
  same_range =
      let start = at_four dump.packet 12 ∙ h.same_address ∙ sym (at_four load.packet 12) in
      let words = at_two dump.packet 10 ∙ h.same_size ∙ sym (at_two load.packet 10) in
      λ i. record { start = record { 0 = start i }; words = words i }

  -- the dump did what demand 2 says of a dump
  dump_done : DumpDone middle dump (range_of dump.packet) (asked s load dump tick buffer)
  dump_done = (effects middle dump h.dump_done).dump (ap (λ (n : ℕ). n % 128) h.dump_code)

  -- the state that the slot is handed is good
  last_good : good_state last ≡ true
  last_good = command_good middle dump h.dump_bytes (command_good s load h.load_bytes (passed_out s load h.load_done).good)

  -- the slot did what demand 2 says of a slot
  slot_served : SlotDone last args (sent s load dump tick buffer)
  slot_served = let fit = slot_lent last args last_good h.slot_done in (slot last args last_good fit.0 fit.1).done h.slot_done

  -- the slot served the dump that was asked for
  served_is_asked : slot_served.dump ≡ new_dump number wanted
  served_is_asked =
      let d = dump_done in
      let same = sym (number_in_buffer last args last_good slot_served) ∙ h.same_number ∙ sym (plain_bytes.command_fields dump.packet h.dump_bytes).transaction in
      served_by_number last args last_good slot_served d.i (new_dump number (range_of dump.packet)) d.rest.in_four d.now same
      ∙ ap (new_dump number) same_range

  -- the words of the range are the load's, by the last state's table too
  words_kept : words_of last.regions last.count wanted image ≡ words_at wanted.words load.packet 16
  words_kept =
      let before = (load_done s load h.load_done h.load_code).state in
      let after = dump_done.state in
      let regions = ap (λ (z : State). z.regions) after ∙ ap (λ (z : State). z.regions) before in
      let count = ap (λ (z : State). z.count) after ∙ ap (λ (z : State). z.count) before in
      (λ i. words_of (regions i) (count i) wanted image) ∙ words_loaded s load h.load_done h.load_code

  -- the words that the slot sent are the load's
  words_sent : next_words last image slot_served.dump ≡ words_at wanted.words load.packet 16
  words_sent =
      let most = (load_allowed s load h.load_done h.load_code).most in
      let few : length (words_of last.regions last.count wanted image) ≤ 1016 = (let n = ap length words_kept ∙ words_at_length wanted.words load.packet 16 in omega arith) in
      ap (next_words last image) served_is_asked ∙ all_words_next last image number wanted few ∙ words_kept

  -- the bytes that the slot sent are the load's
  comes_back : ComesBack s load dump tick buffer
  comes_back =
      let p = load.packet in
      let allowed = load_allowed s load h.load_done h.load_code in
      let bytes = allowed.bytes in
      let most = allowed.most in
      let size = at_two p 10 in
      let count = ap length words_sent ∙ words_at_length wanted.words p 16 in
      let part : word_bytes (next_words last image slot_served.dump) ≡ take (4 * wanted.words) (drop 16 p) =
      ap word_bytes words_sent ∙ words_part wanted.words p 16 h.load_bytes (omega arith) in
      record {
        reported = slot_served.reported ∙ ap (λ (m : ℕ). 28 + 4 * m) (count ∙ size);
        data_bytes = λ k l.
            data_in_buffer last args last_good slot_served k (omega arith)
            ∙ ap (λ (b : List ℕ). byte b k) part
            ∙ get_or-take (4 * wanted.words) (drop 16 p) k 0 (omega arith)
            ∙ get_or-drop 16 p k 0;
      }

pub load_back : LoadBack
load_back = comes_back
