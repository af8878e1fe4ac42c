-- A packet that is accepted, with one thing changed, gets the number of that thing.
-- Assumes nothing.
use Rattle.std.specs.Prelude.{Option, Some, None, Result, Ok, Err}
use mathlib.Core.Path.{◌≡◌, refl, sym, ap, ◌∙◌}
use mathlib.Core.Logic.{◌≢◌, inl, inr, ⊎_elim}
use mathlib.Core.Bool.{Bool, true, false, not, ◌&&◌}
use mathlib.Core.List.{List, ◌∷◌}
use Prim.Native.Nat.{ℕ, ◌+◌, ◌*◌, ◌/◌, ◌%◌, ◌≤◌, ◌<◌}
use native.Mathlib.Omega.{arith}
use lib.Dec.{leb, eqb}
use lib.Bits.{bit_xor, xor_comm}
use lib.ListN.{length, set, drop, take, length-set, get_or-eq_default}
use lib.Seq.{get_or-set_same, get_or-set_other, ext_get_or}
use borrow.Author.Tests.{le-ltb, eqb-true, eqb-false, eq-eqb, ne_eqb, not-false, le-leb}
use Rattle.lists.proofs.Tests.{either, contra, and_right, and_both, by_lt}
use Rattle.wire.specs.Bytes.{AreBytes}
use Rattle.wire.specs.ByByte.{byte, two, four}
use Rattle.wire.specs.Xor.{xor_all}
use Rattle.wire.proofs.ByByte.{at_four}
use Rattle.wire.proofs.Xor.{xor_twice, xor_set}
use Rattle.rules.specs.States.{piece_words}
use Rattle.rules.specs.Packets.{primary_rules, well_formed, apid_of, command_apid, decode, packet_length, command_unit, zero_rules}
use Rattle.rules.specs.Results.{number, answer_number, answer_length, Row, row, lowest, lent_rows}
use Rattle.rules.specs.Cases.{TelemetryFormed}
use Rattle.rules.specs.Commands.{CommandArgs, Outcome, is_unknown, wrong_length, command_rows, refused_command, conclude, command_call}
use Rattle.rules.specs.Slots.{dump_apid, packet_header}
use Rattle.rules.specs.Ground.{unreadable, reader_rows, reading_number, fields_read, conclude_read, read_command, packet_fields, packet_rows, packet_number, conclude_packet, read_packet}
use Rattle.rules.specs.OneFault.{OtherApid, OtherCode, OtherLength, OtherUnit, Same, LayoutSpoiled, call_with, Gets, CommandFault, number_read, ReaderFault, number_given, TelemetrySpoiled, ButFour, PacketFault, OneFault}
use Rattle.rules.specs.declared.Command.{Command}
use Rattle.rules.specs.declared.Command.TheVariants.{Dump, Cancel, Load, PoolStatistics, SymbolValue, DumpSymbol}
use Rattle.rules.specs.declared.Refusal.{Refusal}
use Rattle.rules.specs.declared.Refusal.TheVariants as refusal
use Rattle.rules.specs.declared.State.{State}
use Rattle.rules.proofs.LowestNumber.{number_some}
use Rattle.rules.proofs.Passed.{NoneApplies, lowest_none, none_lowest, lowest_past, passed_out}
use Rattle.rules.proofs.Allowed.{formed_out, formed_in, decode_other}
use Rattle.rules.proofs.PacketTests.{CutIs, cut_out, PacketIs, telemetry_out, telemetry_in, packet_out}
use Rattle.rules.proofs.PlainBytes.{plain_bytes}

-- ROWS

-- a row that applies gives its refusal
row_applies : (r : Refusal) (b : Bool) (rows : List Row) → b ≡ true → lowest (row r b ∷ rows) ≡ Err r
unfolding lowest
row_applies r b rows e = rw e

-- a test that can't pass fails
fails : (b : Bool) → (b ≡ true → ⊥) → b ≡ false
fails b f = either b (λ e. absurd (f e)) (λ e. e)

-- THE COMMAND OF A CODE

-- the packet bytes of a command, and 0 of none
abbrev length_for : Option Command → ℕ
length_for None = 0
length_for (Some k) = packet_length k

-- a command has 10 bytes or more, so that a known one is one of 10 bytes or more
command_least : (k : Command) → 10 ≤ packet_length k
command_least (Dump q) = omega arith
command_least Cancel = omega arith
command_least (Load q) = omega arith
command_least (PoolStatistics i) = omega arith
command_least (SymbolValue n) = omega arith
command_least (DumpSymbol q) = omega arith

known_least : (d : Option Command) → is_unknown d ≡ false → 10 ≤ length_for d
known_least None e = absurd (contra refl e)
known_least (Some k) e = command_least k

least_known : (d : Option Command) → 10 ≤ length_for d → is_unknown d ≡ false
least_known None l = absurd (omega arith)
least_known (Some k) l = refl

-- number 7 passes if the length is that of the command, and fails if it is not
length_passed : (p : List ℕ) (d : Option Command) → is_unknown d ≡ false → wrong_length p d ≡ false → length p ≡ length_for d
length_passed p None k e = absurd (contra refl k)
length_passed p (Some j) k e = eqb-true _ _ (not-false _ e)

length_passes : (p : List ℕ) (d : Option Command) → length p ≡ length_for d → wrong_length p d ≡ false
length_passes p None e = refl
length_passes p (Some k) e = ap not (eq-eqb _ _ e)

length_fails : (p : List ℕ) (d : Option Command) → 10 ≤ length_for d → length p ≢ length_for d → wrong_length p d ≡ true
length_fails p None l n = absurd (omega arith)
length_fails p (Some k) l n = ap not (ne_eqb _ _ n)

-- packets with the same byte 6 have commands of the same length
same_length_for : (p q : List ℕ) → byte q 6 ≡ byte p 6 → length_for (decode q) ≡ length_for (decode p)
unfolding decode
same_length_for p q e =
    let f : ℕ = byte p 6 % 128 in
    rw e
    (either (eqb f 0)
    (λ a. rw a)
    (λ a. either (eqb f 1)
    (λ b. rw (a, b))
    (λ b. either (eqb f 4)
    (λ c. rw (a, b, c))
    (λ c. either (eqb f 7)
    (λ d. rw (a, b, c, d))
    (λ d. either (eqb f 8)
    (λ g. rw (a, b, c, d, g))
    (λ g. either (eqb f 9)
    (λ h. rw (a, b, c, d, g, h))
    (λ h. rw (a, b, c, d, g, h))))))))

-- THE PRIMARY HEADER IN BYTES

abbrev apid_in : List ℕ → ℕ
apid_in p = byte p 0 % 8 * 256 + byte p 1

-- so many bytes or more; the high five bits of byte 0, which are version, type and second-header flag; the sequence flags; the length field
record Framed (least high : ℕ) (p : List ℕ) : Type 0 where
  bytes : least ≤ length p
  head : byte p 0 / 8 ≡ high
  flags : byte p 2 / 64 ≡ 3
  field : two p 4 + 7 ≡ length p

-- version 0, and type and second-header flag both 1 or both 0
head_ones : (x : ℕ) → x / 32 ≡ 0 → x / 16 % 2 ≡ 1 → x / 8 % 2 ≡ 1 → x / 8 ≡ 3
head_ones x v t s = let l : x < 32 = omega arith in let m : x / 16 ≡ 1 = omega arith in let n : 16 ≤ x = omega arith in omega arith

even_bit : (y : ℕ) → y < 2 → y % 2 ≡ 0 → y ≡ 0
even_bit y l e = omega arith

head_zeros : (x : ℕ) → x / 32 ≡ 0 → x / 16 % 2 ≡ 0 → x / 8 % 2 ≡ 0 → x / 8 ≡ 0
head_zeros x v t s = let m = even_bit (x / 16) (omega arith) t in even_bit (x / 8) (omega arith) s

-- the APID in bytes
apid_is : (p : List ℕ) → AreBytes p → apid_of p ≡ apid_in p
apid_is p b = (plain_bytes.header_fields p b).apid

-- what stays of it where one thing is changed
module _ {least high : ℕ} (p q : List ℕ) (f : Framed least high p) (six : 6 ≤ least) where
  -- nothing of the header
  frame_stays : length q ≡ length p → ((i : ℕ) → i < 6 → Same p q i) → Framed least high q × (apid_in q ≡ apid_in p)
  frame_stays e same =
      let l = f.bytes in
      let at : (i : ℕ) → i < 6 → byte q i ≡ byte p i = λ i h. same i h (omega arith) (omega arith) in
      let first = at 0 (omega arith) in
      let second = at 1 (omega arith) in
      let fifth = at 4 (omega arith) in
      let sixth = at 5 (omega arith) in (
        record {
          bytes = omega arith;
          head = ap (λ (n : ℕ). n / 8) first ∙ f.head;
          flags = ap (λ (n : ℕ). n / 64) (at 2 (omega arith)) ∙ f.flags;
          field = let g = f.field in omega arith;
        },
        λ i. first i % 8 * 256 + second i,
      )

  -- the APID
  frame_but_apid : OtherApid p q → ((i : ℕ) → i ≢ 0 → i ≢ 1 → i < 6 → Same p q i) → Framed least high q
  frame_but_apid o same =
      let l = f.bytes in
      let e = o.as_long in
      let at : (i : ℕ) → i ≢ 0 → i ≢ 1 → i < 6 → byte q i ≡ byte p i = λ i m n h. same i m n h (omega arith) (omega arith) in
      let fifth = at 4 (omega arith) (omega arith) (omega arith) in
      let sixth = at 5 (omega arith) (omega arith) (omega arith) in
      record {
        bytes = omega arith;
        head = o.head ∙ f.head;
        flags = ap (λ (n : ℕ). n / 64) (at 2 (omega arith) (omega arith) (omega arith)) ∙ f.flags;
        field = let g = f.field in omega arith;
      }

  -- the length field
  frame_but_field : least ≤ length q → two q 4 + 7 ≡ length q → ((i : ℕ) → i < 4 → Same p q i) → Framed least high q × (apid_in q ≡ apid_in p)
  frame_but_field l field same =
      let m = f.bytes in
      let at : (i : ℕ) → i < 4 → byte q i ≡ byte p i = λ i h. same i h (omega arith) (omega arith) in
      let first = at 0 (omega arith) in
      let second = at 1 (omega arith) in (
        record {
          bytes = l;
          head = ap (λ (n : ℕ). n / 8) first ∙ f.head;
          flags = ap (λ (n : ℕ). n / 64) (at 2 (omega arith)) ∙ f.flags;
          field = field;
        },
        λ i. first i % 8 * 256 + second i,
      )

-- a byte more or less
by_one_apart : (p q : List ℕ) → OtherLength p q → (length p ≤ length q + 1) × (length q ≢ length p)
by_one_apart p q o = ⊎_elim (λ e. (omega arith, omega arith)) (λ e. (omega arith, omega arith)) o.by_one

-- a number in four bytes that are alike
four_alike : (p q : List ℕ) (at : ℕ) → ((i : ℕ) → at ≤ i → i < at + 4 → byte q i ≡ byte p i) → four q at ≡ four p at
four_alike p q at same =
    let a = same at (omega arith) (omega arith) in
    let b = same (at + 1) (omega arith) (omega arith) in
    let c = same (at + 2) (omega arith) (omega arith) in
    let d = same (at + 3) (omega arith) (omega arith) in
    λ i. ((a i * 256 + b i) * 256 + c i) * 256 + d i

-- THE LAYOUT OF A COMMAND PACKET IN BYTES

-- what number 4 asks: version 0, type 1 and second-header flag 1 are 3 in five bits
record Shaped (p : List ℕ) : Type 0 where
  frame : Framed 8 3 p
  zero_bit : byte p 6 / 128 ≡ 0
  check : xor_all p ≡ 255

module _ (p : List ℕ) (b : AreBytes p) where
  -- it passes exactly in that layout
  shaped_out : well_formed p ≡ true → Shaped p
  shaped_out e =
      let f = formed_out p e in
      let h = plain_bytes.header_fields p b in
      record {
        frame =
            record {
              bytes = f.bytes;
              head = head_ones (byte p 0) (sym h.version ∙ f.version) (sym h.type ∙ f.type) (sym h.second_header ∙ f.second_header);
              flags = sym h.sequence_flags ∙ f.sequence_flags;
              field = ap (λ (n : ℕ). n + 7) (sym h.length_field) ∙ f.length_field;
            };
        zero_bit = f.zero_bit;
        check = f.check;
      }

  shaped_in : Shaped p → well_formed p ≡ true
  shaped_in s =
      let h = plain_bytes.header_fields p b in
      let e = s.frame.head in
      formed_in p (record {
        bytes = s.frame.bytes;
        version = h.version ∙ omega arith;
        type = h.type ∙ omega arith;
        second_header = h.second_header ∙ omega arith;
        sequence_flags = h.sequence_flags ∙ s.frame.flags;
        length_field = ap (λ (n : ℕ). n + 7) h.length_field ∙ s.frame.field;
        zero_bit = s.zero_bit;
        check = s.check;
      })

-- a spoiled header does not pass
spoiled : (p : List ℕ) → LayoutSpoiled p → Shaped p → ⊥
spoiled p (inl l) s = let m = s.frame.bytes in omega arith
spoiled p (inr (inl n)) s = let e = s.frame.head in n (omega arith)
spoiled p (inr (inr (inl n))) s = let e = s.frame.head in n (omega arith)
spoiled p (inr (inr (inr (inl n)))) s = let e = s.frame.head in n (omega arith)
spoiled p (inr (inr (inr (inr (inl n))))) s = n s.frame.flags
spoiled p (inr (inr (inr (inr (inr (inl n)))))) s = n s.zero_bit
spoiled p (inr (inr (inr (inr (inr (inr (inl n))))))) s = n s.frame.field
spoiled p (inr (inr (inr (inr (inr (inr (inr n))))))) s = n s.check

-- THE TESTS OF A COMMAND PACKET that the command call and the command reader share, and the rows after them

abbrev tests : List ℕ → List Row → List Row
tests p rest =
    row refusal.Malformed (not (well_formed p))
    ∷ row refusal.OtherApid (not (eqb (apid_of p) command_apid))
    ∷ row refusal.UnknownCode (is_unknown (decode p))
    ∷ row refusal.PacketLength (wrong_length p (decode p))
    ∷ rest

-- what a packet is that passes them
record Right (p : List ℕ) : Type 0 where
  shape : Shaped p
  apid : apid_in p ≡ 1604
  known : 10 ≤ length_for (decode p)
  bytes : length p ≡ length_for (decode p)

module _ (p : List ℕ) (b : AreBytes p) where
  -- a packet that passed them is right
  passed_right : well_formed p ≡ true → apid_of p ≡ 1604 → is_unknown (decode p) ≡ false → wrong_length p (decode p) ≡ false → Right p
  passed_right f a k l =
      record {
        shape = shaped_out p b f;
        apid = sym (apid_is p b) ∙ a;
        known = known_least (decode p) k;
        bytes = length_passed p (decode p) k l;
      }

  apid_test : apid_in p ≡ 1604 → eqb (apid_of p) command_apid ≡ true
  apid_test e = eq-eqb _ _ (apid_is p b ∙ e)

  module _ (rest : List Row) where
    -- the first of them that fails gives its number
    shape_refused : (Shaped p → ⊥) → lowest (tests p rest) ≡ Err refusal.Malformed
    shape_refused n = row_applies _ _ _ (ap not (fails (well_formed p) (λ e. n (shaped_out p b e))))

    apid_refused : Shaped p → apid_in p ≢ 1604 → lowest (tests p rest) ≡ Err refusal.OtherApid
    apid_refused s n =
        lowest_past 1 (tests p rest) (ap not (shaped_in p b s), tt)
        ∙ row_applies _ _ _ (ap not (ne_eqb _ _ (λ e. n (sym (apid_is p b) ∙ e))))

    code_refused : Shaped p → apid_in p ≡ 1604 → decode p ≡ None → lowest (tests p rest) ≡ Err refusal.UnknownCode
    code_refused s a u =
        lowest_past 2 (tests p rest) (ap not (shaped_in p b s), (ap not (apid_test a), tt)) ∙ row_applies _ _ _ (ap is_unknown u)

    length_refused : Shaped p → apid_in p ≡ 1604 → 10 ≤ length_for (decode p) → length p ≢ length_for (decode p)
        → lowest (tests p rest) ≡ Err refusal.PacketLength
    length_refused s a k n =
        lowest_past 3 (tests p rest) (ap not (shaped_in p b s), (ap not (apid_test a), (least_known (decode p) k, tt)))
        ∙ row_applies _ _ _ (length_fails p (decode p) k n)

    -- where none fails the rows after them decide
    tests_pass : Right p → lowest (tests p rest) ≡ lowest rest
    tests_pass r =
        lowest_past 4 (tests p rest)
        (ap not (shaped_in p b r.shape), (ap not (apid_test r.apid), (least_known (decode p) r.known, (length_passes p (decode p) r.bytes, tt))))

-- THE CHECK BYTE

-- two bytes that an exclusive or can't tell apart are alike
xor_alike : (v w x : ℕ) → x ≡ bit_xor v (bit_xor w x) → v ≡ w
xor_alike v w x e =
    sym (xor_twice x v)
    ∙ ap (bit_xor x) (xor_comm x v ∙ ap (bit_xor v) e ∙ xor_twice v (bit_xor w x) ∙ xor_comm w x)
    ∙ xor_twice x w

module _ (p q : List ℕ) (long : 7 < length p) (as_long : length q ≡ length p) (same : (i : ℕ) → i ≢ 7 → Same p q i) where
  -- a packet that differs in byte 7 alone is the other with that byte
  set_alone : q ≡ set p 7 (byte q 7)
  set_alone =
      ext_get_or 0 q (set p 7 (byte q 7)) (as_long ∙ sym (length-set p 7 (byte q 7)))
      (λ i l.
      either (eqb i 7)
      (λ e. let h = eqb-true i 7 e in rw h (sym (get_or-set_same p 7 (byte q 7) 0 long)))
      (λ e. let n = eqb-false i 7 e in same i n (omega arith) l ∙ sym (get_or-set_other p 7 i (byte q 7) 0 n)))

  -- so that both can't have the right check byte
  check_changed : byte q 7 ≢ byte p 7 → xor_all p ≡ 255 → xor_all q ≢ 255
  check_changed n x e =
      n (xor_alike (byte q 7) (byte p 7) 255
      (sym e ∙ ap xor_all set_alone ∙ xor_set p 7 (byte q 7) long ∙ ap (λ (y : ℕ). bit_xor (byte q 7) (bit_xor (byte p 7) y)) x))

-- ONE THING CHANGED in a packet that passes them

module _ (p q : List ℕ) (b : AreBytes q) (r : Right p) where
  -- what of it the changed packet needs
  eight : 8 ≤ length p
  eight = r.shape.frame.bytes

  zero_bit_stays : byte q 6 ≡ byte p 6 → byte q 6 / 128 ≡ 0
  zero_bit_stays e = ap (λ (n : ℕ). n / 128) e ∙ r.shape.zero_bit

  -- each change is found by its own test
  apid_fault : (rest : List Row) → OtherApid p q → ((i : ℕ) → i ≢ 0 → i ≢ 1 → i ≢ 7 → Same p q i) → xor_all q ≡ 255
      → lowest (tests q rest) ≡ Err refusal.OtherApid
  apid_fault rest o same x =
      let l = eight in
      let m = o.as_long in
      let code = same 6 (omega arith) (omega arith) (omega arith) (omega arith) (omega arith) in
      let frame = frame_but_apid p q r.shape.frame (omega arith) o (λ i m n h. same i m n (omega arith)) in
      apid_refused q b rest (record { frame = frame; zero_bit = zero_bit_stays code; check = x }) (λ h. o.apid (h ∙ sym r.apid))

  code_fault : (rest : List Row) → OtherCode p q → ((i : ℕ) → i ≢ 6 → i ≢ 7 → Same p q i) → xor_all q ≡ 255
      → lowest (tests q rest) ≡ Err refusal.UnknownCode
  code_fault rest o same x =
      let s = o.seven_bits in
      let e : byte q 6 ≡ byte q 6 % 128 = omega arith in
      let (n₀, n₁, n₄, n₇, n₈, n₉) = o.none_of_six in
      let (frame, apid) = frame_stays p q r.shape.frame (omega arith) o.as_long (λ i h. same i (omega arith) (omega arith)) in
      code_refused q b rest (record { frame = frame; zero_bit = omega arith; check = x }) (apid ∙ r.apid)
      (decode_other q (λ h. n₀ (e ∙ h)) (λ h. n₁ (e ∙ h)) (λ h. n₄ (e ∙ h)) (λ h. n₇ (e ∙ h)) (λ h. n₈ (e ∙ h)) (λ h. n₉ (e ∙ h)))

  bytes_fault : (rest : List Row) → OtherLength p q → ((i : ℕ) → i ≢ 4 → i ≢ 5 → i ≢ 7 → Same p q i) → xor_all q ≡ 255
      → lowest (tests q rest) ≡ Err refusal.PacketLength
  bytes_fault rest o same x =
      let k = r.known in
      let g = r.bytes in
      let (l, n) = by_one_apart p q o in
      let code = same 6 (omega arith) (omega arith) (omega arith) (omega arith) (omega arith) in
      let e = same_length_for p q code in
      let (frame, apid) = frame_but_field p q r.shape.frame (omega arith) (omega arith) o.field (λ i h. same i (omega arith) (omega arith) (omega arith)) in
      length_refused q b rest (record { frame = frame; zero_bit = zero_bit_stays code; check = x }) (apid ∙ r.apid) (omega arith) (omega arith)

  -- another unit passes them
  unit_passes : OtherUnit p q → ((i : ℕ) → i ≢ 7 → i ≢ 8 → Same p q i) → xor_all q ≡ 255 → Right q
  unit_passes o same x =
      let l = eight in
      let m = o.as_long in
      let code = same 6 (omega arith) (omega arith) (omega arith) (omega arith) in
      let e = same_length_for p q code in
      let (frame, apid) = frame_stays p q r.shape.frame (omega arith) o.as_long (λ i h. same i (omega arith) (omega arith)) in
      record {
        shape = record { frame = frame; zero_bit = zero_bit_stays code; check = x };
        apid = apid ∙ r.apid;
        known = let k = r.known in omega arith;
        bytes = let k = r.bytes in omega arith;
      }

  check_fault : (rest : List Row) → length q ≡ length p → byte q 7 ≢ byte p 7 → ((i : ℕ) → i ≢ 7 → Same p q i)
      → lowest (tests q rest) ≡ Err refusal.Malformed
  check_fault rest l n same = shape_refused q b rest (λ s. check_changed p q eight l same n r.shape.check s.check)

-- THE COMMAND CALL

module _ (s : State) (c : CommandArgs) (q : List ℕ) (h : answer_number (command_call s c).answer ≡ 0) where
  abbrev other : CommandArgs
  other = record { packet = q; symbols = c.symbols; image = c.image; reply = c.reply }

  -- numbers 1, 2 and 3 do not read the packet
  lent_passes : NoneApplies (take 3 (command_rows s other))
  unfolding command_rows lent_rows
  lent_passes = let p = passed_out s c h in (ap not p.good, (ap not (eq-eqb _ _ p.image), (le-ltb _ _ p.reply, tt)))

  -- a call whose first row that applies is r gets its number, and image and reply stay
  gets : (r : Refusal) → lowest (tests q (drop 7 (command_rows s other))) ≡ Err r → Gets s c q (number r) (refused_command s c r).state
  unfolding command_call command_rows lent_rows
  gets r e =
      let call : call_with s c q ≡ refused_command s other r = ap (conclude s other) (lowest_past 3 (command_rows s other) lent_passes ∙ e) in
      record {
        number = ap (λ (o : Outcome). answer_number o.answer) call;
        state = ap (λ (o : Outcome). o.state) call;
        image = ap (λ (o : Outcome). o.image) call;
        reply = (ap (λ (o : Outcome). o.buffer) call, ap (λ (o : Outcome). answer_length o.answer) call);
      }

  -- the row after the shared tests is that of the unit
  unit_refused : command_unit q ≢ s.unit → lowest (drop 7 (command_rows s other)) ≡ Err refusal.OtherUnit
  unfolding command_rows lent_rows
  unit_refused n = row_applies _ _ _ (ap not (ne_eqb _ _ n))

  command_fault : AreBytes c.packet → AreBytes q → CommandFault s c q
  command_fault b d =
      let p = passed_out s c h in
      let r = passed_right c.packet b p.shape p.apid p.tests.laid.known p.tests.laid.bytes in
      let rest = drop 7 (command_rows s other) in
      record {
        apid = λ o same x. gets refusal.OtherApid (apid_fault c.packet q d r rest o same x);
        code = λ o same x. gets refusal.UnknownCode (code_fault c.packet q d r rest o same x);
        bytes = λ o same x. gets refusal.PacketLength (bytes_fault c.packet q d r rest o same x);
        unit = λ o same x.
            gets refusal.OtherUnit
            (tests_pass q d rest (unit_passes c.packet q d r o same x)
            ∙ unit_refused (λ e. o.unit (sym ((plain_bytes.header_fields q d).unit 8) ∙ e ∙ sym p.unit ∙ (plain_bytes.header_fields c.packet b).unit 8)));
        check = λ l n same. gets refusal.Malformed (check_fault c.packet q d r rest l n same);
        header = λ n. gets refusal.Malformed (shape_refused q d rest (spoiled q n));
      }

-- THE COMMAND READER

-- an answer of 0 is no refusal
read_concluded : (p : List ℕ) (v : Result (Unit {0}) Refusal) → reading_number (conclude_read p v).reading ≡ 0 → v ≡ (Ok tt)
read_concluded p (Ok tt) h = refl
read_concluded p (Err r) h = let l = number_some r in absurd (omega arith)

-- none of the rows of a packet that is read applies
read_passed : (p : List ℕ) → number_read p ≡ 0 → NoneApplies (reader_rows p)
unfolding read_command
read_passed p h = lowest_none (reader_rows p) (read_concluded p (lowest (reader_rows p)) h)

-- its number is that of the first row that applies
read_refused : (q : List ℕ) (r : Refusal) → lowest (tests q (drop 4 (reader_rows q))) ≡ Err r → number_read q ≡ number r
unfolding read_command reader_rows
read_refused q r e = ap (λ (v : Result (Unit {0}) Refusal). reading_number (conclude_read q v).reading) e

-- a known command is read
known_read : (q : List ℕ) (d : Option Command) → 10 ≤ length_for d → reading_number (fields_read q d).reading ≡ 0
known_read q None l = absurd (omega arith)
known_read q (Some k) l = refl

-- a right packet whose fields pass is read
read_accepted : (q : List ℕ) → AreBytes q → Right q → unreadable q (decode q) ≡ false → number_read q ≡ 0
unfolding read_command reader_rows
read_accepted q b r u =
    let rest : List Row = drop 4 (reader_rows q) in
    ap (λ (v : Result (Unit {0}) Refusal). reading_number (conclude_read q v).reading) (tests_pass q b rest r ∙ none_lowest rest (u, tt))
    ∙ known_read q (decode q) r.known

-- packets with the same byte 6 and the same bytes from byte 9 on have the same command, and pass number 9 alike
module _ (p q : List ℕ) (code : byte q 6 ≡ byte p 6) (after : (i : ℕ) → 9 ≤ i → byte q i ≡ byte p i) where
  decode_alike : decode q ≡ decode p
  unfolding decode
  decode_alike =
      rw (
        code,
        after 10 (omega arith),
        after 11 (omega arith),
        after 12 (omega arith),
        after 13 (omega arith),
        after 14 (omega arith),
        after 15 (omega arith),
        after 60 (omega arith),
        after 61 (omega arith),
        after 62 (omega arith),
        after 63 (omega arith),
        after 64 (omega arith),
        after 65 (omega arith),
      )

  zeros_alike : (k : Command) → zero_rules q k ≡ zero_rules p k
  unfolding zero_rules
  zeros_alike (Dump r) = refl
  zeros_alike Cancel = refl
  zeros_alike (Load r) = refl
  zeros_alike (PoolStatistics i) = refl
  zeros_alike (SymbolValue n) = rw (after 11 (omega arith))
  zeros_alike (DumpSymbol r) = rw (after 11 (omega arith), after 66 (omega arith), after 67 (omega arith))

  unreadable_alike : (d : Option Command) → unreadable q d ≡ unreadable p d
  unreadable_alike None = refl
  unreadable_alike (Some k) = rw (zeros_alike k)

  readable_alike : unreadable p (decode p) ≡ false → unreadable q (decode q) ≡ false
  readable_alike u = ap (unreadable q) decode_alike ∙ unreadable_alike (decode p) ∙ u

-- the bytes past the end of two packets of one length are alike too
past_alike : (p q : List ℕ) → length q ≡ length p → (i : ℕ) → Same p q i → byte q i ≡ byte p i
past_alike p q e i same =
    by_lt i (length p) (λ l. same l (omega arith))
    (λ l. get_or-eq_default q 0 (omega arith) ∙ sym (get_or-eq_default p 0 l))

reader_fault : (p q : List ℕ) → AreBytes p → AreBytes q → number_read p ≡ 0 → ReaderFault p q
unfolding reader_rows
reader_fault p q b d h =
    let (shape, (apid, (known, (bytes, (fields, end))))) = read_passed p h in
    let r = passed_right p b (not-false _ shape) (eqb-true _ _ (not-false _ apid)) known bytes in
    let rest : List Row = drop 4 (reader_rows q) in
    record {
      apid = λ o same x. read_refused q refusal.OtherApid (apid_fault p q d r rest o same x);
      code = λ o same x. read_refused q refusal.UnknownCode (code_fault p q d r rest o same x);
      bytes = λ o same x. read_refused q refusal.PacketLength (bytes_fault p q d r rest o same x);
      unit = λ o same x.
          let at : (i : ℕ) → i ≢ 7 → i ≢ 8 → byte q i ≡ byte p i = λ i m n. past_alike p q o.as_long i (same i m n) in
          read_accepted q d (unit_passes p q d r o same x)
          (readable_alike p q (at 6 (omega arith) (omega arith)) (λ i l. at i (omega arith) (omega arith)) fields);
      check = λ l n same. read_refused q refusal.Malformed (check_fault p q d r rest l n same);
      header = λ n. read_refused q refusal.Malformed (shape_refused q d rest (spoiled q n));
    }

-- THE DUMP PACKET READER

-- the bytes of a packet that passes 4, 5 and 7: version 0, type 0 and second-header flag 0 are 0
record Given (p : List ℕ) : Type 0 where
  frame : Framed 28 0 p
  apid : apid_in p ≡ 788
  some : 1 ≤ four p 24
  most : four p 24 ≤ 1016
  bytes : length p ≡ 28 + 4 * four p 24

-- what number 7 tests
abbrev words_right : List ℕ → Bool
words_right p =
    leb 1 (packet_fields p).words && leb (packet_fields p).words (piece_words (packet_fields p).range) && eqb (length p) (28 + 4 * (packet_fields p).words)

-- a spoiled header does not pass 4
telemetry_spoiled : (p : List ℕ) → TelemetrySpoiled p → Framed 28 0 p → ⊥
telemetry_spoiled p (inl l) s = let m = s.bytes in omega arith
telemetry_spoiled p (inr (inl n)) s = let e = s.head in n (omega arith)
telemetry_spoiled p (inr (inr (inl n))) s = let e = s.head in n (omega arith)
telemetry_spoiled p (inr (inr (inr (inl n)))) s = let e = s.head in n (omega arith)
telemetry_spoiled p (inr (inr (inr (inr (inl n))))) s = n s.flags
telemetry_spoiled p (inr (inr (inr (inr (inr n))))) s = n s.field

module _ (p : List ℕ) (b : AreBytes p) where
  -- the bytes of a packet that passed its tests
  telemetry_frame : TelemetryFormed p → Framed 28 0 p
  telemetry_frame f =
      let h = plain_bytes.header_fields p b in
      record {
        bytes = f.bytes;
        head = head_zeros (byte p 0) (sym h.version ∙ f.version) (sym h.type ∙ f.type) (sym h.second_header ∙ f.second_header);
        flags = sym h.sequence_flags ∙ f.sequence_flags;
        field = ap (λ (n : ℕ). n + 7) (sym h.length_field) ∙ f.length_field;
      }

  given_out : PacketIs p → Given p
  unfolding piece_words
  given_out i =
      let e = at_four p 24 in
      record {
        frame = telemetry_frame i.formed;
        apid = sym (apid_is p b) ∙ i.apid;
        some = let l = i.some in omega arith;
        most = let l = i.most in omega arith;
        bytes = let l = i.bytes in omega arith;
      }

  -- numbers 4, 5 and 7 pass
  frame_test : Framed 28 0 p → not (leb packet_header (length p) && primary_rules 0 0 p) ≡ false
  frame_test s =
      let h = plain_bytes.header_fields p b in
      let e = s.head in
      ap not (telemetry_in p (record {
        bytes = s.bytes;
        version = h.version ∙ omega arith;
        type = h.type ∙ omega arith;
        second_header = h.second_header ∙ omega arith;
        sequence_flags = h.sequence_flags ∙ s.flags;
        length_field = ap (λ (n : ℕ). n + 7) h.length_field ∙ s.field;
      }))

  apid_right : apid_in p ≡ 788 → not (eqb (apid_of p) dump_apid) ≡ false
  apid_right e = ap not (eq-eqb _ _ (apid_is p b ∙ e))

  -- the length of a packet that passes 7
  words_out : words_right p ≡ true → length p ≡ 28 + 4 * four p 24
  words_out t =
      let w : ℕ = (packet_fields p).words in
      let l = eqb-true (length p) (28 + 4 * w) (and_right (leb 1 w && leb w (piece_words (packet_fields p).range)) (eqb (length p) (28 + 4 * w)) t) in
      let e = at_four p 24 in
      omega arith

  words_in : Given p → words_right p ≡ true
  unfolding piece_words
  words_in g =
      let w : ℕ = (packet_fields p).words in
      let e = at_four p 24 in
      let some : 1 ≤ w = (let x = g.some in omega arith) in
      let most : w ≤ 1016 = (let x = g.most in omega arith) in
      let bytes : length p ≡ 28 + 4 * w = (let x = g.bytes in omega arith) in
      and_both (and_both (le-leb _ _ some) (le-leb _ _ most)) (eq-eqb _ _ bytes)

  -- or the first that fails is given
  packet_malformed : (Framed 28 0 p → ⊥) → lowest (packet_rows p) ≡ Err refusal.Malformed
  unfolding packet_rows
  packet_malformed n = row_applies _ _ _ (ap not (fails _ (λ e. n (telemetry_frame (telemetry_out p e)))))

  packet_apid : Framed 28 0 p → apid_in p ≢ 788 → lowest (packet_rows p) ≡ Err refusal.OtherApid
  unfolding packet_rows
  packet_apid s n =
      lowest_past 1 (packet_rows p) (frame_test s, tt) ∙ row_applies _ _ _ (ap not (ne_eqb _ _ (λ e. n (sym (apid_is p b) ∙ e))))

  packet_length_wrong : Framed 28 0 p → apid_in p ≡ 788 → length p ≢ 28 + 4 * four p 24 → lowest (packet_rows p) ≡ Err refusal.PacketLength
  unfolding packet_rows
  packet_length_wrong s a n =
      lowest_past 2 (packet_rows p) (frame_test s, (apid_right a, tt)) ∙ row_applies _ _ _ (ap not (fails (words_right p) (λ t. n (words_out t))))

  packet_no_cut : Given p → (CutIs (packet_fields p) → ⊥) → lowest (packet_rows p) ≡ Err refusal.BadField
  unfolding packet_rows
  packet_no_cut g n =
      lowest_past 3 (packet_rows p) (frame_test g.frame, (apid_right g.apid, (ap not (words_in g), tt)))
      ∙ row_applies _ _ _ (ap not (fails _ (λ t. n (cut_out (packet_fields p) t))))

-- the reader's number is that of the first row that applies
given_refused : (q : List ℕ) (r : Refusal) → lowest (packet_rows q) ≡ Err r → number_given q ≡ number r
unfolding read_packet
given_refused q r e = ap (λ (v : Result (Unit {0}) Refusal). packet_number (conclude_packet q v).reading) e

-- one thing changed in a packet that passes 4, 5 and 7
module _ (p q : List ℕ) (b : AreBytes q) (r : Given p) where
  apid_given : OtherApid p q → ((i : ℕ) → i ≢ 0 → i ≢ 1 → Same p q i) → lowest (packet_rows q) ≡ Err refusal.OtherApid
  apid_given o same =
      packet_apid q b (frame_but_apid p q r.frame (omega arith) o (λ i m n h. same i m n)) (λ h. o.apid (h ∙ sym r.apid))

  -- no number of words has a length that differs by one
  bytes_given : OtherLength p q → ((i : ℕ) → i ≢ 4 → i ≢ 5 → Same p q i) → lowest (packet_rows q) ≡ Err refusal.PacketLength
  bytes_given o same =
      let k = r.some in
      let g = r.bytes in
      let (l, n) = by_one_apart p q o in
      let words = four_alike p q 24 (λ i m h. same i (omega arith) (omega arith) (omega arith) (omega arith)) in
      let (frame, apid) = frame_but_field p q r.frame (omega arith) (omega arith) o.field (λ i h. same i (omega arith) (omega arith)) in
      packet_length_wrong q b frame (apid ∙ r.apid) (omega arith)

  -- four bytes after the primary header changed
  module _ (at : ℕ) (past : 6 ≤ at) (but : ButFour at p q) where
    but_frame : Framed 28 0 q × (apid_in q ≡ 788)
    but_frame =
        let (frame, apid) = frame_stays p q r.frame (omega arith) but.0 (λ i h. but.1 i (omega arith) (omega arith) (omega arith) (omega arith)) in
        (frame, apid ∙ r.apid)

    -- and not the number of words
    but_given : at ≤ 20 → Given q
    but_given l =
        let k = r.some in
        let g = r.bytes in
        let e = but.0 in
        let words = four_alike p q 24 (λ i m h. but.1 i (omega arith) (omega arith) (omega arith) (omega arith) (omega arith) (omega arith)) in
        record {
          frame = but_frame.0;
          apid = but_frame.1;
          some = omega arith;
          most = let h = r.most in omega arith;
          bytes = omega arith;
        }

packet_fault : (p q : List ℕ) → AreBytes p → AreBytes q → number_given p ≡ 0 → PacketFault p q
packet_fault p q b d h =
    let r = given_out p b (packet_out p h) in
    let l = r.bytes in
    let given = but_given p q d r in
    record {
      header = λ n. given_refused q refusal.Malformed (packet_malformed q d (telemetry_spoiled q n));
      apid = λ o same. given_refused q refusal.OtherApid (apid_given p q d r o same);
      bytes = λ o same. given_refused q refusal.PacketLength (bytes_given p q d r o same);
      count = λ but n.
          let m = but.0 in
          let k : length q ≢ 28 + 4 * four q 24 = omega arith in
          given_refused q refusal.PacketLength
          (packet_length_wrong q d (but_frame p q d r 24 (omega arith) but).0 (but_frame p q d r 24 (omega arith) but).1 k);
      address = λ but n.
          let e = at_four q 12 in
          given_refused q refusal.BadField (packet_no_cut q d (given 12 (omega arith) but (omega arith)) (λ k. let m = k.multiple in omega arith));
      words = λ but n.
          let e = at_four q 16 in
          given_refused q refusal.BadField (packet_no_cut q d (given 16 (omega arith) but (omega arith)) (λ k. let m = k.some in omega arith));
      here = λ but n.
          let e = at_four q 20 in
          given_refused q refusal.BadField
          (packet_no_cut q d (given 20 (omega arith) but (omega arith))
          (λ k. let m = k.multiple in let f = k.from in let w = k.word in omega arith));
    }

pub one_fault : OneFault
one_fault = record { command = λ s c q b d h. command_fault s c q h b d; reader = reader_fault; packet = packet_fault }
