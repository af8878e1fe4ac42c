-- Sequence counts, ticks and data do not decide the number.
-- Assumes nothing.
use Rattle.std.specs.Prelude.{Result, Ok, Err}
use mathlib.Core.Path.{◌≡◌, refl, sym, ap, ap₂, ◌∙◌}
use mathlib.Core.Bool.{Bool, ◌&&◌, not}
use mathlib.Core.List.{List}
use Prim.Native.Nat.{ℕ, zero, suc, ◌+◌, ◌*◌, ◌/◌, ◌≤◌, ◌<◌}
use native.Mathlib.Omega.{arith}
use lib.Dec.{eqb}
use lib.ListN.{length, get_or, take, drop, length-take, length-drop, get_or-eq_default}
use borrow.Author.Tests.{lt-leb, eqb-false}
use Rattle.lists.proofs.Tests.{either, by_lt}
use Rattle.lists.proofs.Below.{any_same, first_same}
use Rattle.wire.specs.Bytes.{be_at}
use Rattle.wire.specs.ByByte.{byte}
use Rattle.wire.proofs.ByByte.{at_two}
use Rattle.symbols.proofs.Numbers.{part_byte, part_number}
use Rattle.rules.specs.Demand3.{packets_due}
use Rattle.rules.specs.Results.{Row, lowest}
use Rattle.rules.specs.Ground.{packet_fields, cut_rules, packet_rows, conclude_packet, read_packet}
use Rattle.rules.specs.declared.DumpPacket.{DumpPacket}
use Rattle.whole_dump.specs.Check.{packet_count, length_at, bytes_before, packet_at, unfit, is_read, agree, piece_of, has, is_past, is_refused, disagrees, repeats, is_bad, pieces_due, is_missing, check_dump}
use Rattle.whole_dump.specs.Numbers.{bytes_of}
use Rattle.whole_dump.specs.HeadersAlone.{SameHeader, HeadersAlone}
use Rattle.whole_dump.proofs.Tests.{before_is}
use Rattle.rules.specs.declared.Refusal.{Refusal}

-- TWO PACKETS with the same header but for count and tick are read alike

-- the fields but for count and tick
abbrev deciding : DumpPacket → DumpPacket
deciding f =
    record {
      header = record { count = 0; unit = f.header.unit; transaction = f.header.transaction };
      tick = 0;
      range = f.range;
      here = f.here;
      words = f.words;
    }

record Alike (p q : List ℕ) : Type 0 where
  fields : deciding (packet_fields p) ≡ deciding (packet_fields q)
  reading : is_read (read_packet p).reading ≡ is_read (read_packet q).reading

-- the verdict alone says whether it is read
read_by_verdict : (p q : List ℕ) (v : Result (Unit {0}) Refusal) → is_read (conclude_packet p v).reading ≡ is_read (conclude_packet q v).reading
read_by_verdict p q (Ok tt) = refl
read_by_verdict p q (Err r) = refl

module _ (other bytes : List ℕ) (long : length other ≡ length bytes) (at n : ℕ) (same : SameHeader other bytes at) where
  abbrev p : List ℕ
  p = take n (drop at other)

  abbrev q : List ℕ
  q = take n (drop at bytes)

  length_same : length p ≡ length q
  length_same = simp (length-take, length-drop, long)

  -- a byte past the end of both is 0
  byte_same : (k : ℕ) → byte other (at + k) ≡ byte bytes (at + k) → byte p k ≡ byte q k
  byte_same k e =
      by_lt k n
      (λ l. part_byte other at n k l ∙ e ∙ sym (part_byte bytes at n k l))
      (λ l. past (drop at other) l ∙ sym (past (drop at bytes) l))
    where
      past : (w : List ℕ) → n ≤ k → get_or (take n w) k 0 ≡ 0
      past w l = get_or-eq_default (take n w) 0 (simp length-take (omega arith))

  number_same : (m i : ℕ) → ((k : ℕ) → i ≤ k → k < i + m → byte other (at + k) ≡ byte bytes (at + k)) → be_at m p i ≡ be_at m q i
  number_same zero i h = refl
  number_same (suc m) i h =
      ap₂ (λ (x y : ℕ). x * 256 + y) (number_same m i (λ k a b. h k a (omega arith))) (byte_same (i + m) (h (i + m) (omega arith) (omega arith)))

  start_same : be_at 2 p 0 ≡ be_at 2 q 0
  start_same = number_same 2 0 (λ k a b. same.start k b)

  two_same : (i : ℕ) → 4 ≤ i → i ≤ 6 → be_at 2 p i ≡ be_at 2 q i
  two_same i l h = number_same 2 i (λ k a b. same.length_and_identity k (omega arith) (omega arith))

  four_same : (i : ℕ) → 12 ≤ i → i ≤ 24 → be_at 4 p i ≡ be_at 4 q i
  four_same i l h = number_same 4 i (λ k a b. same.request_and_own k (omega arith) (omega arith))

  flags_same : 28 ≤ n → be_at 2 p 2 / 16384 ≡ be_at 2 q 2 / 16384
  flags_same l =
      rw (
        part_number 2 other at n 2 (omega arith),
        part_number 2 bytes at n 2 (omega arith),
        at_two other (at + 2),
        at_two bytes (at + 2),
      )
      same.flags

  -- each number that decides; the first row refuses a packet of under 28 bytes, whatever its flags
  read_same : (deciding (packet_fields p) ≡ deciding (packet_fields q)) × (packet_rows p ≡ packet_rows q)
  unfolding packet_rows cut_rules
  read_same =
      rw (
        length_same,
        start_same,
        two_same 4 (omega arith) (omega arith),
        two_same 6 (omega arith) (omega arith),
        four_same 12 (omega arith) (omega arith),
        four_same 16 (omega arith) (omega arith),
        four_same 20 (omega arith) (omega arith),
        four_same 24 (omega arith) (omega arith),
      ) (
        refl,
        by_lt n 28
            (λ l. rw (lt-leb 28 (length q) (simp length-take (omega arith))))
            (λ l. rw (flags_same l)),
      )

  alike : Alike p q
  unfolding read_packet
  alike =
      record {
        fields = read_same.0;
        reading =
            read_by_verdict p q (lowest (packet_rows p))
            ∙ ap (λ (rows : List Row). is_read (conclude_packet q (lowest rows)).reading) read_same.1;
      }

module _ (bytes other lengths : List ℕ) (long : length other ≡ length bytes)
    (same : (i : ℕ) → 2 * i < length lengths → SameHeader other bytes (bytes_of lengths i)) where
  -- THE SAME ANSWER OF EACH TEST

  packet_same : (i : ℕ) → i < packet_count lengths → Alike (packet_at other lengths i) (packet_at bytes lengths i)
  unfolding packet_at
  packet_same i l = alike other bytes long (bytes_before lengths i) (length_at lengths i) (rw before_is (same i (omega arith)))

  has_same : (k i : ℕ) → i < packet_count lengths → has k (packet_at other lengths i) ≡ has k (packet_at bytes lengths i)
  unfolding has piece_of
  has_same k i l =
      let a = packet_same i l in
      ap₂ (λ (r : Bool) (f : DumpPacket). r && eqb (piece_of f) k) a.reading a.fields

  bad_same : (i : ℕ) → i < packet_count lengths → is_bad other lengths i ≡ is_bad bytes lengths i
  unfolding is_bad agree piece_of
  bad_same i l =
      let a = packet_same i l in
      let past : is_past other lengths i ≡ is_past bytes lengths i = rw long in
      let refused : is_refused other lengths i ≡ is_refused bytes lengths i = ap not a.reading in
      let apart : disagrees other lengths i ≡ disagrees bytes lengths i =
      ap₂ (λ (f g : DumpPacket). not (agree f g)) (packet_same 0 (omega arith)).fields a.fields in
      let again : repeats other lengths i ≡ repeats bytes lengths i =
      any_same _ _ i
      (λ j h. has_same (piece_of (packet_fields (packet_at other lengths i))) j (omega arith)
      ∙ ap (λ (f : DumpPacket). has (piece_of f) (packet_at bytes lengths j)) a.fields) in
      rw (past, refused, apart, again)

  due_same : pieces_due other lengths ≡ pieces_due bytes lengths
  unfolding pieces_due
  due_same =
      let n = packet_count lengths in
      either (eqb n 0)
      (λ e. rw e)
      (λ e. let z = eqb-false n 0 e in
      rw e (ap (λ (f : DumpPacket). packets_due f.range) (packet_same 0 (omega arith)).fields))

  missing_same : (k : ℕ) → is_missing other lengths k ≡ is_missing bytes lengths k
  unfolding is_missing
  missing_same k =
      ap not (any_same (λ i. has k (packet_at other lengths i)) (λ i. has k (packet_at bytes lengths i)) (packet_count lengths) (has_same k))

  unfit_same : unfit other lengths ≡ unfit bytes lengths
  unfolding unfit
  unfit_same = rw long

  number_is : check_dump other lengths ≡ check_dump bytes lengths
  unfolding check_dump
  number_is =
      let n = packet_count lengths in
      let due = pieces_due bytes lengths in
      rw (
        unfit_same,
        first_same (is_bad other lengths) (is_bad bytes lengths) n bad_same,
        due_same,
        first_same (is_missing other lengths) (is_missing bytes lengths) due (λ k l. missing_same k),
      )

pub headers_alone : HeadersAlone
headers_alone = number_is
