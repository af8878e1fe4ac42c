-- What each test of the check says, in logic.
-- Assumes nothing.
use Rattle.std.specs.Prelude.{Result, Ok, Err}
use mathlib.Core.Path.{◌≡◌, refl, ap₂}
use mathlib.Core.Logic.{◌↔◌}
use mathlib.Core.Bool.{Bool, true, false, ◌||◌, not}
use mathlib.Core.List.{List}
use Prim.Native.Nat.{ℕ, zero, suc, ◌+◌, ◌*◌, ◌-◌, ◌/◌, ◌%◌, ◌≤◌, ◌<◌}
use native.Mathlib.Nat.{le-div_iff_mul-le}
use native.Mathlib.Omega.{arith}
use lib.Dec.{eqb}
use lib.ListN.{length}
use borrow.Author.Tests.{eqb-true, eqb-false, eq-eqb, not-true, not-false}
use Rattle.lists.proofs.Tests.{either, contra, and_left, and_right, and_both, or_left, or_right}
use Rattle.lists.proofs.Below.{none_at, none_of}
use Rattle.wire.specs.Bytes.{be_at}
use Rattle.wire.specs.ByByte.{two, four}
use Rattle.wire.proofs.ByByte.{at_two, at_four}
use Rattle.rules.specs.States.{piece_words}
use Rattle.rules.specs.Demand3.{pieces}
use Rattle.rules.specs.Ground.{packet_fields, packet_number, read_packet}
use Rattle.rules.proofs.Cases.{eqb_when, ltb_when, and_when, all_when}
use Rattle.rules.proofs.Cover.{due_before}
use Rattle.rules.proofs.LowestNumber.{number_some}
use Rattle.rules.proofs.PacketTests.{packet_out}
use Rattle.whole_dump.specs.Check.{most_packets, packet_count, length_at, bytes_before, packet_at, unfit, is_read, agree, piece_of, has, repeats, is_bad, pieces_due, is_missing}
use Rattle.whole_dump.specs.Numbers.{bytes_of, Fits, IsRead, HasPiece, Agree, Listed, Sound, Missing}
use Rattle.rules.specs.declared.Refusal.{Refusal}
use Rattle.rules.specs.declared.DumpPacket.{DumpPacket}

-- TESTS THAT FAIL

not_when : {P : Type 0} (b : Bool) → (b ≡ true) ↔ P → (not b ≡ false) ↔ P
not_when b w = (λ h. w.0 (not-false b h), λ p. let e = w.1 p in rw e)

-- what the second says may rest on what the first says
or_when : {P Q : Type 0} (a b : Bool) → (a ≡ false) ↔ P → (P → (b ≡ false) ↔ Q) → ((a || b) ≡ false) ↔ (P × Q)
or_when a b v w = (
  λ h. let p = v.0 (or_left a b h) in (p, (w p).0 (or_right a b h)),
  λ h. let d = v.1 h.0 in let e = (w h.0).1 h.1 in rw (d, e),
)

-- ONE PIECE

-- it is due exactly if the words before it are fewer than those asked for
pub pieces_when : (z : ℕ) → 0 < z → (j n : ℕ) → (j < pieces z n) ↔ (z * j < n)
unfolding pieces
pieces_when z some j n = (λ h. let l = (le-div_iff_mul-le {k = z} {x = suc j} {y = n + (z - 1)} some).0 h in omega arith, due_before z some j n)

-- the piece whose data are at address b, in a range that starts at a
at_when : (a b k : ℕ) → a ≤ b → (b - a) % 4 ≡ 0 → (b - a) / 4 % 1016 ≡ 0 → ((b - a) / 4 / 1016 ≡ k) ↔ (b ≡ a + 4 * (1016 * k))
at_when a b k from word cut = (λ h. omega arith, λ h. omega arith)

-- ONE PACKET

reads_when : (r : Result DumpPacket Refusal) → (is_read r ≡ true) ↔ (packet_number r ≡ 0)
reads_when (Err r) = (λ h. absurd (contra h refl), λ h. let l = number_some r in absurd (omega arith))
reads_when (Ok f) = (λ h. refl, λ h. refl)

module _ (p : List ℕ) where
  pub read_when : (is_read (read_packet p).reading ≡ true) ↔ IsRead p
  read_when = reads_when (read_packet p).reading

  -- the piece, by the address of the data
  pub piece_when : IsRead p → (k : ℕ) → (piece_of (packet_fields p) ≡ k) ↔ (four p 20 ≡ four p 12 + 4 * (1016 * k))
  unfolding piece_of piece_words
  piece_when r k =
      let c = (packet_out p r).cut in
      let f = packet_fields p in
      rw (← at_four p 12, ← at_four p 20) (at_when f.range.start.0 f.here.0 k c.from c.word c.cut)

  pub has_when : (k : ℕ) → (has k p ≡ true) ↔ HasPiece p k
  unfolding has
  has_when k =
      let r = is_read (read_packet p).reading in
      let e = eqb (piece_of (packet_fields p)) k in (
        λ h. let i = read_when.0 (and_left r e h) in (i, (piece_when i k).0 (eqb-true _ _ (and_right r e h))),
        λ h. and_both (read_when.1 h.0) (eq-eqb _ _ ((piece_when h.0 k).1 h.1)),
      )

-- unit and transaction are both the same exactly if their two bytes are
pub same_when : (x y : ℕ) → ((x / 4096 ≡ y / 4096) × (x % 4096 ≡ y % 4096)) ↔ (x ≡ y)
same_when x y = (λ h. omega arith, λ h. rw h (refl, refl))

pub agree_when : (p q : List ℕ) → (agree (packet_fields p) (packet_fields q) ≡ true) ↔ Agree p q
unfolding agree
agree_when p q =
    let w = and_when _ _ (all_when _ _ _ (eqb_when _ _) (eqb_when _ _) (eqb_when (be_at 4 p 12) (be_at 4 q 12))) (eqb_when (be_at 4 p 16) (be_at 4 q 16)) in
    let s = same_when (be_at 2 p 6) (be_at 2 q 6) in
    rw (← at_two p 6, ← at_two q 6, ← at_four p 12, ← at_four q 12, ← at_four p 16, ← at_four q 16)
    (λ h. let x = w.0 h in (s.0 (x.0.0, x.0.1), x.0.2, x.1), λ h. let x = s.1 h.0 in w.1 ((x.0, x.1, h.1), h.2))

-- THE LIST OF LENGTHS

pub before_is : (lengths : List ℕ) (i : ℕ) → bytes_before lengths i ≡ bytes_of lengths i
unfolding bytes_before
before_is lengths zero = refl
before_is lengths (suc i) = ap₂ (λ (x y : ℕ). x + y) (before_is lengths i) (at_two lengths (2 * i))

pub end_is : (lengths : List ℕ) (i : ℕ) → bytes_before lengths i + length_at lengths i ≡ bytes_of lengths i + two lengths (2 * i)
unfolding bytes_before
end_is lengths i = before_is lengths (suc i)

module _ (bytes lengths : List ℕ) where
  pub fits_when : (unfit bytes lengths ≡ false) ↔ Fits bytes lengths
  unfolding unfit
  fits_when =
      let n = packet_count lengths in
      let w =
      or_when _ _ (or_when _ _ (not_when _ (eqb_when (length lengths % 2) 0)) (λ e. ltb_when most_packets n))
      (λ e. ltb_when (bytes_before lengths n) (length bytes)) in (
        λ h. let x = w.0 h in
            record { packets = n; two_each = omega arith; few = x.0.1; none_left = rw before_is at x.1 },
        λ f. let e : n ≡ f.packets = let t = f.two_each in omega arith in
            w.1 ((let t = f.two_each in omega arith, rw e f.few), rw (e, before_is) f.none_left),
      )

  -- the piece of packet i, which is accepted, is no earlier packet's
  new_when : (i : ℕ) → IsRead (packet_at bytes lengths i)
      → (repeats bytes lengths i ≡ false)
      ↔ ((j k : ℕ) → j < i → HasPiece (packet_at bytes lengths j) k → HasPiece (packet_at bytes lengths i) k → ⊥)
  new_when i r =
      let q = piece_of (packet_fields (packet_at bytes lengths i)) in
      let earlier : ℕ → Bool = λ j. has q (packet_at bytes lengths j) in (
        λ h j k l hj hi.
            let e = (piece_when (packet_at bytes lengths i) r k).1 hi.1 in
            contra ((has_when (packet_at bytes lengths j) q).1 (rw e hj)) (none_at earlier i h l),
        λ f.
            none_of earlier i
            (λ j l. either (earlier j)
            (λ e. absurd (f j q l ((has_when (packet_at bytes lengths j) q).0 e) (r, (piece_when (packet_at bytes lengths i) r q).0 refl)))
            (λ e. e)),
      )

  pub sound_when : (i : ℕ) → (is_bad bytes lengths i ≡ false) ↔ Sound bytes lengths i
  unfolding is_bad
  sound_when i =
      let p = packet_at bytes lengths i in
      let w =
      or_when _ _ (or_when _ _ (or_when _ _ (ltb_when (length bytes) (bytes_before lengths i + length_at lengths i)) (λ l. not_when _ (read_when p)))
      (λ r. not_when _ (agree_when (packet_at bytes lengths 0) p))) (λ x. new_when i x.0.1) in (
        λ h. let x = w.0 h in record { inside = rw end_is at x.0.0.0; is_read_lem = x.0.0.1; agrees = x.0.1; new = x.1 },
        λ s. w.1 (((rw end_is s.inside, s.is_read_lem), s.agrees), s.new),
      )

  pub listed_when : Fits bytes lengths → (i : ℕ) → (i < packet_count lengths) ↔ Listed bytes lengths i
  listed_when f i = let t = f.two_each in (λ h. omega arith, λ h. omega arith)

  absent_when : Fits bytes lengths → (k : ℕ)
      → (is_missing bytes lengths k ≡ true) ↔ ((i : ℕ) → Listed bytes lengths i → HasPiece (packet_at bytes lengths i) k → ⊥)
  unfolding is_missing
  absent_when f k =
      let here : ℕ → Bool = λ i. has k (packet_at bytes lengths i) in
      let n = packet_count lengths in (
        λ h i l q. contra ((has_when (packet_at bytes lengths i) k).1 q) (none_at here n (not-true _ h) ((listed_when f i).1 l)),
        λ g.
            let e = none_of here n
            (λ i l. either (here i) (λ e. absurd (g i ((listed_when f i).0 l) ((has_when (packet_at bytes lengths i) k).0 e))) (λ e. e)) in
            rw e,
      )

  due_when : Fits bytes lengths → (k : ℕ)
      → (k < pieces_due bytes lengths) ↔ ((Listed bytes lengths 0 → 1016 * k < four (packet_at bytes lengths 0) 16) × (length lengths ≡ 0 → k ≡ 0))
  unfolding pieces_due piece_words
  due_when f k =
      let n = packet_count lengths in
      let t = f.two_each in
      either (eqb n 0)
      (λ e. let z = eqb-true n 0 e in
      rw e (λ h. (λ l. absurd (omega arith), λ q. omega arith), λ h. let q = h.1 (omega arith) in omega arith))
      (λ e. let z = eqb-false n 0 e in
      let w = pieces_when 1016 (omega arith) k (be_at 4 (packet_at bytes lengths 0) 16) in
      rw (e, ← at_four (packet_at bytes lengths 0) 16) (λ h. (λ l. w.0 h, λ q. absurd (omega arith)), λ h. w.1 (h.0 (omega arith))))

  pub missing_when : Fits bytes lengths → (k : ℕ) → ((k < pieces_due bytes lengths) × (is_missing bytes lengths k ≡ true)) ↔ Missing bytes lengths k
  missing_when f k = (
    λ h. let d = (due_when f k).0 h.0 in record { due = d.0; first = d.1; absent = (absent_when f k).0 h.1 },
    λ m. ((due_when f k).1 (m.due, m.first), (absent_when f k).1 m.absent),
  )
