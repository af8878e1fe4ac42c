-- Each number exactly in its case.
-- Assumes nothing.
use mathlib.Core.Path.{◌≡◌, ◌∙◌}
use mathlib.Core.Logic.{◌≢◌, ◌⊎◌, inl, inr}
use mathlib.Core.Bool.{Bool, true, false}
use mathlib.Core.List.{List}
use Prim.Native.Nat.{ℕ, ◌+◌, ◌*◌, ◌≤◌, ◌<◌}
use native.Mathlib.Omega.{arith}
use lib.Dec.{ltb}
use lib.ListN.{length, take, drop, length-drop}
use lib.Seq.{length-take-le, get_or-take, get_or-drop}
use Rattle.lists.specs.Below.{first_below}
use Rattle.lists.proofs.Tests.{either, contra, by_lt, by_order}
use Rattle.lists.proofs.Below.{first_found, first_before, any_first, none_at}
use Rattle.wire.specs.ByByte.{two}
use Rattle.wire.proofs.ByByte.{at_two, at_four}
use Rattle.rules.proofs.PacketTests.{packet_out}
use Rattle.whole_dump.specs.Check.{packet_count, packet_at, unfit, is_bad, is_missing, pieces_due, first_bad, first_missing, check_dump}
use Rattle.whole_dump.specs.Numbers.{bytes_of, Fits, Listed, Sound, AllSound, Missing, PacketIs, Numbers}
use Rattle.whole_dump.proofs.Tests.{before_is, fits_when, sound_when, listed_when, missing_when}

-- a search that ends below n, and one that does not
first_at : (p : ℕ → Bool) (n : ℕ) → ltb (first_below p n) n ≡ true → (first_below p n < n) × (p (first_below p n) ≡ true)
first_at p n h = first_found p n (any_first p n ∙ h)

none_before : (p : ℕ → Bool) (n : ℕ) {i : ℕ} → ltb (first_below p n) n ≡ false → i < n → p i ≡ false
none_before p n h l = none_at p n (any_first p n ∙ h) l

-- no two numbers are the least with P
least_one : (P : ℕ → Type 0) (i j : ℕ) → P i → ((k : ℕ) → k < i → P k → ⊥) → P j → ((k : ℕ) → k < j → P k → ⊥) → i ≡ j
least_one P i j p f q g = by_order i j (λ l. absurd (g i l p)) (λ l. absurd (f j l q)) (λ e. e)

module _ (bytes lengths : List ℕ) where
  -- THE CASES

  abbrev FirstBad : ℕ → Type 0
  FirstBad i = Fits bytes lengths × Listed bytes lengths i × (Sound bytes lengths i → ⊥) × ((j : ℕ) → j < i → Sound bytes lengths j)

  abbrev FirstMissing : ℕ → Type 0
  FirstMissing k = Fits bytes lengths × AllSound bytes lengths × Missing bytes lengths k × ((j : ℕ) → j < k → Missing bytes lengths j → ⊥)

  abbrev NoneMissing : Type 0
  NoneMissing = Fits bytes lengths × AllSound bytes lengths × ((k : ℕ) → Missing bytes lengths k → ⊥)

  -- each with its number; case-of says that one of them holds
  data Case : Type 0 where
    unfit_is : (Fits bytes lengths → ⊥) → check_dump bytes lengths ≡ 3 → Case
    bad_is : (i : ℕ) → FirstBad i → check_dump bytes lengths ≡ 65536 + i → Case
    missing_is : (k : ℕ) → FirstMissing k → check_dump bytes lengths ≡ 131072 + k → Case
    whole_is : NoneMissing → check_dump bytes lengths ≡ 0 → Case

  case_unfit : unfit bytes lengths ≡ true → Case
  unfolding check_dump
  case_unfit u = unfit_is (λ f. contra u ((fits_when bytes lengths).1 f)) (rw u)

  module _ (u : unfit bytes lengths ≡ false) where
    fits : Fits bytes lengths
    fits = (fits_when bytes lengths).0 u

    case_bad : ltb (first_bad bytes lengths) (packet_count lengths) ≡ true → Case
    unfolding check_dump
    case_bad b =
        let i = first_bad bytes lengths in
        let r = first_at (is_bad bytes lengths) (packet_count lengths) b in
        bad_is i (
          fits,
          (listed_when bytes lengths fits i).0 r.0,
          λ s. contra r.1 ((sound_when bytes lengths i).1 s),
          λ j l. (sound_when bytes lengths j).0 (first_before (is_bad bytes lengths) (packet_count lengths) l),
        )
        (rw (u, b))

    module _ (b : ltb (first_bad bytes lengths) (packet_count lengths) ≡ false) where
      all_sound : AllSound bytes lengths
      all_sound i l = (sound_when bytes lengths i).0 (none_before (is_bad bytes lengths) (packet_count lengths) b ((listed_when bytes lengths fits i).1 l))

      case_missing : ltb (first_missing bytes lengths) (pieces_due bytes lengths) ≡ true → Case
      unfolding check_dump
      case_missing m =
          let k = first_missing bytes lengths in
          let due = pieces_due bytes lengths in
          missing_is k (
            fits,
            all_sound,
            (missing_when bytes lengths fits k).0 (first_at (is_missing bytes lengths) due m),
            λ j l g. contra ((missing_when bytes lengths fits j).1 g).1 (first_before (is_missing bytes lengths) due l),
          )
          (rw (u, b, m))

      case_whole : ltb (first_missing bytes lengths) (pieces_due bytes lengths) ≡ false → Case
      unfolding check_dump
      case_whole m =
          whole_is (
            fits,
            all_sound,
            λ k g. let h = (missing_when bytes lengths fits k).1 g in
                contra h.1 (none_before (is_missing bytes lengths) (pieces_due bytes lengths) m h.0),
          )
          (rw (u, b, m))

  case_of : Case
  case_of =
      either (unfit bytes lengths) case_unfit
      (λ u. either (ltb (first_bad bytes lengths) (packet_count lengths)) (case_bad u)
      (λ b. either (ltb (first_missing bytes lengths) (pieces_due bytes lengths)) (case_missing u b) (case_whole u b)))

  -- BOUNDS

  bad_below : (i : ℕ) → FirstBad i → i < 65
  bad_below i (f, l, n, s) = let t = f.two_each in omega (arith, f.few)

  missing_below : (k : ℕ) → FirstMissing k → k < 65
  missing_below k (f, s, m, n) =
      by_lt 0 (length lengths)
      (λ l.
      let c = (packet_out (packet_at bytes lengths 0) (s 0 l).is_read_lem).cut.most in
      let d = m.due l in
      let e = at_four (packet_at bytes lengths 0) 16 in
      omega arith)
      (λ l. let e = m.first (omega arith) in omega arith)

  -- EACH NUMBER

  fits_out : Case → check_dump bytes lengths ≢ 3 → Fits bytes lengths
  fits_out (unfit_is n e) h = absurd (h e)
  fits_out (bad_is i b e) h = b.0
  fits_out (missing_is k m e) h = m.0
  fits_out (whole_is w e) h = w.0

  fits_in : Case → Fits bytes lengths → check_dump bytes lengths ≢ 3
  fits_in (unfit_is n e) f = absurd (n f)
  fits_in (bad_is i b e) f = λ q. omega arith
  fits_in (missing_is k m e) f = λ q. omega arith
  fits_in (whole_is w e) f = λ q. omega arith

  bad_out : Case → (i : ℕ) → i < 65 → check_dump bytes lengths ≡ 65536 + i → FirstBad i
  bad_out (unfit_is n e) i l h = absurd (omega arith)
  bad_out (bad_is j b e) i l h = let q : j ≡ i = omega arith in rw q at b
  bad_out (missing_is k m e) i l h = absurd (omega arith)
  bad_out (whole_is w e) i l h = absurd (omega arith)

  bad_in : Case → (i : ℕ) → FirstBad i → check_dump bytes lengths ≡ 65536 + i
  bad_in (unfit_is n e) i b = absurd (n b.0)
  bad_in (bad_is j a e) i b =
      let q = least_one (λ k. Sound bytes lengths k → ⊥) j i a.2 (λ k l n. n (a.3 k l)) b.2 (λ k l n. n (b.3 k l)) in
      rw (← q) e
  bad_in (missing_is k m e) i b = absurd (b.2 (m.1 i b.1))
  bad_in (whole_is w e) i b = absurd (b.2 (w.1 i b.1))

  missing_out : Case → (k : ℕ) → check_dump bytes lengths ≡ 131072 + k → FirstMissing k
  missing_out (unfit_is n e) k h = absurd (omega arith)
  missing_out (bad_is j b e) k h = let l = bad_below j b in absurd (omega arith)
  missing_out (missing_is j m e) k h = let q : j ≡ k = omega arith in rw q at m
  missing_out (whole_is w e) k h = absurd (omega arith)

  missing_in : Case → (k : ℕ) → FirstMissing k → check_dump bytes lengths ≡ 131072 + k
  missing_in (unfit_is n e) k m = absurd (n m.0)
  missing_in (bad_is i b e) k m = absurd (b.2 (m.1 i b.1))
  missing_in (missing_is j a e) k m = let q = least_one (Missing bytes lengths) j k a.2 a.3 m.2 m.3 in rw (← q) e
  missing_in (whole_is w e) k m = absurd (w.2 k m.2)

  whole_out : Case → check_dump bytes lengths ≡ 0 → NoneMissing
  whole_out (unfit_is n e) h = absurd (omega arith)
  whole_out (bad_is i b e) h = absurd (omega arith)
  whole_out (missing_is k m e) h = absurd (omega arith)
  whole_out (whole_is w e) h = w

  whole_in : Case → NoneMissing → check_dump bytes lengths ≡ 0
  whole_in (unfit_is n e) w = absurd (n w.0)
  whole_in (bad_is i b e) w = absurd (b.2 (w.1 i b.1))
  whole_in (missing_is k m e) w = absurd (w.2 k m.2)
  whole_in (whole_is v e) w = e

  others_are : Case → check_dump bytes lengths ≢ 0 → check_dump bytes lengths ≢ 3
      → (((i : ℕ) × (i < 65) × (check_dump bytes lengths ≡ 65536 + i)) ⊎ ((k : ℕ) × (k < 65) × (check_dump bytes lengths ≡ 131072 + k)))
  others_are (unfit_is n e) h g = absurd (g e)
  others_are (bad_is i b e) h g = inl (i, bad_below i b, e)
  others_are (missing_is k m e) h g = inr (k, missing_below k m, e)
  others_are (whole_is w e) h g = absurd (h e)

  -- THE BYTES OF A PACKET

  packet_at_lem : (i : ℕ) → packet_at bytes lengths i ≡ take (two lengths (2 * i)) (drop (bytes_of lengths i) bytes)
  unfolding packet_at
  packet_at_lem i = rw (at_two lengths (2 * i), before_is)

  packet_is : (i : ℕ) → bytes_of lengths i + two lengths (2 * i) ≤ length bytes → PacketIs bytes lengths i
  packet_is i h =
      let n = two lengths (2 * i) in
      let rest = drop (bytes_of lengths i) bytes in
      record {
        as_long = rw packet_at_lem (length-take-le n rest (simp length-drop (omega arith)));
        each = λ k l. rw (packet_at_lem, get_or-take n rest k 0 l, get_or-drop);
      }

pub numbers : Numbers
numbers bytes lengths =
    let c = case_of bytes lengths in
    record {
      three = (fits_out bytes lengths c, fits_in bytes lengths c);
      bad = λ i l. (bad_out bytes lengths c i l, bad_in bytes lengths c i);
      missing = λ k. (missing_out bytes lengths c k, missing_in bytes lengths c k);
      zero = (whole_out bytes lengths c, whole_in bytes lengths c);
      others = others_are bytes lengths c;
      packet = packet_is bytes lengths;
    }
