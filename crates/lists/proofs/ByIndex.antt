-- The definitions of this crate, index by index.
-- Assumes nothing.
use mathlib.Core.Path.{◌≡◌, refl, subst}
use mathlib.Core.Logic.{◌↔◌}
use mathlib.Core.Bool.{Bool, true, false}
use Prim.Native.Nat.{ℕ, ◌<◌}
use native.Mathlib.Omega.{arith}
use Rattle.lists.specs.Below.{any_below, first_below}
use Rattle.lists.specs.ByIndex.{ByIndex}
use Rattle.lists.proofs.Tests.{either}
use Rattle.lists.proofs.Below.{all_at, all_of, any_at, any_of, none_of, first_found, first_before, first_is, first_none, sum_more}
use Rattle.lists.proofs.Splice.{splice_length, splice_in, splice_below, splice_above}

module _ (p : ℕ → Bool) (n : ℕ) where
  -- an index below n that is the first: p holds of it
  first_holds : first_below p n < n → p (first_below p n) ≡ true
  first_holds l =
      either (any_below p n) (λ a. (first_found p n a).1) (λ a. let e = first_none p n a in absurd (omega arith))

  first_when : (i : ℕ) → i < n → (first_below p n ≡ i) ↔ ((p i ≡ true) × ((j : ℕ) → j < i → p j ≡ false))
  first_when i l = (
    λ e. (
      subst (λ (k : ℕ). p k ≡ true) e (first_holds (omega arith)),
      λ j h. first_before p n (omega arith),
    ),
    λ h. first_is p n l h.0 h.1,
  )

  none_when : (first_below p n ≡ n) ↔ ((i : ℕ) → i < n → p i ≡ false)
  none_when = (λ e i l. first_before p n (omega arith), λ h. first_none p n (none_of p n h))

pub by_index : ByIndex
by_index =
    record {
      all = λ p n. (λ h i l. all_at p n h l, all_of p n);
      any = λ p n. (any_at p n, λ h. any_of p n h.1 h.2);
      sum_none = λ f. refl;
      sum_more = sum_more;
      first = first_when;
      first_none = none_when;
      spliced = λ l at v h. record { as_long = splice_length l at v h; written = splice_in l at v h; below = splice_below l at v h; above = splice_above l at v h };
    }
