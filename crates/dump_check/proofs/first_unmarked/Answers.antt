-- `dump_check::first_unmarked` meets its contract.
-- Assumes nothing.
use mathlib.Core.Path.{◌≡◌, sym, ◌∙◌}
use mathlib.Core.Logic.{◌≢◌}
use mathlib.Core.Bool.{Bool}
use mathlib.Core.List.{List}
use Prim.Native.Nat.{ℕ, ◌≤◌, ◌<◌}
use native.Mathlib.Omega.{arith}
use lib.Dec.{eqb}
use lib.ListN.{length, get_or, take}
use borrow.Author.Rules.{rules}
use borrow.Author.Tests.{eq-eqb, ne_eqb}
use Rattle.std.specs.Prelude.{Option, None, Some, unwrap_or, MatchOption}
use Rattle.std.specs.List.{AllWithin, HoldsAt}
use Rattle.std.proofs.lemmas.List.{get_or-take, length-take-le}
use Rattle.std.proofs.lemmas.Iterator.{YieldsList-from_slice, IsFirst-from_position}
use Rattle.lists.specs.Below.{first_below}
use Rattle.lists.proofs.Below.{first_is, first_none, none_of}
use Rattle.dump_check.proofs.first_unmarked.Goals as goal

module _ (seen : List ℕ) (m : ℕ) (within : m ≤ length seen) where
  long : length (take m seen) ≡ m
  long = length-take-le m seen within

  abbrev unmarked : ℕ → Bool
  unmarked j = eqb (get_or seen j 0) 0

  by : (r : Option ℕ)
      → MatchOption r (AllWithin (λ x. x ≢ 0) (take m seen) 0 (length (take m seen))) (λ i. (i < length (take m seen)) × HoldsAt (λ x. x ≡ 0) (take m seen) i × AllWithin (λ x. x ≢ 0) (take m seen) 0 i)
      → unwrap_or r m ≡ first_below unmarked m
  by None h = sym (first_none unmarked m (none_of unmarked m (λ i l. ne_eqb (get_or seen i 0) 0 (λ e. h i 0 (omega arith) (omega (arith, long)) (get_or-take m seen i 0 l ∙ e)))))
  by (Some i) h =
      let l : i < m = omega (arith, long, h.0) in
      sym
      (first_is unmarked m l (eq-eqb (get_or seen i 0) 0 (sym (get_or-take m seen i 0 l) ∙ h.1 0))
      (λ j k. ne_eqb (get_or seen j 0) 0 (λ e. h.2 j 0 (omega arith) k (get_or-take m seen j 0 (omega arith) ∙ e))))

pub returns : goal.returns
returns c =
    let a = c.args in
    c.unwrap_or.ensures
    ∙ by a.seen.now a.m c.requires c.position.result
    (IsFirst-from_position _ _ _ (λ x. x ≡ 0) (λ x. x ≢ 0) c.position.ensures.ran (YieldsList-from_slice (take a.m a.seen.now) c.iter.ensures.rest) (λ x q h. search rules) (λ x q h. search rules))
