-- What the answer of a search for a transaction number says to a caller.
-- Assumes nothing.
use mathlib.Core.Path.{◌≡◌, sym, ◌∙◌}
use mathlib.Core.Bool.{Bool, true, false, not}
use mathlib.Core.List.{List}
use Prim.Native.Nat.{ℕ, ◌<◌}
use native.Mathlib.Omega.{arith}
use lib.Dec.{eqb}
use borrow.Author.Tests.{eq-eqb, ne_eqb}
use Rattle.lists.specs.Below.{all_below, any_below, first_below}
use Rattle.lists.proofs.Tests.{either, contra}
use Rattle.lists.proofs.Below.{all_at, all_of, none_at, first_found, first_none}
use Rattle.rules.specs.States.{context_at, apart, busy_with}
use Rattle.rules.specs.declared.ActiveDump.{ActiveDump}
use Rattle.rules.specs.declared.Context.TheVariants.{Busy}
use Rattle.rules.specs.declared.Place.{Place}
use Rattle.places.specs.Turns.{first_within}

-- the search ends at n where none below n passes
pub first_all : (p : ℕ → Bool) (n : ℕ) → eqb (first_below p n) n ≡ all_below (λ j. not (p j)) n
first_all p n =
    either (any_below p n)
    (λ e. let r = first_found p n e in ne_eqb (first_below p n) n (λ (q : first_below p n ≡ n). omega arith) ∙ sym (some r.0 r.1))
    (λ e. eq-eqb (first_below p n) n (first_none p n e) ∙ sym (all_of (λ j. not (p j)) n (λ i l. rw (none_at p n {i = i} e l))))
  where
    some : {i : ℕ} → i < n → p i ≡ true → all_below (λ j. not (p j)) n ≡ false
    some l h = either (all_below (λ j. not (p j)) n) (λ q. absurd (contra (all_at (λ j. not (p j)) n q l) (rw h))) (λ q. q)

-- no place before place i has the number of this dump
pub apart_before : (ps : List Place) (d : ActiveDump) (i : ℕ)
    → eqb (first_within ps d.transaction i) i ≡ all_below (λ j. apart (Busy d) (context_at ps j)) i
unfolding first_within
apart_before ps d i = first_all (λ j. busy_with d.transaction (context_at ps j)) i
