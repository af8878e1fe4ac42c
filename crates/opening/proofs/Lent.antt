-- Numbers 1 to 3: the words of a good state's image decide as the rows do, and what is then known of the state.
-- Assumes nothing.
use Rattle.std.specs.Prelude.{Ok}
use mathlib.Core.Path.{◌≡◌}
use mathlib.Core.Logic.{◌≢◌}
use mathlib.Core.Bool.{true}
use mathlib.Core.List.{List}
use Prim.Native.Nat.{ℕ, ◌≤◌}
use native.Mathlib.Omega.{arith}
use lib.Dec.{eqb}
use lib.ListN.{length}
use borrow.Author.Tests.{eqb-true, ne_eqb, ltb-false, not-false}
use Rattle.lists.proofs.Tests.{either}
use Rattle.rules.specs.Regions.{image_length}
use Rattle.rules.specs.States.{good_state}
use Rattle.rules.specs.Results.{lowest, lent_rows}
use Rattle.rules.proofs.Good.{GoodIs, good_out}
use Rattle.rules.proofs.Passed.{lowest_none}
use Rattle.rules.proofs.Rules.{StartIs, start_out}
use Rattle.rules.specs.declared.State.{State}
use Rattle.regions.proofs.Answers.{some_words}
use Rattle.opening.specs.Opening.{lent_by, good_words}

-- what 1 to 3 passed say
pub record LentIs (s : State) (image : List ℕ) (size : ℕ) (buffer : List ℕ) : Type 0 where
  pub good : GoodIs s
  pub start : StartIs s.regions s.count s.pools s.unit
  pub whole : length image ≡ image_length s.regions s.count
  pub room : size ≤ length buffer

module _ (s : State) (image : List ℕ) (size : ℕ) (buffer : List ℕ) where
  pub lent_lowest : lowest (lent_rows s image size buffer) ≡ lent_by (good_words s) (length image) size (length buffer)
  unfolding lowest lent_rows good_words
  lent_lowest =
      either (good_state s)
      (λ g.
      let some = some_words s.regions s.count (start_out _ _ _ _ (good_out s g).rules).table in
      rw (g, ne_eqb (image_length s.regions s.count) 0 (λ e. omega arith))
      (either (eqb (length image) (image_length s.regions s.count)) (λ e. rw e) (λ e. rw e)))
      (λ g. rw g)

  pub lent_out : lowest (lent_rows s image size buffer) ≡ (Ok tt) → LentIs s image size buffer
  unfolding lent_rows
  lent_out h =
      let n = lowest_none _ h in
      let g = good_out s (not-false _ n.0) in
      record { good = g; start = start_out _ _ _ _ g.rules; whole = eqb-true _ _ (not-false _ n.1.0); room = ltb-false _ _ n.1.1.0 }

-- THE GOOD STATE OF A CALL THAT PASSED 1 TO 3

pub lent_good : (s : State) (image size buffer : ℕ) → lent_by (good_words s) image size buffer ≡ (Ok tt) → good_state s ≡ true
unfolding good_words
lent_good s image size buffer h =
    either (good_state s) (λ g. g) (λ g. let k = rw g at h in let z : ◌≡◌ {A = ℕ} 0 1 = cc in absurd (omega arith))

-- a call that is lent enough has a good state
pub lent_some : (w image size buffer : ℕ) → lent_by w image size buffer ≡ (Ok tt) → w ≢ 0
lent_some w image size buffer e z =
    let f : lent_by 0 image size buffer ≡ (Ok tt) = rw z at e in
    let g : ◌≡◌ {A = ℕ} 0 1 = cc in
    absurd (omega arith)
