-- What the words of the image of a block say of it: a good state's image has some.
-- Assumes nothing.
use mathlib.Core.Path.{◌≡◌}
use mathlib.Core.Logic.{◌≢◌}
use mathlib.Core.Bool.{true, false, ◌&&◌}
use mathlib.Core.List.{List}
use Prim.Native.Nat.{ℕ, ◌≤◌}
use native.Mathlib.Omega.{arith}
use lib.ListN.{length}
use Rattle.lists.proofs.Below.{sum_part}
use Rattle.lists.proofs.Tests.{either, and_left, and_right}
use Rattle.rules.specs.Regions.{range_at, words_below, image_length}
use Rattle.rules.specs.States.{good_state}
use Rattle.rules.specs.declared.State.{State}
use Rattle.rules.proofs.Good.{good_out}
use Rattle.rules.proofs.Rules.{start_out}
use Rattle.rules.proofs.Table.{table_count, table_region}
use Rattle.block.specs.Blocks.{is_block, state_of}
use Rattle.block.specs.Calls.{good_words}
use Rattle.block.proofs.Bounds.{block_out}

image_some : (s : State) → good_state s ≡ true → 1 ≤ image_length s.regions s.count
unfolding words_below
image_some s h =
    let t = (start_out s.regions s.count s.pools s.unit (good_out s h).rules).table in
    let n = (table_count s.regions s.count t).0 in
    let w = (table_region s.regions s.count t 0 (omega arith)).some in
    let p = sum_part (λ i. (range_at s.regions i).words) s.count {k = 0} (omega arith) in
    omega arith

module _ (b : List ℕ) {w : ℕ} (e : w ≡ good_words b) where
  pub not_good : w ≡ 0 → (is_block b && good_state (state_of b)) ≡ false
  unfolding good_words
  not_good z =
      either (is_block b && good_state (state_of b))
      (λ h. let k = image_some (state_of b) (and_right (is_block b) (good_state (state_of b)) h) in let q : w ≡ image_length (state_of b).regions (state_of b).count = rw h at e in absurd (omega arith))
      (λ h. h)

  module _ (some : w ≢ 0) where
    both : (is_block b && good_state (state_of b)) ≡ true
    unfolding good_words
    both = either (is_block b && good_state (state_of b)) (λ h. h) (λ h. absurd (some (rw h at e)))

    pub is_block_lem : is_block b ≡ true
    is_block_lem = and_left (is_block b) (good_state (state_of b)) both

    pub is_good : good_state (state_of b) ≡ true
    is_good = and_right (is_block b) (good_state (state_of b)) both

    pub image_words : w ≡ image_length (state_of b).regions (state_of b).count
    unfolding good_words
    image_words = rw both at e

-- a block that is a good state
module _ (b : List ℕ) (good : (is_block b && good_state (state_of b)) ≡ true) where
  pub block_is : is_block b ≡ true
  block_is = and_left (is_block b) (good_state (state_of b)) good

  pub state_is : good_state (state_of b) ≡ true
  state_is = and_right (is_block b) (good_state (state_of b)) good

  pub block_words : length b ≡ 80
  block_words = (block_out b block_is).words
