-- On a block of 80 words a single call of a batch is the one of C, and a command leaves a good block good, with the image that it had.
-- Assumes nothing.
use mathlib.Core.Path.{◌≡◌, refl, ap, ◌∙◌}
use mathlib.Core.Logic.{◌≢◌}
use mathlib.Core.Bool.{Bool, true, false, ◌&&◌, cond}
use mathlib.Core.List.{List, [], ◌∷◌}
use Prim.Native.Nat.{ℕ, ◌+◌, ◌*◌, ◌<◌}
use native.Mathlib.Omega.{arith}
use lib.ListN.{length}
use borrow.Author.Tests.{ne_eqb}
use Rattle.lists.proofs.Tests.{either}
use Rattle.wire.specs.Bytes.{AreBytes}
use Rattle.rules.specs.Commands.{CommandArgs, command_call}
use Rattle.rules.specs.States.{good_state}
use Rattle.rules.specs.declared.State.{State}
use Rattle.rules.proofs.GoodWhen.{good_when}
use Rattle.rules.proofs.StaysGood.{command_good}
use Rattle.block.specs.Blocks.{word, region_in, is_block, state_of}
use Rattle.block.specs.Calls.{on_state}
use Rattle.block.specs.RoundTrip.{Fits}
use Rattle.block.proofs.GoodFits.{good_fits}
use Rattle.block.proofs.GoodWords.{block_is, state_is}
use Rattle.block.proofs.Over.{over_back, over_block}
use Rattle.block.proofs.Runs.{runs_length}
use Rattle.state.specs.Counts.{block_changes}
use Rattle.decide.specs.Decisions.{decision}
use Rattle.decide.proofs.Commands.{decided}
use Rattle.command.proofs.OnBlock.{after_same, low, words_after}
use Rattle.command.proofs.OnState.{decision_is}
use Rattle.command.specs.OnStore.{decision_in}
use Rattle.batches.specs.Batch.{BatchArgs, Single, items_of, unfit_by, batch}
use Rattle.batches.proofs.Kept.{command_kept}
use Rattle.batches.proofs.NoState.{nothing_left, batch_refused}
use Rattle.batches.proofs.Turns.{same_batch}
use Rattle.batch.specs.OnStore.{single_in, words_in, WordsStay}
use Rattle.batch.proofs.Items.{not_good}
use Rattle.lent_batch.specs.Batches.{on_block}

abbrev good : List ℕ → Bool
good b = is_block b && good_state (state_of b)

abbrev single : List ℕ → CommandArgs → Single (List ℕ)
single = single_in good state_of block_changes

-- a block of 80 words whose number of regions fits a word
pub record Held (b : List ℕ) : Type 0 where
  pub long : length b ≡ 80
  pub few : word b 0 < 4294967296

module _ (b : List ℕ) (c : CommandArgs) where
  single_is : word b 0 < 4294967296 → single b c ≡ on_block b c
  unfolding single_in on_state
  single_is few =
      either (is_block b)
      (λ k.
      let after = words_after b few k (decision (state_of b) c) (low (state_of b) c) in
      rw (k, decision_is (state_of b) c, decided (state_of b) c, after))
      (λ k. let e : good b ≡ false = rw k in not_good good state_of block_changes b c e ∙ rw k)

  still_held : Held b → Held (single b c).state
  unfolding single_in
  still_held h =
      let same = after_same b (decision_in (good b) (state_of b) c) in
      record { long = same.long ∙ h.long; few = rw same.first h.few }

  abbrev after : State
  after = (command_call (state_of b) c).state

  sixteen : length (state_of b).regions ≡ 16
  unfolding state_of
  sixteen = runs_length (λ i. region_in b (1 + 3 * i) ∷ []) 1 (λ i. refl) 16

  two : length (state_of b).pools ≡ 2
  unfolding state_of
  two = refl

  module _ (bytes : AreBytes c.packet) (g : good b ≡ true) where
    few_regions : word b 0 < 4294967296
    unfolding state_of
    few_regions = let n = ((good_when (state_of b)).0 (state_is b g)).start.sixteen in omega arith

    good_after : words_in good state_of block_changes (single b c).state ≡ words_in good state_of block_changes b
    unfolding on_state
    good_after =
        let block = block_is b g in
        let few = few_regions in
        let k = command_kept (state_of b) c in
        let h : good_state after ≡ true = command_good (state_of b) c bytes (state_is b g) in
        let f : Fits after = good_fits after ((good_when after).0 h) (ap length k.regions ∙ sixteen) (ap length k.pools ∙ two) in
        rw (single_is few, block, over_block b few block after k.regions k.count f, over_back b few block after k.regions k.count f, h, k.regions, k.count, state_is b g)

pub words_stay : WordsStay good state_of block_changes
words_stay b c bytes =
    either (good b)
    (λ g. good_after b c bytes g)
    (λ g. ap (λ (o : Single (List ℕ)). words_in good state_of block_changes o.state) (not_good good state_of block_changes b c g))

pub batch_is : (b : List ℕ) (a : BatchArgs) (records : ℕ) → length b ≡ 80 → word b 0 < 4294967296 → batch single b a records ≡ batch on_block b a records
batch_is b a records n few =
    same_batch single on_block Held (λ s c h. (single_is s c h.few, still_held s c h)) a b (record { long = n; few = few }) records

-- A BLOCK OF ANOTHER LENGTH is no state: each item is refused with 1, and nothing else changes

module _ (b : List ℕ) (other : length b ≢ 80) where
  pub refuses : (c : CommandArgs) → on_block b c ≡ record { number = 1; length = 0; state = b; image = c.image; reply = c.reply }
  unfolding on_state is_block
  refuses c = rw (ne_eqb (length b) 80 other)

  pub left_is : (a : BatchArgs) (records : ℕ)
      → (batch on_block b a records).left ≡ nothing_left on_block b refuses a (cond (unfit_by (items_of a) (length a.lengths) records (length a.replies)) 0 (items_of a))
  left_is a records = batch_refused on_block b refuses a records
