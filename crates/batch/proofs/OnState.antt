-- On a State a single call of a batch is the one of its definition, and a command leaves a good state good, with the image that it had.
-- Assumes nothing.
use mathlib.Core.Path.{◌≡◌, ap}
use mathlib.Core.Bool.{true}
use Prim.Native.Nat.{ℕ}
use Rattle.lists.proofs.Tests.{either}
use Rattle.rules.specs.Commands.{CommandArgs, command_call}
use Rattle.rules.specs.States.{good_state}
use Rattle.rules.specs.declared.State.{State}
use Rattle.rules.proofs.StaysGood.{command_good}
use Rattle.state.specs.Changes.{state_changes}
use Rattle.decide.specs.Decisions.{decision}
use Rattle.decide.proofs.Commands.{decided}
use Rattle.command.proofs.OnState.{decision_is, after_is}
use Rattle.batches.specs.Batch.{BatchArgs, Single, on_state, batch}
use Rattle.batches.proofs.Kept.{command_kept}
use Rattle.batches.proofs.Turns.{same_batch}
use Rattle.batch.specs.OnStore.{single_in, words_in, WordsStay}
use Rattle.batch.proofs.Items.{not_good}

abbrev pub single : State → CommandArgs → Single State
single = single_in good_state (λ s. s) state_changes

single_is : (s : State) (c : CommandArgs) → single s c ≡ on_state s c
unfolding single_in
single_is s c = rw (decision_is s c, after_is s (decision s c), decided s c)

pub batch_is : (s : State) (a : BatchArgs) (records : ℕ) → batch single s a records ≡ batch on_state s a records
batch_is s a records = same_batch single on_state (λ s. Unit {0}) (λ s c m. (single_is s c, tt)) a s tt records

pub words_stay : WordsStay good_state (λ s. s) state_changes
words_stay s c bytes =
    either (good_state s)
    (λ g. let k = command_kept s c in let h : good_state (command_call s c).state ≡ true = command_good s c bytes g in rw (single_is s c, h, k.regions, k.count, g))
    (λ g. ap (λ (o : Single State). words_in good_state (λ s. s) state_changes o.state) (not_good good_state (λ s. s) state_changes s c g))
