-- The command call on what keeps a state as a single call of a batch, by whether that is a good state, the state that it says, and how it changes.
use Rattle.std.specs.Prelude.{◌≡◌, Bool, cond, ℕ, Result}
use Rattle.wire.specs.Bytes.{AreBytes}
use Rattle.rules.specs.Commands.{CommandArgs}
use Rattle.rules.specs.Regions.{image_length}
use Rattle.rules.specs.Results.{number_of, answer_length}
use Rattle.rules.specs.declared.Refusal.{Refusal}
use Rattle.rules.specs.declared.State.{State}
use Rattle.state.specs.Changes.{Changes}
use Rattle.decide.specs.Decisions.{answer_of, image_after, reply_after}
use Rattle.decide.specs.declared.Decision.{Decision}
use Rattle.command.specs.OnStore.{decision_in, after}
use Rattle.batches.specs.Batch.{Single}

module _ {S : Type 0} (good : S → Bool) (state : S → State) (changes : Changes S) where
  -- what a decision gives and leaves
  abbrev pub single_by : S → CommandArgs → Result Decision Refusal → Single S
  single_by s c d =
      record {
        number = number_of (answer_of d);
        length = answer_length (answer_of d);
        state = after changes s d;
        image = image_after d c.packet c.image;
        reply = reply_after d c.reply;
      }

  unfoldable pub single_in : S → CommandArgs → Single S
  single_in s c = single_by s c (decision_in (good s) (state s) c)

  -- what the good test answers
  abbrev pub words_in : S → ℕ
  words_in s = cond (good s) (image_length (state s).regions (state s).count) 0

  -- the good test answers the same after a command
  abbrev pub WordsStay : Type 0
  WordsStay = (s : S) (c : CommandArgs) → AreBytes c.packet → words_in (single_in s c).state ≡ words_in s
