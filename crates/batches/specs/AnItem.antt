-- AN ITEM IS ITS BYTES: a batch of one packet, wherever it stands in the buffer and however long it is, is the command call with that packet
-- (paper 02, A1). No start is added to a length here.
use Rattle.std.specs.Prelude.{◌≡◌, List, [], ◌∷◌, ◌++◌, ℕ, ◌≤◌, length, take, drop, Ok}
use Rattle.rules.specs.Commands.{CommandArgs, command_call}
use Rattle.rules.specs.Results.{answer_number, answer_length}
use Rattle.rules.specs.declared.State.{State}
use Rattle.batches.specs.Batch.{lends, on_state, batch}

-- what the command call is lent: the packet, and the first 32 bytes of the reply buffer
abbrev pub alone : List ℕ → List ℕ → List ℕ → List ℕ → CommandArgs
alone p symbols image replies = record { packet = p; symbols = symbols; image = image; reply = take 32 replies }

abbrev pub AnItem : Type 0
AnItem =
    (s : State) (before p after symbols image replies : List ℕ) (records : ℕ) → 1 ≤ records → 32 ≤ length replies
    → batch on_state s (lends (before ++ p ++ after) (length before ∷ []) (length p ∷ []) symbols image replies) records
    ≡ record {
      verdict = (Ok tt);
      left =
          record {
            state = (command_call s (alone p symbols image replies)).state;
            image = (command_call s (alone p symbols image replies)).image;
            replies = (command_call s (alone p symbols image replies)).buffer ++ drop 32 replies;
            answers =
                record {
                  number = answer_number (command_call s (alone p symbols image replies)).answer;
                  length = answer_length (command_call s (alone p symbols image replies)).answer;
                }
                ∷ [];
          };
    }
