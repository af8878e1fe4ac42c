-- On a State the decision is that of the slot call, and what it makes of the state is the state after it.
-- Assumes nothing.
use Rattle.std.proofs.Common.{◌≡◌, refl, Result, Ok, Err}
use Rattle.rules.specs.Slots.{SlotArgs}
use Rattle.rules.specs.States.{good_state}
use Rattle.rules.specs.declared.Refusal.{Refusal}
use Rattle.rules.specs.declared.State.{State}
use Rattle.opening.specs.Opening.{good_words}
use Rattle.state.specs.Changes.{state_changes}
use Rattle.sending.specs.Sendings.{sending, state_sent}
use Rattle.sending.specs.declared.Piece.{Piece}
use Rattle.slot.specs.OnStore.{sending_in, sent}

pub sending_is : (s : State) (c : SlotArgs) → sending_in (good_state s) s c ≡ sending s c
unfolding sending_in sending good_words
sending_is s c = refl

pub sent_is : (s : State) (d : Result Piece Refusal) → sent state_changes s d ≡ state_sent s d
sent_is s (Err r) = refl
sent_is s (Ok x) = refl
