-- On a State the decision is that of the command call, and what it makes of the state is the state after it.
-- Assumes nothing.
use Rattle.std.proofs.Common.{◌≡◌, refl, Result, Ok, Err}
use Rattle.rules.specs.Commands.{CommandArgs}
use Rattle.rules.specs.States.{good_state}
use Rattle.rules.specs.declared.Refusal.{Refusal}
use Rattle.rules.specs.declared.State.{State}
use Rattle.opening.specs.Opening.{good_words}
use Rattle.state.specs.Changes.{state_changes}
use Rattle.decide.specs.Decisions.{decision, state_after}
use Rattle.decide.specs.declared.Decision.{Decision}
use Rattle.decide.specs.declared.Decision.TheVariants.{Dump, Cancel, Load, Reply, Tell}
use Rattle.command.specs.OnStore.{decision_in, after}

pub decision_is : (s : State) (c : CommandArgs) → decision_in (good_state s) s c ≡ decision s c
unfolding decision_in decision good_words
decision_is s c = refl

pub after_is : (s : State) (d : Result Decision Refusal) → after state_changes s d ≡ state_after s d
after_is s (Err r) = refl
after_is s (Ok (Dump x)) = refl
after_is s (Ok (Cancel x)) = refl
after_is s (Ok (Load x)) = refl
after_is s (Ok (Reply x)) = refl
after_is s (Ok (Tell x)) = refl
