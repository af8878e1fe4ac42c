-- The lowest place busy with a number.
-- Assumes nothing.
use Rattle.rules.specs.Commands.{first_with}
use Rattle.places.specs.Turns.{first_within}
use Rattle.state.proofs.StateStore.busy_place.Goals as goal

pub returns : goal.returns
unfolding first_within first_with
returns c = λ good. c.first_with.ensures
