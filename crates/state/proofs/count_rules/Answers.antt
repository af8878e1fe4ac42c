-- `state::count_rules` meets its contract.
-- Assumes nothing.
use mathlib.Core.Path.{refl}
use Rattle.rules.specs.States.{count_rules}
use Rattle.state.proofs.count_rules.Goals as goal

pub returns : goal.returns
unfolding count_rules
returns c = refl
