-- `rules::demand_2` states demand 2, which proofs/ExactEffect.antt proves.
-- Assumes nothing.
use Rattle.rules.proofs.ExactEffect.{demand_2}
use Rattle.rules.proofs.demand_2.Goals as goal

pub returns : goal.returns
returns c = demand_2
