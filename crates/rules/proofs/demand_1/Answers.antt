-- `rules::demand_1` states demand 1, which proofs/Refusals.antt proves.
-- Assumes nothing.
use Rattle.rules.proofs.Refusals.{demand_1}
use Rattle.rules.proofs.demand_1.Goals as goal

pub returns : goal.returns
returns c = demand_1
