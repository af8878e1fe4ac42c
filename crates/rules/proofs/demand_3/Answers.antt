-- `rules::demand_3` states demand 3, which proofs/NoDumpWaits.antt proves from demand 2.
-- Assumes nothing.
use Rattle.rules.proofs.ExactEffect.{demand_2}
use Rattle.rules.proofs.NoDumpWaits.{demand_3}
use Rattle.rules.proofs.demand_3.Goals as goal

pub returns : goal.returns
returns c = demand_3 demand_2
