-- `regions::number_is_settled` states that the regions compared settle the number of the lookup's answer, which proofs/InOrder.antt proves.
-- Assumes nothing.
use Rattle.regions.proofs.InOrder.{number_settled}
use Rattle.regions.proofs.number_is_settled.Goals as goal

pub returns : goal.returns
returns c = number_settled
