-- `batches::demand_3_with_batches` states demand 3 where a batch may stand among the calls, which proofs/Lists.antt proves.
-- Assumes nothing.
use Rattle.batches.proofs.Lists.{demand_3_with_batches, items_are_calls, stays_good}
use Rattle.batches.proofs.demand_3_with_batches.Goals as goal

pub returns : goal.returns
returns c = (demand_3_with_batches, items_are_calls, stays_good)
