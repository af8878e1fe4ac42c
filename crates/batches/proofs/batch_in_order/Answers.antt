-- `batches::batch_in_order` states A1's promises, which proofs/Promises.antt proves.
-- Assumes nothing.
use Rattle.batches.proofs.Promises.{promises}
use Rattle.batches.proofs.batch_in_order.Goals as goal

pub returns : goal.returns
returns c = promises
