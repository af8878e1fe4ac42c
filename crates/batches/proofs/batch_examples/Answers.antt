-- `batches::batch_examples` states examples of batches, which proofs/Examples.antt computes.
-- Assumes nothing.
use Rattle.batches.proofs.Examples.{batch_examples}
use Rattle.batches.proofs.batch_examples.Goals as goal

pub returns : goal.returns
returns c = batch_examples
