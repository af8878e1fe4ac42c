-- `whole_dump::check_examples` states checks on literal bytes, which proofs/Examples.antt computes.
-- Assumes nothing.
use Rattle.whole_dump.proofs.Examples.{check_examples}
use Rattle.whole_dump.proofs.check_examples.Goals as goal

pub returns : goal.returns
returns c = check_examples
