-- `rules::bound_examples` states the examples at the bounds, which proofs/BoundExamples.antt proves.
-- Assumes nothing.
use Rattle.rules.proofs.BoundExamples.{bound_examples}
use Rattle.rules.proofs.bound_examples.Goals as goal

pub returns : goal.returns
returns c = bound_examples
