-- `rules::number_examples` states the examples of every number, which proofs/NumberExamples.antt proves.
-- Assumes nothing.
use Rattle.rules.proofs.NumberExamples.{number_examples}
use Rattle.rules.proofs.number_examples.Goals as goal

pub returns : goal.returns
returns c = number_examples
