-- `rules::further_cases` states the further examples, which proofs/FurtherExamples.antt proves.
-- Assumes nothing.
use Rattle.rules.proofs.FurtherExamples.{further_examples}
use Rattle.rules.proofs.further_cases.Goals as goal

pub returns : goal.returns
returns c = further_examples
