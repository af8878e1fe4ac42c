-- `rules::checked_examples` states E1 to E12, which proofs/Examples.antt proves.
-- Assumes nothing.
use Rattle.rules.proofs.Examples.{examples}
use Rattle.rules.proofs.checked_examples.Goals as goal

pub returns : goal.returns
returns c = examples
