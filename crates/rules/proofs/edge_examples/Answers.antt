-- `rules::edge_examples` states the examples where rules meet, which proofs/EdgeExamples.antt proves.
-- Assumes nothing.
use Rattle.rules.proofs.EdgeExamples.{edge_examples}
use Rattle.rules.proofs.edge_examples.Goals as goal

pub returns : goal.returns
returns c = edge_examples
