-- `rules::symbol_examples` states the examples of codes 8 and 9, which proofs/SymbolExamples.antt proves.
-- Assumes nothing.
use Rattle.rules.proofs.SymbolExamples.{symbol_examples}
use Rattle.rules.proofs.symbol_examples.Goals as goal

pub returns : goal.returns
returns c = symbol_examples
