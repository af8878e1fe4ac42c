-- `symbols::numbers_of_symbols` states what proofs/Told.antt proves.
-- Assumes nothing.
use Rattle.symbols.proofs.Told.{symbol_numbers}
use Rattle.symbols.proofs.numbers_of_symbols.Goals as goal

pub returns : goal.returns
returns c = symbol_numbers
