-- `pool::numbers_of_walks` states what proofs/Told.antt proves.
-- Assumes nothing.
use Rattle.pool.proofs.Told.{walked_numbers}
use Rattle.pool.proofs.numbers_of_walks.Goals as goal

pub returns : goal.returns
returns c = walked_numbers
