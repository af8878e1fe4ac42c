-- `whole_dump::number_when` states the cases of the numbers, which proofs/Numbers.antt proves.
-- Assumes nothing.
use Rattle.whole_dump.proofs.Numbers.{numbers}
use Rattle.whole_dump.proofs.number_when.Goals as goal

pub returns : goal.returns
returns c = numbers
