-- `places::numbers_of_turns` states what proofs/Told.antt proves.
-- Assumes nothing.
use Rattle.places.proofs.Told.{turn_numbers}
use Rattle.places.proofs.numbers_of_turns.Goals as goal

pub returns : goal.returns
returns c = turn_numbers
