-- `command_reader::read_command` meets its contract.
-- Assumes nothing.
use Rattle.command_reader.proofs.Steps.{read_result}
use Rattle.command_reader.proofs.read_command.Goals as goal

pub returns : goal.returns
returns c = read_result _ _ _ c.reading_of-reading.ensures c.words_with-words.ensures
