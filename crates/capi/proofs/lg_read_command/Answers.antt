-- `capi::lg_read_command` meets its contract.
-- Assumes nothing.
use Rattle.capi.proofs.Reading.{command_other, command_unread, command_done}
use Rattle.capi.proofs.lg_read_command.Goals as goal

pub returns-then-command-ne21 : goal.returns-then-command-ne21
returns-then-command-ne21 c = command_other _ _ c.if-command-ne21.true

pub returns-in-Err : goal.returns-in-Err
returns-in-Err c = command_unread _ _ c.if-command-ne21.false _ c.reading_of.ensures _ c.in-Err.is _ c.from.ensures

pub returns-in-Ok : goal.returns-in-Ok
returns-in-Ok c = command_done _ _ c.if-command-ne21.false _ c.reading_of.ensures _ c.in-Ok.is _ c.head_words.ensures _ c.put_run.ensures.0 _ c.put_beside.ensures.0 _ c.tail_words.ensures _ c.put_run-in-Ok.ensures.0
