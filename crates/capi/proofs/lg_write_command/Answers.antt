-- `capi::lg_write_command` meets its contract.
-- Assumes nothing.
use Rattle.capi.proofs.Writing.{write_other, write_unknown, write_done}
use Rattle.capi.proofs.lg_write_command.Goals as goal

pub returns-then-command-ne21 : goal.returns-then-command-ne21
returns-then-command-ne21 c = write_other _ _ c.if-command-ne21.true

pub returns-in_default : goal.returns-in_default
returns-in_default c = write_unknown _ _ c.if-command-ne21.false _ c.command_in.ensures c.in_default.is

pub returns : goal.returns
returns c = write_done _ _ c.if-command-ne21.false _ c.command_in.ensures _ c.in-Some.is _ c.header_in-h.ensures _ _ c.write_packet.ensures _ _ c.hand_over.ensures
