-- `decide::command_is_decided` states that the command call is its decision, carried out, which proofs/Commands.antt proves.
-- Assumes nothing.
use Rattle.decide.proofs.Commands.{decided}
use Rattle.decide.proofs.command_is_decided.Goals as goal

pub returns : goal.returns
returns c = decided
