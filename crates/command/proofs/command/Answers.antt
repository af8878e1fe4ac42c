-- `command::command` meets its contract.
-- Assumes nothing.
use mathlib.Core.Path.{◌∙◌}
use Rattle.rules.specs.Commands.{CommandArgs}
use Rattle.decide.proofs.Commands.{command_done}
use Rattle.command.proofs.OnState.{decision_is, after_is}
use Rattle.command.proofs.command.Goals as goal

pub returns : goal.returns
returns c =
    let a = c.args in
    let lent : CommandArgs = record { packet = a.packet.now; symbols = a.symbols.now; image = a.image.now; reply = a.reply.now } in
    let e = rw c.untested.ensures at c.call-answer.ensures in
    command_done a.s lent (decision_is a.s lent) e.0 (e.1 ∙ after_is a.s _) (e.2, e.3)
