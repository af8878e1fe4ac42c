-- `capi::lg_command` meets its contract: the length of a reply fits in a word.
-- Assumes nothing.
use mathlib.Core.Path.{◌≡◌, ◌∙◌}
use Prim.Native.Nat.{◌%◌}
use native.Mathlib.Omega.{arith}
use Rattle.rules.specs.Commands.{CommandArgs}
use Rattle.rules.specs.Results.{answer_length}
use Rattle.lent_command.proofs.Steps.{reply_short}
use Rattle.capi.proofs.lg_command.Goals as goal

pub returns : goal.returns
returns c =
    let a = c.args in
    let e = c.command.ensures in
    let l : CommandArgs = record { packet = a.packet.now; symbols = a.symbols.now; image = a.image.now; reply = a.reply.now } in
    let s = reply_short a.state.now l in
    let n : answer_length c.command.result % 4294967296 ≡ answer_length c.command.result = omega (arith, e.4, s) in
    (c.hand_over.ensures.0 ∙ e.0, e.1, e.2, e.3, c.hand_over.ensures.1 ∙ n ∙ e.4)
