-- `lent_command::tested` meets its contract.
-- Assumes nothing.
use mathlib.Core.Path.{refl}
use Rattle.rules.specs.Commands.{CommandArgs}
use Rattle.block.proofs.Bounds.{not_block}
use Rattle.block.specs.Calls.{on_state, good_words}
use Rattle.lent_command.proofs.Steps.{command_left}
use Rattle.lent_command.proofs.tested.Goals as goal

pub returns-in_default : goal.returns-in_default
unfolding on_state
returns-in_default c = rw (not_block c.args.b.now c.in_default.ensures.cases) (refl, refl, refl, refl, refl)

pub call-requires : goal.call-requires
unfolding good_words
call-requires c = rw (c.in-Some.ensures.cases.same, c.requires)

pub returns : goal.returns
returns c =
    let a = c.args in
    let lent : CommandArgs = record { packet = a.packet.now; symbols = a.symbols.now.bytes.now; image = a.image.now; reply = a.reply.now } in
    let e = rw c.in-Some.ensures.cases.same at c.call.ensures in
    command_left a.b.now (λ i. (c.slice_known-1.given i).fits) lent refl e.1 (e.2, e.3) e.0
