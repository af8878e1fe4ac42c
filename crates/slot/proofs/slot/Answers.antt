-- `slot::slot` meets its contract.
-- Assumes nothing.
use mathlib.Core.Path.{◌∙◌}
use Rattle.rules.specs.Slots.{SlotArgs}
use Rattle.sending.proofs.Slots.{slot_done}
use Rattle.slot.proofs.OnState.{sending_is, sent_is}
use Rattle.slot.proofs.slot.Goals as goal

pub returns : goal.returns
returns c =
    let a = c.args in
    let lent : SlotArgs = record { tick = a.tick; image = a.image.now; buffer = a.buffer.now } in
    let e = c.call-answer.ensures in
    slot_done a.s lent (sending_is a.s lent) (e.0, e.2) (λ fits. e.1 fits ∙ sent_is a.s _)
