-- `lent_slot::slot` meets its contract.
-- Assumes nothing.
use mathlib.Core.Path.{refl}
use Rattle.block.proofs.Bounds.{not_block}
use Rattle.block.specs.Calls.{on_state}
use Rattle.lent_slot.proofs.Steps.{slot_left}
use Rattle.lent_slot.proofs.slot.Goals as goal

pub returns-in_default : goal.returns-in_default
unfolding on_state
returns-in_default c = rw (not_block c.args.b.now c.in_default.ensures.cases) (refl, refl, refl, refl)

pub returns : goal.returns
returns c =
    let a = c.args in
    let e = rw c.in-Some.ensures.cases.same at c.call.ensures in
    slot_left a.b.now (λ i. (c.slice_known-1.given i).fits) a.tick a.image.now a.buffer.now refl e.1 (e.0, e.2)
