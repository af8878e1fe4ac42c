-- `sending::slot_is_decided` states that the slot call is its decision, carried out, which proofs/Slots.antt proves.
-- Assumes nothing.
use Rattle.sending.proofs.Slots.{slot_decided}
use Rattle.sending.proofs.slot_is_decided.Goals as goal

pub returns : goal.returns
returns c = slot_decided
