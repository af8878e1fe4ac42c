-- `places::after_packet` meets its contract.
-- Assumes nothing.
use mathlib.Core.Path.{sym}
use native.Mathlib.Omega.{arith}
use Rattle.rules.proofs.AfterPacket.{sent_more, sent_all}
use Rattle.places.proofs.after_packet.Goals as goal

pub returns-in-Some : goal.returns-in-Some
returns-in-Some c = let e = c.in-Some.ensures in rw e.1 (sym (sent_more _ (omega arith)))

pub returns-in_default : goal.returns-in_default
returns-in_default c = let e = c.in-Some.ensures in sym (sent_all _ (omega arith))

pub returns-in_default-2 : goal.returns-in_default-2
returns-in_default-2 c = let e = c.in_default.ensures in sym (sent_all _ (omega arith))
