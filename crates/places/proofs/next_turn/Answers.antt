-- `places::next_turn` meets its contract.
-- Assumes nothing.
use mathlib.Core.Path.{sym}
use native.Mathlib.Omega.{arith}
use Rattle.places.proofs.Steps.{next_here, nobody_next}
use Rattle.places.proofs.next_turn.Goals as goal

pub returns-in-Busy : goal.returns-in-Busy
returns-in-Busy g c = let l = c.loop-k in next_here _ _ l.k l.invariant c.loop-k-test.true _ (sym c.in-Busy.ensures)

pub returns : goal.returns
returns g c = let l = c.loop-k in nobody_next _ _ l.k l.invariant (omega arith)
