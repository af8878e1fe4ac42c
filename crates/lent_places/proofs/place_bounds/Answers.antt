-- `lent_places::place_bounds` meets its contract.
-- Assumes nothing.
use native.Mathlib.Omega.{arith}
use Rattle.lent_places.proofs.Steps.{idle_bounds, busy_bounds, other_bounds}
use Rattle.lent_places.proofs.place_bounds.Goals as goal

pub returns-in-0 : goal.returns-in-0
returns-in-0 c =
    let a = c.args in
    rw (c.word_at-in-0.ensures, c.word_at-in-0-2.ensures, c.word_at-in-0-3.ensures, c.word_at-in-0-4.ensures)
    (idle_bounds a.ps.now a.i _ c.if-i-ge4.false c.word_at.ensures c.in-0.is)

pub returns-in-1 : goal.returns-in-1
returns-in-1 c = let a = c.args in rw c.word_at-in-1.ensures (busy_bounds a.ps.now a.i _ c.if-i-ge4.false c.word_at.ensures c.in-1.is)

pub returns-in_default : goal.returns-in_default
returns-in_default c = let a = c.args in other_bounds a.ps.now a.i _ c.if-i-ge4.false c.word_at.ensures (omega arith) (omega arith)
