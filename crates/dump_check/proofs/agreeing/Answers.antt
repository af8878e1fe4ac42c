-- `dump_check::agreeing` meets its contract.
-- Assumes nothing.
use Rattle.dump_check.proofs.Pieces.{agree_is}
use Rattle.dump_check.proofs.agreeing.Goals as goal

pub returns : goal.returns
returns c =
    let a = c.args in
    rw (c.read16.ensures, c.read16-2.ensures, c.read32.ensures, c.read32-2.ensures, c.read32-3.ensures, c.read32-4.ensures)
    (agree_is a.p.now a.q.now)
