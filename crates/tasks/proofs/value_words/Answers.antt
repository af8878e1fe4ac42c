-- `tasks::value_words` meets its contract.
-- Assumes nothing.
use native.Mathlib.Omega.{arith}
use Rattle.tasks.proofs.ValueBytes.{value_as_words}
use Rattle.tasks.proofs.value_words.Goals as goal

pub returns : goal.returns
returns c =
    let a = c.args in
    let h = a.h in
    rw (c.from-sequence.ensures, c.from.ensures, c.from-2.ensures) (value_as_words h.count h.unit h.transaction a.value (omega arith) (omega arith) (omega arith))
