-- `command_reader::put_beside` meets its contract.
-- Assumes nothing.
use native.Mathlib.Omega.{arith}
use Rattle.command_reader.proofs.Steps.{data_over_zeros}
use Rattle.command_reader.proofs.put_beside.Goals as goal

pub returns-in-Load : goal.returns-in-Load
returns-in-Load c = (
  λ h. rw c.in-Load.is (data_over_zeros _ _ _ _ c.put_zeros-in-Load.ensures (c.load_words.ensures.0 (omega arith) (omega (arith, c.if-words-lt12.false)))),
  λ s. absurd (omega (arith, c.if-words-lt12.false)),
)
