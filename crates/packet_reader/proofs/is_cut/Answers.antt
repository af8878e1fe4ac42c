-- `packet_reader::is_cut` meets its contract.
-- Assumes nothing.
use native.Mathlib.Omega.{arith}
use Rattle.packet_reader.proofs.Steps.{all_sent, some_left}
use Rattle.packet_reader.proofs.is_cut.Goals as goal

pub returns-then-r-sent : goal.returns-then-r-sent
returns-then-r-sent c = all_sent _ _ _ c.if-r-sent.true

pub returns : goal.returns
returns c = some_left _ _ _ c.if-r-sent.false _ (omega (arith, c.min.ensures))
