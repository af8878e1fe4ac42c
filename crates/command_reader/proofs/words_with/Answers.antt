-- `command_reader::words_with` meets its contract.
-- Assumes nothing.
use native.Mathlib.Omega.{arith}
use Rattle.command_reader.proofs.Steps.{with_fields}
use Rattle.command_reader.proofs.words_with.Goals as goal

pub returns-in-Ok : goal.returns-in-Ok
returns-in-Ok c = with_fields c.args.p.now _ _ _ c.in-Ok.is (c.put_beside.ensures.0 (omega arith))
