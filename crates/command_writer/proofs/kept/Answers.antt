-- `command_writer::kept` meets its contract.
-- Assumes nothing.
use native.Mathlib.Omega.{arith}
use Rattle.command_writer.proofs.Names.{one_kept, two_kept, three_kept, all_kept}
use Rattle.command_writer.proofs.kept.Goals as goal

pub returns-in-1 : goal.returns-in-1
returns-in-1 c = rw c.in-1.is (one_kept c.args.w)

pub returns-in-2 : goal.returns-in-2
returns-in-2 c = rw c.in-2.is (two_kept c.args.w)

pub returns-in-3 : goal.returns-in-3
returns-in-3 c = rw c.in-3.is (three_kept c.args.w)

pub returns-in_default : goal.returns-in_default
returns-in_default c = all_kept c.args.w c.args.n (omega arith)
