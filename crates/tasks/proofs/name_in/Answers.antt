-- `tasks::name_in` meets its contract.
-- Assumes nothing.
use native.Mathlib.Omega.{arith}
use Rattle.tasks.proofs.Steps.{name_none, name_cut, name_whole}
use Rattle.tasks.proofs.name_in.Goals as goal

pub returns-then-p-lt12 : goal.returns-then-p-lt12
returns-then-p-lt12 c = name_none c.args.p.now (omega arith)

pub returns-then-p-end : goal.returns-then-p-end
returns-then-p-end c = name_cut c.args.p.now (omega arith)

pub returns : goal.returns
returns c = name_whole c.args.p.now
