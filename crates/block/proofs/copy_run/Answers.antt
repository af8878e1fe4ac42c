-- `block::copy_run` meets its contract.
-- Assumes nothing.
use mathlib.Core.Path.{sym}
use native.Mathlib.Omega.{arith}
use Rattle.lists.proofs.Runs.{splice_none, copy_turn}
use borrow.Author.Rules.{rules}
use Rattle.block.proofs.copy_run.Goals as goal

pub loop-i-init : goal.loop-i-init
loop-i-init c = (sym (splice_none _ _), search rules)

pub loop-i-preserved : goal.loop-i-preserved
loop-i-preserved c = (copy_turn c.args.b.now c.loop-i.b c.args.v.now c.args.at c.loop-i.i (omega arith) (omega arith) c.loop-i.invariant.0, search rules)
