-- `state::entries_used` meets its contract.
-- Assumes nothing.
use mathlib.Core.Path.{◌≡◌}
use native.Mathlib.Omega.{arith}
use lib.ListN.{length}
use Rattle.state.proofs.Steps.{used_none, used_more}
use borrow.Author.Rules.{rules}
use Rattle.state.proofs.entries_used.Goals as goal

pub loop-i-init : goal.loop-i-init
loop-i-init c = (search rules, used_none _)

pub loop-i-preserved : goal.loop-i-preserved
loop-i-preserved c =
    let rs = c.args.rs in
    let sixteen : length rs ≡ 16 = search rules in
    (search rules, rw c.loop-i.invariant.1 (used_more rs c.loop-i.i sixteen (omega arith)))
