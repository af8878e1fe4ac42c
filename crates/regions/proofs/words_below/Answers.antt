-- `regions::words_below` meets its contract.
-- Assumes nothing.
use mathlib.Core.Path.{◌≡◌}
use native.Mathlib.Omega.{arith}
use Rattle.rules.specs.Regions.{words_below}
use Rattle.regions.proofs.Steps.{words_more}
use borrow.Author.Rules.{rules}
use Rattle.regions.proofs.words_below.Goals as goal

pub loop-i-init : goal.loop-i-init
unfolding words_below
loop-i-init g c = search rules

pub loop-i-preserved : goal.loop-i-preserved
loop-i-preserved g c =
    (search rules, rw (c.loop-i.invariant.1, c.entry.ensures) (words_more (g.T.Table.entries c.args.rs.now) c.loop-i.i), search rules)
