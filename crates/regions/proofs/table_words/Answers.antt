-- `regions::table_words` meets its contract.
-- Assumes nothing.
use mathlib.Core.Path.{◌≡◌, ◌∙◌}
use mathlib.Core.Bool.{true}
use Prim.Native.Nat.{◌≤◌}
use native.Mathlib.Omega.{arith}
use Rattle.lists.proofs.Below.{all_more}
use Rattle.rules.specs.Regions.{region_rules, words_below}
use Rattle.regions.proofs.Steps.{table_outside, table_inside, table_broken, table_kept, end_more, words_more}
use borrow.Author.Rules.{rules}
use Rattle.regions.proofs.table_words.Goals as goal

pub returns-then-n : goal.returns-then-n
returns-then-n g c = table_outside _ _ c.if-n.true

pub loop-i-init : goal.loop-i-init
unfolding words_below
loop-i-init g c =
    let inside : (1 ≤ c.args.n) × (c.args.n ≤ 16) = table_inside (g.T.Table.entries c.args.rs.now) _ c.if-n.false in
    (search rules, inside, search rules, search rules, search rules, search rules)

pub returns-then-not-region_rules : goal.returns-then-not-region_rules
returns-then-not-region_rules g c =
    let rs = g.T.Table.entries c.args.rs.now in
    let i = c.loop-i.i in
    table_broken rs _ i c.loop-i-test.true
    (rw (c.region_rules.ensures, c.loop-i.invariant.4, c.entry.ensures) at c.if-not-region_rules.true)

pub loop-i-preserved : goal.loop-i-preserved
loop-i-preserved g c =
    let rs = g.T.Table.entries c.args.rs.now in
    let i = c.loop-i.i in
    let kept : region_rules rs i ≡ true = rw (c.region_rules.ensures, c.loop-i.invariant.4, c.entry.ensures) at c.if-not-region_rules.false in (
      search rules,
      c.loop-i.invariant.1,
      rw (c.loop-i.invariant.2, c.entry.ensures) (words_more rs i),
      search rules,
      rw (c.end_of-before.ensures, c.entry.ensures) (end_more rs i),
      rw (all_more (region_rules rs) i, kept, c.loop-i.invariant.5),
    )

pub returns : goal.returns
returns g c =
    let a = c.args in
    let e : c.loop-i.i ≡ a.n = omega arith in
    c.loop-i.invariant.2 ∙ rw e (table_kept (g.T.Table.entries a.rs.now) a.n c.loop-i.invariant.1.0 c.loop-i.invariant.1.1 (rw e at c.loop-i.invariant.5))
