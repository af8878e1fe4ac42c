-- `regions::region_of` meets its contract.
-- Assumes nothing.
use borrow.Author.Rules.{rules}
use mathlib.Core.Path.{sym, ◌∙◌}
use Prim.Native.Nat.{◌≤◌}
use native.Mathlib.Omega.{arith}
use Rattle.regions.specs.Halving.{is_short}
use Rattle.regions.proofs.InOrder.{at_most_five}
use Rattle.regions.proofs.Steps.{all_left, half_left, on_short, on_long, one_left_lem, all_counted, count_low, compared_is, region_held, region_none}
use Rattle.regions.proofs.region_of.Goals as goal
use Rattle.regions.proofs.region_of.Goals.{then-end_of, else-end_of}

pub loop-left-init : goal.loop-left-init
loop-left-init g c =
    let l : c.min-used.result ≤ 16 = omega arith in
    (l, all_left (is_short (g.T.Table.entries c.args.rs.now) c.args.a) c.min-used.result l)

pub overflow_add-compared : goal.overflow_add-compared
overflow_add-compared g c =
    let most = count_low _ _ _ _ _ c.loop-left.invariant.1 in
    search rules

pub loop-left-preserved : goal.loop-left-preserved
loop-left-preserved g c =
    let rs = g.T.Table.entries c.args.rs.now in
    let first = c.loop-left.first in
    let left = c.loop-left.left in (
      c.loop-left.invariant.0,
      half_left (is_short (g.T.Table.entries c.args.rs.now) c.args.a) c.min-used.result first left _ c.loop-left.invariant.1 c.loop-left-test.true _
          (elim c.if-end_of.branch [
            | then-end_of w ↦ w.first-is ∙ on_short rs c.args.a first left (rw (c.end_of.ensures, c.entry.ensures, c.end_of-in-loop-left.ensures) at w.if-end_of.true)
            | else-end_of w ↦ w.first-is ∙ on_long rs c.args.a first left (rw (c.end_of.ensures, c.entry.ensures, c.end_of-in-loop-left.ensures) at w.if-end_of.false)
          ]),
    )

pub returns-then-is_holding : goal.returns-then-is_holding
returns-then-is_holding g c =
    let rs = g.T.Table.entries c.args.rs.now in
    let w = c.loop-left.invariant.1 in
    let k = one_left_lem (is_short (g.T.Table.entries c.args.rs.now) c.args.a) c.min-used.result _ _ _ w c.loop-left-test.false in
    rw (← c.min-used.ensures) (
      region_held rs c.args.a _ _ k (rw (c.entry-2.ensures, c.end_of-2.ensures) at (sym c.is_holding.ensures ∙ c.if-is_holding.true)),
      compared_is rs c.args.a _ (all_counted (is_short (g.T.Table.entries c.args.rs.now) c.args.a) c.min-used.result _ _ _ w c.loop-left-test.false),
      at_most_five _ _ _,
    )

pub returns : goal.returns
returns g c =
    let rs = g.T.Table.entries c.args.rs.now in
    let w = c.loop-left.invariant.1 in
    let k = one_left_lem (is_short (g.T.Table.entries c.args.rs.now) c.args.a) c.min-used.result _ _ _ w c.loop-left-test.false in
    rw (← c.min-used.ensures) (
      region_none rs c.args.a _ _ k (rw (c.entry-2.ensures, c.end_of-2.ensures) at (sym c.is_holding.ensures ∙ c.if-is_holding.false)),
      compared_is rs c.args.a _ (all_counted (is_short (g.T.Table.entries c.args.rs.now) c.args.a) c.min-used.result _ _ _ w c.loop-left-test.false),
      at_most_five _ _ _,
    )
