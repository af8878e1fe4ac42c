-- `pool::walk_pool` meets its contract.
-- Assumes nothing.
use borrow.Author.Rules.{rules}
use mathlib.Core.Path.{sym, ap, ◌∙◌}
use Rattle.std.specs.Prelude.{Some}
use native.Mathlib.Omega.{arith}
use lib.ListN.{get_or}
use Rattle.rules.specs.Pools.{block_of, blocks_of}
use Rattle.pool.proofs.Blocks.{same_figures, told, told_next, tallied_words, tallied_blocks, joined_start, joined_end, joined_zero, joined_out, joined_next}
use Rattle.pool.proofs.walk_pool.Goals as goal

pub loop-at-init : goal.loop-at-init
loop-at-init c = (omega arith, omega arith, omega arith, omega arith, joined_start (blocks_of c.args.pool.now))

pub returns-then-size-eq0 : goal.returns-then-size-eq0
returns-then-size-eq0 c = sym (joined_zero (told c.loop-at.t c.loop-at.at) c.args.pool.now c.loop-at.at (omega arith) (omega arith)) ∙ c.loop-at.invariant.4

pub returns-then-pool-at : goal.returns-then-pool-at
returns-then-pool-at c =
    sym (joined_out (told c.loop-at.t c.loop-at.at) c.args.pool.now c.loop-at.at (omega arith) (omega arith) (omega arith))
    ∙ c.loop-at.invariant.4

pub loop-at-preserved : goal.loop-at-preserved
loop-at-preserved c =
    let pool = c.args.pool.now in
    let t = c.loop-at.t in
    let at = c.loop-at.at in
    let b = block_of (get_or pool at 0) in
    let words = tallied_words t b at (omega arith) (omega arith) in
    let blocks = tallied_blocks t b at (omega arith) (omega arith) in
    let next = joined_next (told t at) pool at (omega arith) (omega arith) (omega arith) in (
      search rules,
      rw c.count_block-t.ensures (omega arith),
      rw c.count_block-t.ensures (omega arith),
      rw c.count_block-t.ensures (omega arith),
      rw (c.count_block-t.ensures, told_next t b at (omega arith) (omega arith)) (sym next ∙ c.loop-at.invariant.4),
    )

pub returns : goal.returns
returns c =
    let f = told c.loop-at.t c.loop-at.at in
    ap Some (same_figures {g = f} (omega arith)) ∙ sym (joined_end f c.args.pool.now c.loop-at.at (omega arith)) ∙ c.loop-at.invariant.4
