-- `batch::run` meets its contract. The loop's invariant: items 0 to i - 1 left what is there (`Upto`), and the good test answers what it did at the start.
-- Assumes nothing.
use mathlib.Core.Path.{◌≡◌}
use native.Mathlib.Omega.{arith}
use lib.ListN.{length}
use Rattle.batches.specs.Batch.{lends}
use Rattle.batches.proofs.Turns.{fits, starts, turn, all}
use Rattle.batch.specs.OnStore.{single_in}
use Rattle.batch.proofs.run.Goals as goal

pub loop-i-init : goal.loop-i-init
loop-i-init g c =
    let a = c.args in
    (starts (single_in g.S.Store.is_good g.S.Store.state g.S.Store.changes) (lends a.bytes.now a.starts.now a.lengths.now a.symbols.now a.image.now a.replies.now) a.numbers.now a.sizes.now a.s.now, c.good_words-words.ensures)

pub loop-i-preserved : goal.loop-i-preserved
loop-i-preserved g c =
    let k = c.item in
    let e = rw c.symbols_for-table.ensures at k.ensures in
    let a = c.args in
    let f = fits (lends a.bytes.now a.starts.now a.lengths.now a.symbols.now a.image.now a.replies.now) _ c.requires.0 in (
      turn (single_in g.S.Store.is_good g.S.Store.state g.S.Store.changes) (lends a.bytes.now a.starts.now a.lengths.now a.symbols.now a.image.now a.replies.now) a.numbers.now a.sizes.now a.s.now
          c.loop-i.invariant.0 f c.loop-i-test.true c.bytes_from-packet.ensures (e.0, e.1, e.2, e.3, e.4)
          k.auto.image k.auto.replies k.auto.numbers k.auto.sizes,
      e.5,
    )
