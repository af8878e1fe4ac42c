-- `batch::run` meets its contract. The loop's invariant: items 0 to i - 1 left what is there (`Upto`), and the good test answers what it did at the start.
-- Assumes nothing.
use mathlib.Core.Path.{◌≡◌}
use Rattle.batches.specs.Batch.{lends}
use Rattle.batches.proofs.Turns.{Upto}
use Rattle.batch.specs.OnStore.{single_in, words_in}
use Rattle.batch.proofs.run.Given as goal

abbrev pub invariant-loop-i : goal.invariant-loop-i
invariant-loop-i g l =
    Upto (single_in g.S.Store.is_good g.S.Store.state g.S.Store.changes) (lends l.bytes l.starts l.lengths l.symbols l.initial.image l.initial.replies) l.initial.numbers l.initial.sizes l.initial.s l.i l.s
    l.image l.replies l.numbers l.sizes
    × (l.words ≡ words_in g.S.Store.is_good g.S.Store.state g.S.Store.changes l.s)
