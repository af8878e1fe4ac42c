-- `batch::answered` meets its contract: the two arrays begin with the numbers and the lengths of the answers.
-- Assumes nothing.
use mathlib.Core.Path.{refl, ap, ◌∙◌}
use lib.ListN.{replicate}
use Rattle.rules.specs.Results.{verdict_number}
use Rattle.batches.specs.Batch.{lends}
use Rattle.batches.proofs.Whole.{room_long, given, not_given}
use Rattle.batch.specs.OnStore.{single_in}
use Rattle.batch.proofs.answered.Goals as goal

pub returns-then-number-eq0 : goal.returns-then-number-eq0
returns-then-number-eq0 g c =
    let a = c.args in
    let n = c.number_of-number.ensures in
    let r =
    given a.records c.min-room.ensures (replicate 64 0) refl (single_in g.S.Store.is_good g.S.Store.state g.S.Store.changes) a.s.now
    (lends a.bytes.now a.starts.now a.lengths.now a.symbols.now a.image.now a.replies.now) c.numbered-verdict.ensures _
    n c.if-number-eq0.true refl in
    (n ∙ ap verdict_number r.0, r.1, r.2)

pub returns-else-number-eq0 : goal.returns-else-number-eq0
returns-else-number-eq0 g c =
    let a = c.args in
    let n = c.number_of-number.ensures in
    let r =
    not_given a.records c.min-room.ensures (replicate 64 0) refl (single_in g.S.Store.is_good g.S.Store.state g.S.Store.changes) a.s.now
    (lends a.bytes.now a.starts.now a.lengths.now a.symbols.now a.image.now a.replies.now) c.numbered-verdict.ensures _
    n c.if-number-eq0.false refl in
    (n ∙ ap verdict_number r.0, r.1, r.2)
