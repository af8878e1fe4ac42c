-- `batch::batch` meets its contract.
-- Assumes nothing.
use mathlib.Core.Path.{refl, sym, ◌∙◌}
use Rattle.batches.specs.Batch.{lends, on_state}
use Rattle.batches.proofs.Whole.{verdict_is}
use Rattle.batch.proofs.OnState.{batch_is, words_stay}
use Rattle.batch.proofs.batch.Goals as goal

pub answered-given-requires : goal.answered-given-requires
answered-given-requires c = words_stay

pub returns : goal.returns
returns c =
    let a = c.args in
    let lent = lends a.bytes.now a.starts.now a.lengths.now a.symbols.now a.image.now a.replies.now in
    let e = rw (batch_is a.s lent _) at c.answered-given.ensures in
    (c.batch_verdict-verdict.ensures ∙ sym (verdict_is on_state a.s lent _), e.2, c.put_records.ensures ∙ e.1 a.answers.now refl)
