-- `lent_batch::answered` meets its contract: a block of 80 words is a store, and one of another length is no state.
-- Assumes nothing.
use mathlib.Core.Path.{refl, sym, ap, ◌∙◌}
use Rattle.rules.specs.Results.{verdict_number}
use Rattle.batches.specs.Batch.{lends}
use Rattle.batches.proofs.Whole.{verdict_is}
use Rattle.lent_batch.specs.Batches.{on_block}
use Rattle.lent_batch.proofs.OnBlock.{words_stay, batch_is, left_is}
use Rattle.lent_batch.proofs.answered.Goals as goal

pub answered-requires : goal.answered-requires
answered-requires c = words_stay

pub returns-in-Some : goal.returns-in-Some
returns-in-Some c =
    let a = c.args in
    let whole = c.in-Some.ensures.cases in
    rw (whole.same, batch_is a.b.now (lends a.bytes.now a.starts.now a.lengths.now a.symbols.now a.image.now a.replies.now) _ whole.long (c.slice_known-1.given 0).fits) at c.answered.ensures

pub returns-in-None : goal.returns-in-None
returns-in-None c =
    let a = c.args in
    let lent = lends a.bytes.now a.starts.now a.lengths.now a.symbols.now a.image.now a.replies.now in
    let n = c.refused_answers.ensures in
    let e = left_is a.b.now c.in-None.ensures.cases lent a.records in
    (n.0 ∙ ap verdict_number (sym (verdict_is on_block a.b.now lent _)), rw e n.1, rw e (refl, refl, refl))
