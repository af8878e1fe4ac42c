-- `batch::numbered` meets its contract: the verdict says which of the two cases of the definition it is.
-- Assumes nothing.
use mathlib.Core.Path.{sym, ◌∙◌}
use Rattle.std.proofs.lemmas.Result.{err_from_is_err_and}
use Rattle.batches.specs.Batch.{lends}
use Rattle.batches.proofs.Whole.{fits, refused, accepted}
use Rattle.batch.specs.OnStore.{single_in}
use Rattle.batch.proofs.numbered.Goals as goal

pub returns-in_err-batch_verdict : goal.returns-in_err-batch_verdict
returns-in_err-batch_verdict g c =
    let a = c.args in
    let p = err_from_is_err_and c.from_residual.result c.from_residual.ensures.1 in
    let r =
    refused (single_in g.S.Store.is_good g.S.Store.state g.S.Store.changes) a.s.now (lends a.bytes.now a.starts.now a.lengths.now a.symbols.now a.image.now a.replies.now) a.numbers.now a.sizes.now
    c.min-records.ensures c.batch_verdict.ensures c.in_err-batch_verdict.was in
    (rw (p.1, p.2) (sym c.in_err-batch_verdict.was ∙ r.0), r.1, r.2, r.3)

pub returns : goal.returns
returns g c =
    let a = c.args in
    let r =
    accepted (single_in g.S.Store.is_good g.S.Store.state g.S.Store.changes) a.s.now (lends a.bytes.now a.starts.now a.lengths.now a.symbols.now a.image.now a.replies.now) a.numbers.now a.sizes.now
    c.min-records.ensures c.batch_verdict.ensures c.in_ok-batch_verdict.was c.run.ensures in
    (sym c.in_ok-batch_verdict.was ∙ r.0, r.1, r.2, r.3)
