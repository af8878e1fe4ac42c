-- `lent_batch::refused_answers` meets its contract: lists of 64 ones and 64 zeros.
-- Assumes nothing.
use Rattle.batches.proofs.NoState.{each_given}
use Rattle.lent_batch.proofs.refused_answers.Goals as goal

pub returns-then-number-eq0 : goal.returns-then-number-eq0
returns-then-number-eq0 c =
    let a = c.args in
    each_given a.starts a.lengths a.records a.replies c.batch_verdict.ensures c.number_of-number.ensures c.if-number-eq0.true
