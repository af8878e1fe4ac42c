-- `batch::batch_numbers` meets its contract.
-- Assumes nothing.
use Rattle.batches.specs.Batch.{lends}
use Rattle.batch.proofs.OnState.{batch_is, words_stay}
use Rattle.batch.proofs.batch_numbers.Goals as goal

pub numbered-verdict-requires : goal.numbered-verdict-requires
numbered-verdict-requires c = words_stay

pub returns : goal.returns
returns c =
    let a = c.args in
    rw (← batch_is a.s (lends a.bytes.now a.starts.now a.lengths.now a.symbols.now a.image.now a.replies.now) _) c.numbered-verdict.ensures
