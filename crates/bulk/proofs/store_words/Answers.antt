-- `bulk::store_words` meets its contract.
-- Assumes nothing.
use native.Mathlib.Omega.{arith}
use Rattle.bulk.proofs.Words.{first_words}
use Rattle.bulk.proofs.store_words.Goals as goal

pub returns : goal.returns
returns c = (
  λ h k. rw first_words c.store_run.ensures,
  λ n. absurd (n (omega arith) (c.has_words.ensures.0 c.if-not-has_words.false)),
)
