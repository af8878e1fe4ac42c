-- `regions::word_index` meets its contract.
-- Assumes nothing.
use borrow.Author.Tests.{lt-ltb, le-ltb}
use Rattle.regions.proofs.Answers.{indexed}
use Rattle.regions.proofs.word_index.Goals as goal

pub returns-then-i-ge16 : goal.returns-then-i-ge16
returns-then-i-ge16 g c = let a = c.args in indexed _ a.a a.k _ (rw (le-ltb a.k 16 c.if-i-ge16.true))

pub returns : goal.returns
returns g c =
    let a = c.args in
    indexed _ a.a a.k _ (rw (lt-ltb a.k 16 c.if-i-ge16.false, c.words_below-below.ensures.0, c.words_before-before.ensures, c.entry.ensures))
