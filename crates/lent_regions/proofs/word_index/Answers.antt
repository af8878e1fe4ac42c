-- `lent_regions::word_index` meets its contract.
-- Assumes nothing.
use mathlib.Core.Path.{refl}
use native.Mathlib.Omega.{arith}
use lib.ListN.{length}
use borrow.Author.Tests.{le-leb, lt-leb}
use Rattle.lent_regions.specs.Finding.{word_index_in}
use Rattle.lent_regions.proofs.word_index.Goals as goal

pub returns-then-rs-lt48 : goal.returns-then-rs-lt48
unfolding word_index_in
returns-then-rs-lt48 c = let l = c.if-rs-lt48.true in (rw (lt-leb 48 (length c.args.rs.now) l) refl, λ k. absurd (omega arith))

pub returns : goal.returns
unfolding word_index_in
returns c = let e = c.word_index.ensures in (rw (le-leb 48 (length c.args.rs.now) c.if-rs-lt48.false) e.0, λ k. e.1)
