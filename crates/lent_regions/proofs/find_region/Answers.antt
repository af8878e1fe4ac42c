-- `lent_regions::find_region` meets its contract.
-- Assumes nothing.
use mathlib.Core.Path.{refl}
use native.Mathlib.Omega.{arith}
use lib.ListN.{length}
use borrow.Author.Tests.{le-leb, lt-leb}
use Rattle.lent_regions.specs.Finding.{find_in}
use Rattle.lent_regions.proofs.find_region.Goals as goal

pub returns-then-rs-lt48 : goal.returns-then-rs-lt48
unfolding find_in
returns-then-rs-lt48 c = let l = c.if-rs-lt48.true in (rw (lt-leb 48 (length c.args.rs.now) l) refl, λ k. absurd (omega arith))

pub returns : goal.returns
unfolding find_in
returns c = let e = c.find_region.ensures in (rw (le-leb 48 (length c.args.rs.now) c.if-rs-lt48.false) e.0, λ k. e.1)
