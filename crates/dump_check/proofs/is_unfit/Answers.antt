-- `dump_check::is_unfit` meets its contract.
-- Assumes nothing.
use mathlib.Core.Logic.{⊎_elim}
use Prim.Native.Nat.{◌/◌, ◌%◌}
use lib.ListN.{length}
use borrow.Author.Tests.{lt-ltb, le-ltb, eq-eqb, ne_eqb}
use Rattle.whole_dump.specs.Check.{unfit}
use Rattle.dump_check.proofs.is_unfit.Goals as goal

pub returns-then-lengths-ne0 : goal.returns-then-lengths-ne0
unfolding unfit
returns-then-lengths-ne0 c =
    let n = length c.args.lengths.now in
    ⊎_elim (λ h. rw (ne_eqb (n % 2) 0 h)) (λ h. rw (eq-eqb (n % 2) 0 h.0, lt-ltb 65 (n / 2) h.1)) c.then-lengths-ne0.either

pub returns : goal.returns
unfolding unfit
returns c =
    let n = length c.args.lengths.now in
    rw (eq-eqb (n % 2) 0 c.if-lengths-ne0.false, le-ltb 65 (n / 2) c.if-n-gt65.false, c.bytes_listed.ensures)
