-- `tasks::asked` meets its contract.
-- Assumes nothing.
use Rattle.std.proofs.lemmas.Result.{err_from_is_err_and}
use Rattle.tasks.specs.Asked.{sought_in}
use Rattle.tasks.proofs.asked.Goals as goal

pub returns-in_err-headed : goal.returns-in_err-headed
unfolding sought_in
returns-in_err-headed c =
    let p = err_from_is_err_and c.from_residual.result c.from_residual.ensures.1 in
    rw (p.1, p.2, ← c.headed.ensures, c.in_err-headed.was)

pub returns : goal.returns
unfolding sought_in
returns c = rw (← c.headed.ensures, c.in_ok-headed.was) c.by_code.ensures
