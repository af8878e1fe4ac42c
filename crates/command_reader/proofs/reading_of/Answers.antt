-- `command_reader::reading_of` meets its contract.
-- Assumes nothing.
use Rattle.std.proofs.lemmas.Result.{err_from_is_err_and}
use Rattle.command_reader.proofs.Steps.{reading_is}
use Rattle.command_reader.proofs.reading_of.Goals as goal

pub returns-in_err-headed : goal.returns-in_err-headed
returns-in_err-headed c =
    let p = err_from_is_err_and c.from_residual.result c.from_residual.ensures.1 in
    rw (p.1, p.2, ← reading_is _, ← c.headed.ensures, c.in_err-headed.was)

pub returns : goal.returns
returns c = rw (← reading_is _, ← c.headed.ensures, c.in_ok-headed.was) c.by_code.ensures
