-- `command::decide` meets its contract.
-- Assumes nothing.
use Rattle.std.proofs.Common.{◌≡◌, true, rules}
use Rattle.std.proofs.lemmas.Result.{err_from_is_err_and}
use Rattle.command.specs.OnStore.{decision_in}
use Rattle.command.proofs.decide.Goals as goal

pub returns-in_err-lent_verdict : goal.returns-in_err-lent_verdict
unfolding decision_in
returns-in_err-lent_verdict g c =
    λ bytes w e.
    let p = err_from_is_err_and c.from_residual.result c.from_residual.ensures.1 in
    rw (p.1, p.2, e, ← w, ← c.lent_verdict.ensures, c.in_err-lent_verdict.was)

pub returns-in_err-task : goal.returns-in_err-task
unfolding decision_in
returns-in_err-task g c =
    λ bytes w e.
    let good : g.S.Store.is_good c.args.s.now ≡ true = search (rules, w) in
    let p = err_from_is_err_and c.from_residual-in_err-task.result c.from_residual-in_err-task.ensures.1 in
    rw (p.1, p.2, e, ← w, ← c.lent_verdict.ensures, c.in_ok-lent_verdict.was, ← c.unit.ensures good, ← c.asked.ensures, c.in_err-task.was)

pub returns : goal.returns
unfolding decision_in
returns g c =
    λ bytes w e.
    let good : g.S.Store.is_good c.args.s.now ≡ true = search (rules, w) in
    rw (e, ← w, ← c.lent_verdict.ensures, c.in_ok-lent_verdict.was, ← c.unit.ensures good, ← c.asked.ensures, c.in_ok-task.was, ← c.transaction_of.ensures)
    (c.by_task.ensures good)
