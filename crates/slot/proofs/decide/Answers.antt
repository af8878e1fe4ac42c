-- `slot::decide` meets its contract.
-- Assumes nothing.
use Rattle.std.proofs.Common.{rules}
use Rattle.std.proofs.lemmas.Result.{err_from_is_err_and}
use Rattle.slot.specs.OnStore.{sending_in}
use Rattle.slot.proofs.decide.Goals as goal

pub returns-in_err-lent_verdict : goal.returns-in_err-lent_verdict
unfolding sending_in
returns-in_err-lent_verdict g c =
    λ lent bytes w ei eb.
    let p = err_from_is_err_and c.from_residual.result c.from_residual.ensures.1 in
    rw (p.1, p.2, ei, eb, ← w, ← c.lent_verdict.ensures, c.in_err-lent_verdict.was)

pub returns : goal.returns
unfolding sending_in
returns g c = λ lent bytes w ei eb. rw (ei, eb, ← w, ← c.lent_verdict.ensures, c.in_ok-lent_verdict.was) (c.by_turn.ensures (search (rules, w)))
