-- `tasks::symbol_value` meets its contract.
-- Assumes nothing.
use mathlib.Core.Path.{ap, ◌∙◌}
use Rattle.std.proofs.lemmas.Result.{err_from_is_err_and}
use Rattle.rules.specs.Packets.{name_fits, zero_rules}
use Rattle.tasks.proofs.Steps.{value_as}
use Rattle.tasks.proofs.symbol_value.Goals as goal

pub returns-in_err-value : goal.returns-in_err-value
unfolding zero_rules
returns-in_err-value c =
    let p = err_from_is_err_and c.from_residual.result c.from_residual.ensures.1 in
    rw (p.1, p.2)
    (value_as _ _ c.resolved.ensures c.in_err-value.was _ (c.name_fits.ensures ∙ ap name_fits c.byte_at.ensures) c.pad_is_zero.ensures)

pub returns : goal.returns
unfolding zero_rules
returns c =
    value_as _ _ c.resolved.ensures c.in_ok-value.was _ (c.name_fits.ensures ∙ ap name_fits c.byte_at.ensures) c.pad_is_zero.ensures
