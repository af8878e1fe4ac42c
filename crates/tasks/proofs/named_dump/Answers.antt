-- `tasks::named_dump` meets its contract.
-- Assumes nothing.
use mathlib.Core.Path.{ap, ◌∙◌}
use Rattle.std.proofs.lemmas.Result.{err_from_is_err_and}
use Rattle.rules.specs.Packets.{name_fits}
use Rattle.rules.specs.declared.SymbolRequest.{SymbolRequest}
use Rattle.tasks.proofs.Steps.{dump_as, zeros_of}
use Rattle.tasks.proofs.named_dump.Goals as goal

pub returns-in_err-value : goal.returns-in_err-value
returns-in_err-value c =
    let p = err_from_is_err_and c.from_residual.result c.from_residual.ensures.1 in
    rw (p.1, p.2)
    (dump_as _ _ c.resolved.ensures c.in_err-value.was _ (c.name_fits.ensures ∙ ap (λ (q : SymbolRequest). name_fits q.name) c.symbol_request_in-q.ensures) (zeros_of _ _ c.pad_is_zero.ensures c.end_is_zero.ensures))

pub returns : goal.returns
returns c =
    rw (c.dump_from.ensures, c.moved_up.ensures, c.symbol_request_in-q.ensures)
    (dump_as _ _ c.resolved.ensures c.in_ok-value.was _ (c.name_fits.ensures ∙ ap (λ (q : SymbolRequest). name_fits q.name) c.symbol_request_in-q.ensures) (zeros_of _ _ c.pad_is_zero.ensures c.end_is_zero.ensures))
