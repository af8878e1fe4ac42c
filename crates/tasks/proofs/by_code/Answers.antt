-- `tasks::by_code` meets its contract.
-- Assumes nothing.
use mathlib.Core.Path.{sym, ◌∙◌}
use native.Mathlib.Omega.{arith}
use Rattle.std.proofs.lemmas.Result.{err_from_is_err_and}
use Rattle.rules.proofs.Allowed.{decode_dump, decode_cancel, decode_load, decode_pool, decode_value, decode_by_name, decode_other}
use Rattle.tasks.specs.Asked.{asked_of}
use Rattle.rules.specs.Packets.{field_rules}
use Rattle.tasks.proofs.by_code.Goals as goal

pub returns-in_err-checked-in-0 : goal.returns-in_err-checked-in-0
returns-in_err-checked-in-0 c =
    let p = err_from_is_err_and c.from_residual.result c.from_residual.ensures.1 in
    rw (p.1, p.2, decode_dump _ (sym c.function_code.ensures ∙ c.in-0.is), ← c.checked.ensures, c.in_err-checked-in-0.was)

pub returns-in_ok-checked-in-0 : goal.returns-in_ok-checked-in-0
returns-in_ok-checked-in-0 c = rw (decode_dump _ (sym c.function_code.ensures ∙ c.in-0.is), ← c.checked.ensures, c.in_ok-checked-in-0.was) (c.dump.ensures _)

pub returns-in_err-checked-in-1 : goal.returns-in_err-checked-in-1
returns-in_err-checked-in-1 c =
    let p = err_from_is_err_and c.from_residual-in_err-checked-in-1.result c.from_residual-in_err-checked-in-1.ensures.1 in
    rw (p.1, p.2, decode_cancel _ (sym c.function_code.ensures ∙ c.in-1.is), ← c.checked-in-1.ensures, c.in_err-checked-in-1.was)

pub returns-in_ok-checked-in-1 : goal.returns-in_ok-checked-in-1
unfolding asked_of field_rules
returns-in_ok-checked-in-1 c = rw (decode_cancel _ (sym c.function_code.ensures ∙ c.in-1.is), ← c.checked-in-1.ensures, c.in_ok-checked-in-1.was)

pub returns-in_err-checked-in-4 : goal.returns-in_err-checked-in-4
returns-in_err-checked-in-4 c =
    let p = err_from_is_err_and c.from_residual-in_err-checked-in-4.result c.from_residual-in_err-checked-in-4.ensures.1 in
    rw (p.1, p.2, decode_load _ (sym c.function_code.ensures ∙ c.in-4.is), ← c.checked-in-4.ensures, c.in_err-checked-in-4.was)

pub returns-in_ok-checked-in-4 : goal.returns-in_ok-checked-in-4
returns-in_ok-checked-in-4 c = rw (decode_load _ (sym c.function_code.ensures ∙ c.in-4.is), ← c.checked-in-4.ensures, c.in_ok-checked-in-4.was) (c.load.ensures _)

pub returns-in_err-checked-in-7 : goal.returns-in_err-checked-in-7
returns-in_err-checked-in-7 c =
    let p = err_from_is_err_and c.from_residual-in_err-checked-in-7.result c.from_residual-in_err-checked-in-7.ensures.1 in
    rw (p.1, p.2, decode_pool _ (sym c.function_code.ensures ∙ c.in-7.is), ← c.checked-in-7.ensures, c.in_err-checked-in-7.was)

pub returns-in_ok-checked-in-7 : goal.returns-in_ok-checked-in-7
returns-in_ok-checked-in-7 c = rw (decode_pool _ (sym c.function_code.ensures ∙ c.in-7.is), ← c.checked-in-7.ensures, c.in_ok-checked-in-7.was) (c.pool_statistics.ensures _)

pub returns-in_err-checked-in-8 : goal.returns-in_err-checked-in-8
returns-in_err-checked-in-8 c =
    let p = err_from_is_err_and c.from_residual-in_err-checked-in-8.result c.from_residual-in_err-checked-in-8.ensures.1 in
    rw (p.1, p.2, decode_value _ (sym c.function_code.ensures ∙ c.in-8.is), ← c.checked-in-8.ensures, c.in_err-checked-in-8.was)

pub returns-in_ok-checked-in-8 : goal.returns-in_ok-checked-in-8
returns-in_ok-checked-in-8 c = rw (decode_value _ (sym c.function_code.ensures ∙ c.in-8.is), ← c.checked-in-8.ensures, c.in_ok-checked-in-8.was) c.symbol_value.ensures

pub returns-in_err-checked-in-9 : goal.returns-in_err-checked-in-9
returns-in_err-checked-in-9 c =
    let p = err_from_is_err_and c.from_residual-in_err-checked-in-9.result c.from_residual-in_err-checked-in-9.ensures.1 in
    rw (p.1, p.2, decode_by_name _ (sym c.function_code.ensures ∙ c.in-9.is), ← c.checked-in-9.ensures, c.in_err-checked-in-9.was)

pub returns-in_ok-checked-in-9 : goal.returns-in_ok-checked-in-9
returns-in_ok-checked-in-9 c = rw (decode_by_name _ (sym c.function_code.ensures ∙ c.in-9.is), ← c.checked-in-9.ensures, c.in_ok-checked-in-9.was) c.named_dump.ensures

pub returns-in_default : goal.returns-in_default
returns-in_default c =
    rw (decode_other c.args.p.now (λ e. omega arith) (λ e. omega arith) (λ e. omega arith) (λ e. omega arith) (λ e. omega arith) (λ e. omega arith))
