-- `command_reader::by_code` meets its contract.
-- Assumes nothing.
use mathlib.Core.Path.{sym, ◌∙◌}
use Rattle.rules.specs.Packets.{zero_rules, symbol_request_of}
use Rattle.command_reader.proofs.Steps.{zeros_by_name}
use Rattle.rules.proofs.Allowed.{decode_dump, decode_cancel, decode_load, decode_pool, decode_value, decode_by_name, decode_other}
use native.Mathlib.Omega.{arith}
use Rattle.command_reader.proofs.by_code.Goals as goal

pub returns-in-0 : goal.returns-in-0
unfolding zero_rules
returns-in-0 c = rw (decode_dump _ (sym c.function_code.ensures ∙ c.in-0.is), ← c.request_in.ensures) c.given.ensures

pub returns-in-1 : goal.returns-in-1
unfolding zero_rules
returns-in-1 c = rw (decode_cancel _ (sym c.function_code.ensures ∙ c.in-1.is)) c.given-in-1.ensures

pub returns-in-4 : goal.returns-in-4
unfolding zero_rules
returns-in-4 c = rw (decode_load _ (sym c.function_code.ensures ∙ c.in-4.is), ← c.request_in-in-4.ensures) c.given-in-4.ensures

pub returns-in-7 : goal.returns-in-7
unfolding zero_rules
returns-in-7 c = rw (decode_pool _ (sym c.function_code.ensures ∙ c.in-7.is), ← c.get16.ensures) c.given-in-7.ensures

pub returns-in-8 : goal.returns-in-8
unfolding zero_rules
returns-in-8 c = rw (decode_value _ (sym c.function_code.ensures ∙ c.in-8.is), ← c.byte_at.ensures, ← c.pad_is_zero.ensures) c.given-in-8.ensures

pub returns-in-9 : goal.returns-in-9
returns-in-9 c = rw (decode_by_name _ (sym c.function_code.ensures ∙ c.in-9.is), ← zeros_by_name _ (symbol_request_of _) c.pad_is_zero-in-9.ensures c.end_is_zero.ensures, ← c.symbol_request_in.ensures) c.given-in-9.ensures

pub returns-in_default : goal.returns-in_default
returns-in_default c =
    rw (decode_other c.args.p.now (λ e. omega arith) (λ e. omega arith) (λ e. omega arith) (λ e. omega arith) (λ e. omega arith) (λ e. omega arith))
