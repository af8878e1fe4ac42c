-- `symbols::is_table` meets its contract.
-- Assumes nothing.
use mathlib.Core.Path.{◌≡◌}
use mathlib.Core.Bool.{true}
use Rattle.lists.specs.Below.{all_below}
use Rattle.symbols.specs.Table.{symbol_rules}
use Rattle.symbols.proofs.Listed.{SymbolsOf}
use Rattle.symbols.proofs.is_table.Given as goal

abbrev pub invariant-loop-i : goal.invariant-loop-i
invariant-loop-i l = record { listed : SymbolsOf l.fn.t l.symbols; rules : all_below (symbol_rules l.fn.t) l.i ≡ true }
