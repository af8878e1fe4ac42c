-- `symbols::Symbols::resolve` meets its contract.
-- Assumes nothing.
use mathlib.Core.Path.{sym, ◌∙◌}
use Rattle.symbols.specs.Answers.{symbol_of}
use Rattle.symbols.proofs.Steps.{table_bytes}
use Rattle.symbols.proofs.Symbols.resolve.Goals as goal

pub returns-then-not-is_table : goal.returns-then-not-is_table
unfolding symbol_of
returns-then-not-is_table c = rw (sym c.is_table.ensures ∙ c.if-not-is_table.true)

pub resolve-requires : goal.resolve-requires
resolve-requires c =
    let ok = sym c.is_table.ensures ∙ c.if-not-is_table.false in
    rw (table_bytes _ ok _ c.as_chunks.ensures.front) ok

pub returns : goal.returns
unfolding symbol_of
returns c =
    let ok = sym c.is_table.ensures ∙ c.if-not-is_table.false in
    rw ok (rw (table_bytes _ ok _ c.as_chunks.ensures.front) at c.resolve.ensures)
