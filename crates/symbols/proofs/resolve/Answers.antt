-- `symbols::resolve` meets its contract.
-- Assumes nothing.
use mathlib.Core.Path.{◌≡◌, sym, ◌∙◌}
use mathlib.Core.List.{[]}
use native.Mathlib.Omega.{arith}
use lib.ListN.{get_or}
use Rattle.std.specs.List.{concat}
use Rattle.lists.proofs.Below.{none_more}
use Rattle.symbols.specs.Table.{symbols_in}
use Rattle.symbols.proofs.Listed.{name_same, name_held, listed}
use Rattle.symbols.proofs.Steps.{counted, inside_table, table_symbol, found_at, found_none}
use Rattle.symbols.proofs.resolve.Goals as goal

pub is_named-requires : goal.is_named-requires
is_named-requires c =
    let rs = c.args.symbols.now in
    let i = c.loop-i.i in
    let s = listed rs c.told-symbols in
    name_held (concat rs) i (get_or rs i []) (s.each i c.loop-i-test.true) (table_symbol (concat rs) c.requires i (inside_table _ rs s i c.loop-i-test.true))

pub returns-then-is_named : goal.returns-then-is_named
returns-then-is_named c =
    let rs = c.args.symbols.now in
    let i = c.loop-i.i in
    let s = listed rs c.told-symbols in
    let l = inside_table _ rs s i c.loop-i-test.true in
    let name = name_same (concat rs) i (get_or rs i []) (s.each i c.loop-i-test.true) (table_symbol (concat rs) c.requires i l) in
    found_at (concat rs) c.requires i l c.args.name.now c.loop-i.invariant (rw name at (sym c.is_named.ensures ∙ c.if-is_named.true)) _ c.value_at.ensures

pub loop-i-preserved : goal.loop-i-preserved
loop-i-preserved c =
    let rs = c.args.symbols.now in
    let i = c.loop-i.i in
    let s = listed rs c.told-symbols in
    let l = inside_table _ rs s i c.loop-i-test.true in
    let name = name_same (concat rs) i (get_or rs i []) (s.each i c.loop-i-test.true) (table_symbol (concat rs) c.requires i l) in
    none_more _ i c.loop-i.invariant (rw name at (sym c.is_named.ensures ∙ c.if-is_named.false))

pub returns : goal.returns
returns c =
    let rs = c.args.symbols.now in
    let k = counted (concat rs) rs (listed rs c.told-symbols) in
    let e : c.loop-i.i ≡ symbols_in (concat rs) = omega arith in
    found_none (concat rs) c.args.name.now (rw e at c.loop-i.invariant)
