-- `symbols::value_at` meets its contract.
-- Assumes nothing.
use mathlib.Core.List.{[]}
use native.Mathlib.Omega.{arith}
use lib.ListN.{get_or}
use Rattle.std.specs.List.{concat}
use Rattle.symbols.proofs.Listed.{listed}
use Rattle.symbols.proofs.Steps.{inside_table, number_own, number_lower, number_alias}
use Rattle.symbols.proofs.+value_at.Goals as goal

pub returns-then-symbol-eq0 : goal.returns-then-symbol-eq0
returns-then-symbol-eq0 t c =
    let rs = c.args.symbols.now in
    let i = c.args.i in
    let s = listed rs c.told-symbols in
    number_own (concat rs) c.requires.0 i (inside_table _ rs s i c.requires.1) (get_or rs i []) (s.each i c.requires.1) _ c.number_of-number.ensures
    (omega (arith, c.if-symbol-eq0.true))

pub value_at-requires : goal.value_at-requires
value_at-requires t c =
    let rs = c.args.symbols.now in
    let i = c.args.i in
    let s = listed rs c.told-symbols in
    let low = number_lower (concat rs) c.requires.0 i (inside_table _ rs s i c.requires.1) (get_or rs i []) (s.each i c.requires.1) _ c.number_of-number.ensures
    c.if-symbol-eq0.false
    in
    let inside = c.requires.1 in
    (omega arith, (c.requires.0, omega arith))

pub returns : goal.returns
returns t c =
    let rs = c.args.symbols.now in
    let i = c.args.i in
    let s = listed rs c.told-symbols in
    number_alias (concat rs) c.requires.0 i (inside_table _ rs s i c.requires.1) (get_or rs i []) (s.each i c.requires.1) _ c.number_of-number.ensures
    c.if-symbol-eq0.false _ c.value_at.ensures
