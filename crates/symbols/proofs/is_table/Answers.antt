-- `symbols::is_table` meets its contract.
-- Assumes nothing.
use mathlib.Core.Path.{◌≡◌, refl, sym, ◌∙◌}
use mathlib.Core.List.{[]}
use native.Mathlib.Omega.{arith}
use lib.ListN.{get_or}
use borrow.Author.Tests.{eqb-true, eqb-false}
use Rattle.lists.proofs.Below.{all_more}
use Rattle.symbols.specs.Table.{symbols_in, symbol_rules}
use Rattle.symbols.proofs.Listed.{rules_same, name_held, chunked}
use Rattle.symbols.proofs.Steps.{counted, inside_table, own_out, held_before, bytes_before, new_same, table_not, table_broken, table_kept}
use Rattle.symbols.proofs.is_table.Goals as goal

pub returns-then-not-is_empty : goal.returns-then-not-is_empty
returns-then-not-is_empty c =
    let rest = eqb-false _ _ (sym c.is_empty.ensures ∙ c.if-not-is_empty.true) in
    table_not c.args.t.now (λ s. rest (let b = s.bytes in let n = c.as_chunks.ensures.back_len in omega arith))

pub returns-then-symbols-gt256 : goal.returns-then-symbols-gt256
returns-then-symbols-gt256 c =
    table_not c.args.t.now
    (λ s. let b = s.bytes in let m = s.most in let n = c.as_chunks.ensures.front_len in omega (arith, c.if-symbols-gt256.true))

pub loop-i-init : goal.loop-i-init
loop-i-init c =
    let rest = eqb-true _ _ (sym c.is_empty.ensures ∙ c.if-not-is_empty.false) in
    let front = c.as_chunks.ensures.front in
    record { listed = chunked c.args.t.now _ front c.as_chunks.ensures.front_len (sym c.as_chunks.ensures.back_len ∙ rest); rules = refl }

pub returns-then-not-is_symbol : goal.returns-then-not-is_symbol
returns-then-not-is_symbol c =
    let t = c.args.t.now in
    let rs = c.as_chunks.result.0.now in
    let i = c.loop-i.i in
    let l = c.loop-i-test.true in
    let s = c.loop-i.invariant.listed in
    let no = sym (rules_same t i (get_or rs i []) (s.each i l)) ∙ sym c.is_symbol.ensures ∙ c.if-not-is_symbol.true in
    table_broken t (inside_table t rs s i l) (rw no)

pub is_new-requires : goal.is_new-requires
is_new-requires c =
    let t = c.args.t.now in
    let rs = c.as_chunks.result.0.now in
    let i = c.loop-i.i in
    let l = c.loop-i-test.true in
    let s = c.loop-i.invariant.listed in
    let before = c.loop-i.invariant.rules in
    let own = own_out t rs s i l (sym c.is_symbol.ensures ∙ c.if-not-is_symbol.false) in
    (name_held t i (get_or rs i []) (s.each i l) own, held_before t rs s i l before, bytes_before t rs s i l before (λ x. omega (arith, c.type_inv.t x)))

pub returns-then-not-is_new : goal.returns-then-not-is_new
returns-then-not-is_new c =
    let t = c.args.t.now in
    let rs = c.as_chunks.result.0.now in
    let i = c.loop-i.i in
    let l = c.loop-i-test.true in
    let s = c.loop-i.invariant.listed in
    let own = sym c.is_symbol.ensures ∙ c.if-not-is_symbol.false in
    let yes = sym (rules_same t i (get_or rs i []) (s.each i l)) ∙ own in
    let no = sym (new_same t rs s i l c.loop-i.invariant.rules own) ∙ sym c.is_new.ensures ∙ c.if-not-is_new.true in
    table_broken t (inside_table t rs s i l) (rw (yes, no))

pub loop-i-preserved : goal.loop-i-preserved
loop-i-preserved c =
    let t = c.args.t.now in
    let rs = c.as_chunks.result.0.now in
    let i = c.loop-i.i in
    let l = c.loop-i-test.true in
    let s = c.loop-i.invariant.listed in
    let before = c.loop-i.invariant.rules in
    let own = sym c.is_symbol.ensures ∙ c.if-not-is_symbol.false in
    let yes = sym (rules_same t i (get_or rs i []) (s.each i l)) ∙ own in
    let new = sym (new_same t rs s i l before own) ∙ sym c.is_new.ensures ∙ c.if-not-is_new.false in
    record { listed = s; rules = rw (all_more (symbol_rules t) i, before, yes, new) }

pub returns : goal.returns
returns c =
    let t = c.args.t.now in
    let rest = eqb-true _ _ (sym c.is_empty.ensures ∙ c.if-not-is_empty.false) in
    let n = counted t _ c.loop-i.invariant.listed in
    let e : c.loop-i.i ≡ symbols_in t = omega arith in
    table_kept t (sym c.as_chunks.ensures.back_len ∙ rest) (omega arith) (rw e at c.loop-i.invariant.rules)
