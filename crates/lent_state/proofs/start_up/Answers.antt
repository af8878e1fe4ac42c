-- `lent_state::start_up` meets its contract.
-- Assumes nothing.
use mathlib.Core.Path.{sym, ◌∙◌}
use Rattle.lent_state.proofs.Started.{count_low, other_state, other_table, not_taken, taken}
use borrow.Author.Rules.{rules}
use Rattle.lent_state.proofs.start_up.Goals as goal

pub returns-then-b-ne80 : goal.returns-then-b-ne80
returns-then-b-ne80 c = other_state _ _ c.if-b-ne80.true

pub returns-then-t-ne54 : goal.returns-then-t-ne54
returns-then-t-ne54 c =
    let a = c.args in
    other_table a.t.now a.b.now c.if-b-ne80.false _ c.put_none.ensures c.if-t-ne54.true

pub returns-then-not-table_good : goal.returns-then-not-table_good
returns-then-not-table_good c =
    let a = c.args in
    not_taken a.t.now a.b.now c.if-t-ne54.false c.if-b-ne80.false _ c.table_good.ensures _ c.put_none.ensures c.if-not-table_good.true-raw

pub put_table-requires : goal.put_table-requires
put_table-requires c =
    let t = c.args.t.now in
    (search rules, search rules, count_low t (sym c.table_good.ensures ∙ c.if-not-table_good.false))

pub returns : goal.returns
returns c =
    let a = c.args in
    taken a.t.now a.b.now c.if-t-ne54.false c.if-b-ne80.false _ c.table_good.ensures _ c.put_none.ensures c.if-not-table_good.false-raw _
    c.put_table.ensures
