-- `lent_state::table_good` meets its contract.
-- Assumes nothing.
use mathlib.Core.Path.{refl}
use Rattle.lent_state.proofs.Answers.{no_start, tested}
use Rattle.lent_state.proofs.table_good.Goals as goal

pub returns-then-start_words-eq0 : goal.returns-then-start_words-eq0
returns-then-start_words-eq0 c =
    no_start c.args.t.now c.requires _ c.new-table.ensures _ refl _ _ c.range_in.ensures c.range_in-2.ensures _ c.start_words.ensures c.if-start_words-eq0.true

pub returns : goal.returns
returns c =
    tested c.args.t.now c.requires _ c.new-table.ensures _ c.rights_bounds.ensures _ _ c.range_in.ensures c.range_in-2.ensures _ c.start_words.ensures c.if-start_words-eq0.false
