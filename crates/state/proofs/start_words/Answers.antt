-- `state::start_words` meets its contract.
-- Assumes nothing.
use mathlib.Core.Path.{sym, ◌∙◌}
use Rattle.regions.proofs.Answers.{table_words_none, table_words_some}
use Rattle.state.proofs.Steps.{start_no_table, start_broken, start_kept}
use Rattle.state.proofs.start_words.Goals as goal

pub returns-then-words-eq0 : goal.returns-then-words-eq0
returns-then-words-eq0 g c =
    let a = c.args in
    let rs = g.T.Table.entries a.rs.now in
    start_no_table rs a.n a.ps a.unit (table_words_none rs a.n (sym c.table_words-words.ensures ∙ c.if-words-eq0.true))

pub returns-then-not-pool_rules-unit : goal.returns-then-not-pool_rules-unit
returns-then-not-pool_rules-unit g c =
    let a = c.args in
    let rs = g.T.Table.entries a.rs.now in
    let table = table_words_some rs a.n (λ z. c.if-words-eq0.false (c.table_words-words.ensures ∙ z)) in
    start_broken rs a.n a.ps a.unit table.0 _ _ c.pool_rules.ensures c.pool_rules-2.ensures c.if-not-pool_rules-unit.true-raw

pub returns : goal.returns
returns g c =
    let a = c.args in
    let rs = g.T.Table.entries a.rs.now in
    let table = table_words_some rs a.n (λ z. c.if-words-eq0.false (c.table_words-words.ensures ∙ z)) in
    c.table_words-words.ensures ∙ table.1
    ∙ start_kept rs a.n a.ps a.unit table.0 _ _ c.pool_rules.ensures c.pool_rules-2.ensures c.if-not-pool_rules-unit.false-raw
