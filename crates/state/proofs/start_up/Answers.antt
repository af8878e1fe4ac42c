-- `state::start_up` meets its contract.
-- Assumes nothing.
use Rattle.state.proofs.Steps.{start_refused, start_accepted}
use Rattle.state.proofs.Answers.{start_words_none, start_words_some, start_words_count}
use Rattle.state.proofs.start_up.Goals as goal

pub returns-then-start_words-eq0 : goal.returns-then-start_words-eq0
returns-then-start_words-eq0 c =
    let a = c.args in
    start_refused a.rs a.n a.ps a.unit
    (start_words_none a.rs a.n a.ps a.unit _ c.start_words.ensures c.if-start_words-eq0.true) _ c.no_state-state.ensures

pub entries_used-used-requires : goal.entries_used-used-requires
entries_used-used-requires c =
    let a = c.args in
    start_words_count a.rs a.n a.ps a.unit _ c.start_words.ensures c.if-start_words-eq0.false

pub returns : goal.returns
returns c =
    let a = c.args in
    start_accepted a.rs a.n a.ps a.unit
    (start_words_some a.rs a.n a.ps a.unit _ c.start_words.ensures c.if-start_words-eq0.false).0 _ c.entries_used-used.ensures _ c.fresh_state-state.ensures
