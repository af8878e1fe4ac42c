-- The good test of a State.
-- Assumes nothing.
use mathlib.Core.Path.{◌∙◌}
use Rattle.state.proofs.Steps.{good_no_start, good_broken, good_kept}
use Rattle.state.proofs.Answers.{start_words_none, start_words_some}
use Rattle.state.proofs.StateStore.good_words.Goals as goal

pub returns-then-words-eq0 : goal.returns-then-words-eq0
returns-then-words-eq0 c =
    let s = c.args.self.now in
    good_no_start s (start_words_none s.regions s.count s.pools s.unit _ c.start_words-words.ensures c.if-words-eq0.true)

pub returns-then-not-count_rules-places_rules : goal.returns-then-not-count_rules-places_rules
returns-then-not-count_rules-places_rules c =
    let s = c.args.self.now in
    let start = start_words_some s.regions s.count s.pools s.unit _ c.start_words-words.ensures c.if-words-eq0.false in
    good_broken s start.0 _ _ c.count_rules.ensures (λ h. c.places_rules.ensures h c.four_places.ensures) c.if-not-count_rules-places_rules.true-raw

pub returns : goal.returns
returns c =
    let s = c.args.self.now in
    let start = start_words_some s.regions s.count s.pools s.unit _ c.start_words-words.ensures c.if-words-eq0.false in
    start.1 ∙ good_kept s start.0 _ _ c.count_rules.ensures (λ h. c.places_rules.ensures h c.four_places.ensures) c.if-not-count_rules-places_rules.false-raw
