-- The good test of a block.
-- Assumes nothing.
use borrow.Author.Tests.{not-true, not-false}
use Rattle.state.proofs.Block.{words_refused, start_refused, places_refused, all_passed, bounds_refused}
use Rattle.state.proofs.words.ArrayU3280Store.good_words.Goals as goal

pub returns-then-not-rights_bounds-self : goal.returns-then-not-rights_bounds-self
returns-then-not-rights_bounds-self c =
    words_refused c.args.self.now c.eighty_words.ensures _ c.new-table.ensures _ _ c.rights_bounds.ensures c.count_rules.ensures c.if-not-rights_bounds-self.true-raw

pub returns-then-words-eq0 : goal.returns-then-words-eq0
returns-then-words-eq0 c =
    start_refused c.args.self.now c.eighty_words.ensures _ c.new-table.ensures _ _ c.range_in.ensures c.range_in-2.ensures _ c.start_words-words.ensures c.if-words-eq0.true

pub returns-then-not-places_bounds : goal.returns-then-not-places_bounds
returns-then-not-places_bounds c =
    bounds_refused c.args.self.now c.eighty_words.ensures _ c.new-table.ensures _ _ c.rights_bounds.ensures c.count_rules.ensures c.if-not-rights_bounds-self.false-raw
    _ _ c.range_in.ensures c.range_in-2.ensures _ c.start_words-words.ensures c.if-words-eq0.false
    _ c.places_bounds.ensures c.if-not-places_bounds.true-raw

pub returns-then-not-places_rules : goal.returns-then-not-places_rules
returns-then-not-places_rules c =
    places_refused c.args.self.now c.eighty_words.ensures _ c.new-table.ensures _ _ c.rights_bounds.ensures c.count_rules.ensures c.if-not-rights_bounds-self.false-raw
    _ _ c.range_in.ensures c.range_in-2.ensures _ c.start_words-words.ensures c.if-words-eq0.false
    _ _ c.places_bounds.ensures c.places_rules.ensures (rw (not-false _ c.if-not-places_bounds.false-raw, not-true _ c.if-not-places_rules.true-raw))

pub returns : goal.returns
returns c =
    all_passed c.args.self.now c.eighty_words.ensures _ c.new-table.ensures _ _ c.rights_bounds.ensures c.count_rules.ensures c.if-not-rights_bounds-self.false-raw
    _ _ c.range_in.ensures c.range_in-2.ensures _ c.start_words-words.ensures c.if-words-eq0.false
    _ _ c.places_bounds.ensures c.places_rules.ensures (rw (not-false _ c.if-not-places_bounds.false-raw, not-false _ c.if-not-places_rules.false-raw))
