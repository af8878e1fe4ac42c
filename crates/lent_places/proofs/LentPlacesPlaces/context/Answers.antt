-- `context` of `LentPlaces` meets its contract.
-- Assumes nothing.
use Rattle.lent_places.proofs.Steps.{past_read, idle_read, busy_read}
use Rattle.lent_places.proofs.LentPlacesPlaces.context.Goals as goal
use Rattle.lent_places.proofs.LentPlacesPlaces.context.Goals.{then-i-ge4-via-then-i-ge4, then-i-ge4-via-else-i-ge4+then-word_at-ne1}

pub returns-then-i-ge4 : goal.returns-then-i-ge4
returns-then-i-ge4 c =
    let ps = c.args.self.now.0.now in
    elim c.then-i-ge4.branch [
      | then-i-ge4-via-then-i-ge4 w ↦ past_read ps _ w.if-i-ge4.true
      | then-i-ge4-via-else-i-ge4+then-word_at-ne1 w ↦ idle_read ps _ w.if-i-ge4.false _ w.word_at.ensures w.if-word_at-ne1.true
    ]

pub returns : goal.returns
returns c =
    busy_read c.args.self.now.0.now _ c.if-i-ge4.false _ c.word_at.ensures c.if-word_at-ne1.false
    _ c.word_at-2.ensures _ c.range_in.ensures _ c.word_at-3.ensures
