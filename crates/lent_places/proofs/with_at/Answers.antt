-- `lent_places::with_at` meets its contract.
-- Assumes nothing.
use Rattle.lent_places.proofs.Steps.{number_word}
use Rattle.lent_places.proofs.with_at.Goals as goal

pub returns : goal.returns
returns c = rw c.from.ensures (number_word c.args.ps.now _ c.args.t _ _ c.requires c.word_at.ensures c.word_at-2.ensures)
