-- The lowest place of a block that is busy with a number.
-- Assumes nothing.
use Rattle.state.proofs.Block.{with_in}
use Rattle.state.proofs.words.ArrayU3280Store.busy_place.Goals as goal

pub returns : goal.returns
returns c = λ good. with_in _ good _ c.first_with.ensures
