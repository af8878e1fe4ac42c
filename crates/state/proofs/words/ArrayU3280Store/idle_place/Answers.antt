-- The lowest idle place of a block.
-- Assumes nothing.
use Rattle.state.proofs.Block.{idle_in}
use Rattle.state.proofs.words.ArrayU3280Store.idle_place.Goals as goal

pub returns : goal.returns
returns c = λ good. idle_in _ good c.first_idle.ensures
