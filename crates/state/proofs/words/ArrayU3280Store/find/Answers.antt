-- The lookup in a block.
-- Assumes nothing.
use Rattle.state.proofs.Block.{found_in}
use Rattle.state.proofs.words.ArrayU3280Store.find.Goals as goal

pub returns : goal.returns
returns c = λ good. found_in _ good _ c.new.ensures _ c.find_region.ensures.0
