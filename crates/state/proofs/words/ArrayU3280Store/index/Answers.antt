-- Where a range that was found begins in the image.
-- Assumes nothing.
use Rattle.state.proofs.Block.{index_in}
use Rattle.state.proofs.words.ArrayU3280Store.index.Goals as goal

pub returns-in-Ok : goal.returns-in-Ok
returns-in-Ok c = rw c.in-Ok.is (index_in _ _ c.new.ensures _ c.args.a c.word_index.ensures.0)
