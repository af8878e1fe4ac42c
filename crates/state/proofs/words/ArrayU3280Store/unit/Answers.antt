-- The unit of a block.
-- Assumes nothing.
use Rattle.state.proofs.Block.{unit_fits}
use Rattle.state.proofs.words.ArrayU3280Store.unit.Goals as goal

pub returns : goal.returns
returns c = λ good. unit_fits c.args.self.now good
