-- The range of a pool in a block.
-- Assumes nothing.
use mathlib.Core.Path.{◌∙◌}
use Rattle.state.proofs.Block.{pool_in}
use Rattle.state.proofs.words.ArrayU3280Store.pool.Goals as goal

pub returns : goal.returns
returns c = c.range_in.ensures ∙ pool_in c.args.self.now c.args.i
