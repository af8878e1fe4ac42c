-- `block::block_layout` meets its contract.
-- Assumes nothing.
use Rattle.block.proofs.WordsAt.{layout}
use Rattle.block.proofs.block_layout.Goals as goal

pub returns : goal.returns
returns c s = layout s
