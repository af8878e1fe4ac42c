-- `block::block_changes` meets its contract.
-- Assumes nothing.
use Rattle.block.proofs.Changes.{laws}
use Rattle.block.proofs.block_changes.Goals as goal

pub returns : goal.returns
returns c = laws
