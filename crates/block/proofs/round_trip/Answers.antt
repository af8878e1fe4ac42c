-- `block::round_trip` meets its contract.
-- Assumes nothing.
use Rattle.block.proofs.Back.{state_back, block_good}
use Rattle.block.proofs.Forth.{block_forth}
use Rattle.block.proofs.Over.{over_back, over_block}
use Rattle.block.proofs.round_trip.Goals as goal

pub returns : goal.returns
returns c = record { block = block_good; back = state_back; forth = block_forth; over = λ b w e s r n f. (over_block b (w 0) e s r n f, over_back b (w 0) e s r n f) }
