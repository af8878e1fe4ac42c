-- `pool::count_block` meets its contract.
-- Assumes nothing.
use native.Mathlib.Omega.{arith}
use Rattle.pool.specs.Answers.{tallied}
use Rattle.pool.proofs.Blocks.{same_tally}
use Rattle.pool.proofs.count_block.Goals as goal

pub returns : goal.returns
unfolding tallied
returns c = same_tally (omega arith)
