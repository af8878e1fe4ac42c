-- The counts of a block.
-- Assumes nothing.
use mathlib.Core.Path.{refl}
use Rattle.block.specs.Blocks.{state_of}
use Rattle.rules.specs.States.{count_rules}
use Rattle.state.proofs.words.count_rules.Goals as goal

pub returns : goal.returns
unfolding state_of count_rules
returns c = refl
