-- Whose packet a block says is next.
-- Assumes nothing.
use Rattle.state.proofs.Block.{turn_in}
use Rattle.state.proofs.words.ArrayU3280Store.turn.Goals as goal

pub returns : goal.returns
returns c = λ good. turn_in _ good c.next_turn.ensures
