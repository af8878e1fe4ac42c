-- The packet count of APID 785.
-- Assumes nothing.
use Rattle.state.proofs.Block.{replies_fit}
use Rattle.state.proofs.words.ArrayU3280Store.replies.Goals as goal

pub returns : goal.returns
returns c = λ good. replies_fit c.args.self.now good
