-- The packet count of APID 786.
-- Assumes nothing.
use Rattle.state.proofs.Block.{values_fit}
use Rattle.state.proofs.words.ArrayU3280Store.values.Goals as goal

pub returns : goal.returns
returns c = λ good. values_fit c.args.self.now good
