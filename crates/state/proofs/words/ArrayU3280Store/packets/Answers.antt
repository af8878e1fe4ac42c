-- The packet count of APID 788.
-- Assumes nothing.
use Rattle.state.proofs.Block.{packets_fit}
use Rattle.state.proofs.words.ArrayU3280Store.packets.Goals as goal

pub returns : goal.returns
returns c = λ good. packets_fit c.args.self.now good
