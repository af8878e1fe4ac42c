-- `rules::load_comes_back` states that a load comes back, which proofs/LoadBack.antt proves.
-- Assumes nothing.
use Rattle.rules.proofs.LoadBack.{load_back}
use Rattle.rules.proofs.load_comes_back.Goals as goal

pub returns : goal.returns
returns c = load_back
