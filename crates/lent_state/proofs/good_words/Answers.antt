-- `lent_state::good_words` meets its contract.
-- Assumes nothing.
use Rattle.block.specs.Calls.{good_words}
use Rattle.block.proofs.Bounds.{not_block}
use Rattle.lent_state.proofs.good_words.Goals as goal

pub returns-in-Some : goal.returns-in-Some
unfolding good_words
returns-in-Some c = rw c.in-Some.ensures.cases.same at c.good_words.ensures

pub returns-in-None : goal.returns-in-None
unfolding good_words
returns-in-None c = rw (not_block c.args.b.now c.in-None.ensures.cases)
