-- `rules::replies_from_the_lent` states the two replies from what was lent, which proofs/Replies.antt proves.
-- Assumes nothing.
use Rattle.rules.proofs.Replies.{replies_from_lent}
use Rattle.rules.proofs.replies_from_the_lent.Goals as goal

pub returns : goal.returns
returns c = replies_from_lent
