-- `ground_blocks::request_in` meets its contract.
-- Assumes nothing.
use Rattle.ground_blocks.proofs.request_in.Goals as goal

pub returns : goal.returns
returns c = rw (c.size_in-size.ensures, c.word_at.ensures, c.word_at-2.ensures)
