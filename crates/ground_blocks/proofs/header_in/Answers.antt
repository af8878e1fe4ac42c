-- `ground_blocks::header_in` meets its contract.
-- Assumes nothing.
use Rattle.ground_blocks.proofs.header_in.Goals as goal

pub returns : goal.returns
returns c = rw (c.at_most_16-count.ensures, c.word_at.ensures, c.at_most_8-unit.ensures, c.word_at-2.ensures, c.at_most_16-transaction.ensures, c.word_at-3.ensures)
