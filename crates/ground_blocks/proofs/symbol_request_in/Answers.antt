-- `ground_blocks::symbol_request_in` meets its contract.
-- Assumes nothing.
use Rattle.ground_blocks.proofs.symbol_request_in.Goals as goal

pub returns : goal.returns
returns c = rw (c.at_most_8-name.ensures, c.word_at.ensures, c.word_at-offset.ensures, c.size_in-size.ensures, c.word_at-2.ensures)
