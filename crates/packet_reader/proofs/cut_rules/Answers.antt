-- `packet_reader::cut_rules` meets its contract.
-- Assumes nothing.
use Rattle.packet_reader.proofs.Steps.{before_start, from_start}
use Rattle.packet_reader.proofs.cut_rules.Goals as goal

pub returns-then-here-start : goal.returns-then-here-start
returns-then-here-start c = before_start _ c.if-here-start.true

pub returns : goal.returns
returns c = rw (c.could_be_dumped.ensures, c.is_cut.ensures) (from_start _ c.if-here-start.false)
