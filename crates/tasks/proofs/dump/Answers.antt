-- `tasks::dump` meets its contract.
-- Assumes nothing.
use Rattle.tasks.specs.Asked.{asked_of}
use Rattle.rules.specs.Packets.{field_rules}
use Rattle.tasks.proofs.dump.Goals as goal

pub returns : goal.returns
unfolding asked_of field_rules
returns c symbols = rw (c.if_right.ensures, c.range_of.ensures, c.dump_rules.ensures, c.request_in-q.ensures)
