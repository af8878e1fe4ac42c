-- `tasks::load` meets its contract.
-- Assumes nothing.
use Rattle.tasks.specs.Asked.{asked_of}
use Rattle.rules.specs.Packets.{field_rules}
use Rattle.tasks.proofs.load.Goals as goal

pub returns : goal.returns
unfolding asked_of field_rules
returns c symbols = rw (c.if_right.ensures, c.range_of.ensures, c.load_rules.ensures, c.request_in-q.ensures)
