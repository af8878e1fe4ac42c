-- `tasks::pool_statistics` meets its contract.
-- Assumes nothing.
use Rattle.tasks.specs.Asked.{asked_of}
use Rattle.rules.specs.Packets.{field_rules}
use Rattle.tasks.proofs.pool_statistics.Goals as goal

pub returns : goal.returns
unfolding asked_of field_rules
returns c symbols = rw (c.if_right.ensures, c.pool_rules.ensures, c.get16-i.ensures)
