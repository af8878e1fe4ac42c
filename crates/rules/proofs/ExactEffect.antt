-- Demand 2, from its parts.
-- Assumes nothing.
use Rattle.rules.specs.Demand2.{Demand2}
use Rattle.symbols.proofs.Logic.{table_when, resolves_when}
use Rattle.rules.proofs.Pools.{blocks_are, block_bits}
use Rattle.rules.proofs.GoodWhen.{region_when, start_when, good_when}
use Rattle.rules.proofs.AcceptedWhen.{accepted_when}
use Rattle.rules.proofs.Missed.{missed_when}
use Rattle.rules.proofs.Effects.{effects}
use Rattle.rules.proofs.Slot.{slot}
use Rattle.rules.proofs.StaysGood.{command_good, slot_good, start_good}

pub demand_2 : Demand2
demand_2 =
    record {
      accepted_when = accepted_when;
      missed_when = missed_when;
      effects = effects;
      slot = slot;
      blocks_are = blocks_are;
      block_bits = block_bits;
      region_when = region_when;
      start_when = start_when;
      good_when = good_when;
      table_when = table_when;
      resolves_when = resolves_when;
      command_good = command_good;
      slot_good = slot_good;
      start_good = start_good;
    }
