-- `whole_dump::over_packets` states the numbers over packets, which proofs/OverPackets.antt proves from the cases of the numbers.
-- Assumes nothing.
use Rattle.whole_dump.proofs.Numbers.{numbers}
use Rattle.whole_dump.proofs.OverPackets.{over_packets}
use Rattle.whole_dump.proofs.over_packets.Goals as goal

pub returns : goal.returns
returns c = over_packets numbers
