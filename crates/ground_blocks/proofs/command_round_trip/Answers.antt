-- `ground_blocks::command_round_trip` meets its contract.
-- Assumes nothing.
use Rattle.ground_blocks.proofs.RoundTrip.{command_round_trip}
use Rattle.ground_blocks.proofs.command_round_trip.Goals as goal

pub returns : goal.returns
returns c = command_round_trip
