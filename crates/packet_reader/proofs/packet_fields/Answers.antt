-- `packet_reader::packet_fields` meets its contract.
-- Assumes nothing.
use Rattle.packet_reader.proofs.packet_fields.Goals as goal

pub returns : goal.returns
returns c = cc
