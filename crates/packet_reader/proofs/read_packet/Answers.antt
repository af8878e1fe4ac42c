-- `packet_reader::read_packet` meets its contract.
-- Assumes nothing.
use Rattle.std.proofs.lemmas.Result.{err_from_is_err_and}
use Rattle.packet_reader.proofs.Steps.{refused_reading, accepted_reading, accepted_long}
use Rattle.packet_reader.proofs.read_packet.Goals as goal

pub returns-in_err-packet_verdict : goal.returns-in_err-packet_verdict
returns-in_err-packet_verdict c =
    let p = err_from_is_err_and c.from_residual.result c.from_residual.ensures.1 in
    rw (p.1, p.2) (refused_reading _ _ c.packet_verdict.ensures _ c.in_err-packet_verdict.was)

pub packet_fields-requires : goal.packet_fields-requires
packet_fields-requires c = accepted_long _ _ c.packet_verdict.ensures c.in_ok-packet_verdict.was

pub returns : goal.returns
returns c = accepted_reading _ _ c.packet_verdict.ensures c.in_ok-packet_verdict.was _ c.packet_fields.ensures
