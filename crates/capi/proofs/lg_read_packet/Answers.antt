-- `capi::lg_read_packet` meets its contract.
-- Assumes nothing.
use native.Mathlib.Omega.{arith}
use Rattle.capi.proofs.Reading.{packet_other, packet_unread, packet_done, packet_low}
use Rattle.capi.proofs.lg_read_packet.Goals as goal

pub returns-then-fields-ne8 : goal.returns-then-fields-ne8
returns-then-fields-ne8 c = packet_other _ _ c.if-fields-ne8.true

pub returns-in-Err : goal.returns-in-Err
returns-in-Err c = packet_unread _ _ c.if-fields-ne8.false _ c.read_packet.ensures _ c.in-Err.is _ c.from.ensures

pub overflow_mul-bytes : goal.overflow_mul-bytes
overflow_mul-bytes c =
    let low = packet_low _ _ c.read_packet.ensures _ c.in-Ok.is in
    omega arith

pub returns-in-Ok : goal.returns-in-Ok
returns-in-Ok c = packet_done _ _ c.if-fields-ne8.false _ c.read_packet.ensures _ c.in-Ok.is _ c.field_words.ensures _ c.put_run.ensures.0
