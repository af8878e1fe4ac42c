-- `packet_reader::packet_data` meets its contract.
-- Assumes nothing.
use native.Mathlib.Omega.{arith}
use mathlib.Core.Path.{sym, ◌∙◌}
use Rattle.packet_reader.proofs.Steps.{refused_part, accepted_part, data_part}
use Rattle.packet_reader.proofs.packet_data.Goals as goal

pub slice_bounds-result-count-in-Ok : goal.slice_bounds-result-count-in-Ok
slice_bounds-result-count-in-Ok c = let h = (accepted_part _ _ (sym c.read_packet-reading.ensures ∙ c.in-Ok.is)).0 in omega arith

pub slice_bounds-result-start-in-Ok : goal.slice_bounds-result-start-in-Ok
slice_bounds-result-start-in-Ok c = let h = (accepted_part _ _ (sym c.read_packet-reading.ensures ∙ c.in-Ok.is)).0 in omega arith

pub returns-in-Err : goal.returns-in-Err
returns-in-Err c = sym (refused_part _ _ (sym c.read_packet-reading.ensures ∙ c.in-Err.is))

pub returns-in-Ok : goal.returns-in-Ok
returns-in-Ok c = data_part _ _ (sym c.read_packet-reading.ensures ∙ c.in-Ok.is)
