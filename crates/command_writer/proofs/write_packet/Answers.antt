-- `command_writer::write_packet` meets its contract: 3, 9 or the packet, each by its law in proofs/Steps.antt.
-- Assumes nothing.
use native.Mathlib.Omega.{arith}
use Rattle.command_writer.proofs.Steps.{rules_fail, rules_hold, rest_fits, start_fits, too_short, bad_field, packet_written}
use Rattle.command_writer.proofs.write_packet.Goals as goal

pub returns-then-buffer-n : goal.returns-then-buffer-n
returns-then-buffer-n c = too_short _ _ _ c.packet_length-n.ensures _ _ c.if-buffer-n.true

pub returns-then-not-header_rules-field_rules : goal.returns-then-not-header_rules-field_rules
returns-then-not-header_rules-field_rules c =
    bad_field _ _ _ c.packet_length-n.ensures _ _ c.if-buffer-n.false
    (rules_fail _ _ _ _ c.header_rules.ensures c.field_rules.ensures c.if-not-header_rules-field_rules.true-raw)

pub put_rest-rest-requires : goal.put_rest-rest-requires
put_rest-rest-requires c = (
  rw c.from-2.ensures (rest_fits c.args.h _ (rules_hold _ _ _ _ c.header_rules.ensures c.field_rules.ensures c.if-not-header_rules-field_rules.false-raw) _ c.from.ensures),
  omega (arith, c.packet_length-n.ensures, c.if-buffer-n.false),
)

pub put_start-requires : goal.put_start-requires
put_start-requires c =
    let fits =
    start_fits _ _ _ c.packet_length-n.ensures
    (rules_hold _ _ _ _ c.header_rules.ensures c.field_rules.ensures c.if-not-header_rules-field_rules.false-raw)
    in
    (fits.0, fits.1, fits.2, omega (arith, fits.3, c.if-buffer-n.false))

pub returns : goal.returns
returns c =
    let rules = rules_hold _ _ _ _ c.header_rules.ensures c.field_rules.ensures c.if-not-header_rules-field_rules.false-raw in
    packet_written c.args.h _ _ c.packet_length-n.ensures c.args.words.now _ c.if-buffer-n.false _ c.from.ensures _ c.put_rest-rest.result c.code_of.ensures rules
    c.put_rest-rest.new.b _
    (rw (← c.from-2.ensures) c.put_rest-rest.ensures.0)
    (rw (← c.from-2.ensures) c.put_rest-rest.ensures.1)
    c.put_start.ensures
