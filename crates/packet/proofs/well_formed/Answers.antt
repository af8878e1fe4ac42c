-- `packet::well_formed` meets its contract.
-- Assumes nothing.
use Rattle.packet.proofs.Formed.{too_short, header_wrong, header_right}
use Rattle.packet.proofs.well_formed.Goals as goal

pub returns-then-p-lt8 : goal.returns-then-p-lt8
returns-then-p-lt8 c = too_short _ c.if-p-lt8.true

pub returns-then-not-header : goal.returns-then-not-header
returns-then-not-header c = header_wrong _ c.if-p-lt8.false _ _ c.primary_rules.ensures c.byte_at.ensures c.if-not-header.true-raw

pub returns : goal.returns
returns c = header_right _ c.if-p-lt8.false _ _ c.primary_rules.ensures c.byte_at.ensures c.if-not-header.false-raw _ c.xor_all.ensures
