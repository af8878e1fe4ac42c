-- `packet_reader::packet_verdict` meets its contract.
-- Assumes nothing.
use Rattle.packet_reader.proofs.Steps.{short, malformed, other_apid, wrong_length, no_cut, accepted}
use Rattle.packet_reader.proofs.packet_verdict.Goals as goal

pub returns-then-p-lt28 : goal.returns-then-p-lt28
returns-then-p-lt28 c = short _ c.if-p-lt28.true

pub returns-then-not-primary_rules : goal.returns-then-not-primary_rules
returns-then-not-primary_rules c = malformed _ c.if-p-lt28.false _ c.primary_rules.ensures c.if-not-primary_rules.true-raw

pub returns-then-read16-ne788 : goal.returns-then-read16-ne788
returns-then-read16-ne788 c = other_apid _ c.if-p-lt28.false _ c.primary_rules.ensures c.if-not-primary_rules.false-raw _ c.read16.ensures c.if-read16-ne788.true

pub returns-then-not-sized : goal.returns-then-not-sized
returns-then-not-sized c = wrong_length _ c.if-p-lt28.false _ c.primary_rules.ensures c.if-not-primary_rules.false-raw _ c.read16.ensures c.if-read16-ne788.false _ c.packet_fields-f.ensures c.if-not-sized.true-raw

pub returns-then-not-cut_rules : goal.returns-then-not-cut_rules
returns-then-not-cut_rules c = no_cut _ c.if-p-lt28.false _ c.primary_rules.ensures c.if-not-primary_rules.false-raw _ c.read16.ensures c.if-read16-ne788.false _ c.packet_fields-f.ensures c.if-not-sized.false-raw _ c.cut_rules.ensures c.if-not-cut_rules.true-raw

pub returns : goal.returns
returns c = accepted _ c.if-p-lt28.false _ c.primary_rules.ensures c.if-not-primary_rules.false-raw _ c.read16.ensures c.if-read16-ne788.false _ c.packet_fields-f.ensures c.if-not-sized.false-raw _ c.cut_rules.ensures c.if-not-cut_rules.false-raw
