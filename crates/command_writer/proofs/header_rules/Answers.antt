-- `command_writer::header_rules` meets its contract: its tests are those of the definition.
-- Assumes nothing.
use mathlib.Core.Path.{refl}
use Rattle.rules.specs.Ground.{header_rules}
use Rattle.command_writer.proofs.header_rules.Goals as goal

pub returns : goal.returns
unfolding header_rules
returns c = refl
