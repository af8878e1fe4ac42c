-- `wire::xor_word` meets its contract.
-- Assumes nothing.
use mathlib.Core.Path.{◌∙◌}
use Rattle.wire.proofs.WordRuns.{four_bytes}
use Rattle.wire.proofs.Xor.{four_joined}
use Rattle.wire.proofs.xor_word.Goals as goal

pub returns : goal.returns
returns c = rw (c.to_be_bytes.ensures ∙ four_bytes c.args.x) (four_joined _ _ _ _)
