-- `block::copy_run` meets its contract.
-- Assumes nothing.
use mathlib.Core.Path.{◌≡◌}
use lib.ListN.{length, take}
use Rattle.lists.specs.Splice.{splice}
use Rattle.block.proofs.copy_run.Given as goal

abbrev pub invariant-loop-i : goal.invariant-loop-i
invariant-loop-i l = (l.b ≡ splice l.initial.b l.at (take l.i l.v)) × (length l.b ≡ length l.initial.b)
