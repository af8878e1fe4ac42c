-- `wire::put_run` meets its contract.
-- Assumes nothing.
use mathlib.Core.Path.{◌≡◌}
use lib.ListN.{length, take}
use Rattle.lists.specs.Splice.{splice}
use Rattle.wire.specs.Bytes.{word_bytes}
use Rattle.wire.proofs.put_run.Given as goal

abbrev pub invariant-loop-i : goal.invariant-loop-i
invariant-loop-i l = (l.b ≡ splice l.initial.b l.at (word_bytes (take l.i l.words))) × (length l.b ≡ length l.initial.b)
