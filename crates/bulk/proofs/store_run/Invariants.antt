-- `bulk::store_run` meets its contract.
-- Assumes nothing.
use mathlib.Core.Path.{◌≡◌}
use lib.ListN.{length, take}
use Rattle.lists.specs.Splice.{splice}
use Rattle.wire.specs.Bytes.{words_at}
use Rattle.bulk.proofs.store_run.Given as goal

abbrev pub invariant-loop-i : goal.invariant-loop-i
invariant-loop-i l = (l.words ≡ splice l.initial.words l.from (take l.i (words_at l.n l.packet l.at))) × (length l.words ≡ length l.initial.words)
