-- `dump_check::sound_packets` meets its contract. The loop's invariant: packets 0 to i - 1 are not bad, they end at `at`, and their pieces are marked.
-- Assumes nothing.
use mathlib.Core.Path.{◌≡◌}
use mathlib.Core.Bool.{false}
use Prim.Native.Nat.{◌≤◌}
use lib.ListN.{length}
use Rattle.lists.specs.Below.{any_below}
use Rattle.whole_dump.specs.Check.{bytes_before, is_bad}
use Rattle.dump_check.specs.Marks.{Marked}
use Rattle.dump_check.proofs.sound_packets.Given as goal

abbrev pub invariant-loop-i : goal.invariant-loop-i
invariant-loop-i l = (l.at ≡ bytes_before l.lengths l.i) × (l.at ≤ length l.bytes) × (any_below (is_bad l.bytes l.lengths) l.i ≡ false) × Marked l.bytes l.lengths l.i l.seen
