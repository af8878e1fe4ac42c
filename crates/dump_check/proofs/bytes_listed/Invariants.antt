-- `dump_check::bytes_listed` meets its contract.
-- Assumes nothing.
use mathlib.Core.Path.{◌≡◌}
use Prim.Native.Nat.{◌*◌, ◌≤◌}
use Rattle.whole_dump.specs.Check.{bytes_before}
use Rattle.dump_check.proofs.bytes_listed.Given as goal

abbrev pub invariant-loop-i : goal.invariant-loop-i
invariant-loop-i l = (l.total ≡ bytes_before l.lengths l.i) × (l.total ≤ 65535 * l.i)
