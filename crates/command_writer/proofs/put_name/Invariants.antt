-- `command_writer::put_name` meets its contract. The loop's invariant: the first `i` words of the name stand, and `all` has the exclusive or of what is written.
-- Assumes nothing.
use mathlib.Core.Path.{◌≡◌}
use mathlib.Core.List.{◌++◌}
use Prim.Native.Nat.{◌*◌, ◌-◌, ◌≤◌}
use lib.ListN.{length, take}
use Rattle.lists.specs.Splice.{splice}
use Rattle.wire.specs.Bytes.{be}
use Rattle.wire.specs.Xor.{xor_all}
use Rattle.rules.specs.Packets.{name_bytes}
use Rattle.command_writer.proofs.put_name.Given as goal

abbrev pub invariant-loop-i : goal.invariant-loop-i
invariant-loop-i l = (l.i ≤ 12) × (l.b ≡ splice l.initial.b 12 (take (4 * l.i) (name_bytes l.n l.words))) × (length l.b ≡ length l.initial.b)
    × (xor_all (be 4 l.all) ≡ xor_all (be 4 l.third ++ take (4 * l.i) (name_bytes l.n l.words)))
