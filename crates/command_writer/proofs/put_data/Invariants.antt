-- `command_writer::put_data` meets its contract. The loop's invariant: the first `i` words stand, and `all` has their exclusive or.
-- Assumes nothing.
use Prim.Native.Nat.{◌≤◌, ◌-◌}
use mathlib.Core.Path.{◌≡◌}
use Prim.Native.Nat.{◌≤◌, ◌-◌}
use lib.ListN.{length, take}
use Rattle.lists.specs.Splice.{splice}
use Rattle.wire.specs.Bytes.{be, word_bytes}
use Rattle.wire.specs.Xor.{xor_all}
use Rattle.rules.specs.Packets.{used_words}
use Rattle.command_writer.proofs.put_data.Given as goal

abbrev pub invariant-loop-i : goal.invariant-loop-i
invariant-loop-i l = (l.i ≤ 11) × (l.b ≡ splice l.initial.b 16 (word_bytes (take l.i (used_words l.size l.words)))) × (length l.b ≡ length l.initial.b)
    × (xor_all (be 4 l.all) ≡ xor_all (word_bytes (take l.i (used_words l.size l.words))))
