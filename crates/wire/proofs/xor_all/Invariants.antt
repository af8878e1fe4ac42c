-- `wire::xor_all` meets its contract. Both loops' invariant: what has been put together, with the bytes that are left, is the whole.
-- Assumes nothing.
use mathlib.Core.Path.{◌≡◌}
use Prim.Native.Nat.{◌*◌}
use lib.Bits.{bit_xor}
use lib.ListN.{drop}
use Rattle.wire.specs.Bytes.{be}
use Rattle.wire.specs.Xor.{xor_all}
use Rattle.wire.proofs.xor_all.Given as goal

abbrev pub invariant-loop-i : goal.invariant-loop-i
invariant-loop-i l = bit_xor (xor_all (be 8 l.all)) (xor_all (drop (8 * l.i) l.s)) ≡ xor_all l.s

abbrev pub invariant-loop-b : goal.invariant-loop-b
invariant-loop-b l = bit_xor l.x (xor_all (drop l.b-index l.b-items)) ≡ xor_all l.s
