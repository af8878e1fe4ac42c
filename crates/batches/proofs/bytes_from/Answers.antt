-- `batches::bytes_from` meets its contract.
-- Assumes nothing.
use mathlib.Core.Path.{◌≡◌, sym}
use Prim.Native.Nat.{◌+◌, ◌-◌}
use native.Mathlib.Omega.{arith}
use Rattle.batches.proofs.InPlain.{packet_inside, packet_outside}
use Rattle.batches.proofs.bytes_from.Goals as goal

pub returns-then-bytes-end : goal.returns-then-bytes-end
returns-then-bytes-end c = let a = c.args in sym (packet_outside a.bytes.now a.start a.n c.if-bytes-end.true)

pub returns : goal.returns
returns c =
    let a = c.args in
    let n : a.start + a.n - a.start ≡ a.n = omega arith in
    rw (n, packet_inside a.bytes.now a.start a.n c.if-bytes-end.false)
