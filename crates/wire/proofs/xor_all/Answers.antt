-- `wire::xor_all` meets its contract.
-- Assumes nothing.
use mathlib.Core.Path.{◌≡◌, sym, ap, ◌∙◌}
use Prim.Native.Nat.{◌*◌, ◌/◌, ◌-◌}
use native.Mathlib.Omega.{arith}
use lib.Bits.{bit_xor, xor_zero_l}
use lib.ListN.{length, drop, length-drop}
use lib.Seq.{take_all}
use Rattle.wire.specs.Xor.{xor_all}
use Rattle.wire.proofs.Xor.{eight_turn, xor_halves, xor_turn, xor_end}
use Rattle.wire.proofs.xor_all.Goals as goal

pub loop-i-init : goal.loop-i-init
unfolding xor_all
loop-i-init c = xor_zero_l (xor_all c.args.s.now)

pub loop-i-preserved : goal.loop-i-preserved
loop-i-preserved c =
    rw c.read64-all.ensures
    (eight_turn c.args.s.now (λ k. omega (arith, c.type_inv.s k)) c.loop-i.i c.loop-i.all (omega arith) ∙ c.loop-i.invariant)

pub loop-b-init : goal.loop-b-init
loop-b-init c =
    let s = c.args.s.now in
    let n : c.loop-i.i ≡ length s / 8 = omega arith in
    let rest = take_all (length s - 8 * (length s / 8)) (drop (8 * (length s / 8)) s) (simp length-drop (omega arith)) in
    rw (rest, c.xor_word-x.ensures) (ap (λ y. bit_xor y (xor_all (drop (8 * (length s / 8)) s))) (xor_halves c.loop-i.all) ∙ rw n at c.loop-i.invariant)

pub loop-b-preserved : goal.loop-b-preserved
loop-b-preserved c = xor_turn _ c.loop-b.b-index c.loop-b.x c.loop-b-test.true ∙ c.loop-b.invariant

pub returns : goal.returns
returns c = sym (xor_end _ c.loop-b.b-index c.loop-b.x c.loop-b-test.false) ∙ c.loop-b.invariant
