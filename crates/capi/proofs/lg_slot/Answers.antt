-- `capi::lg_slot` meets its contract: the length of a packet fits in a word.
-- Assumes nothing.
use mathlib.Core.Path.{◌≡◌, ◌∙◌}
use Prim.Native.Nat.{◌%◌}
use native.Mathlib.Omega.{arith}
use Rattle.rules.specs.Results.{answer_length}
use Rattle.lent_slot.proofs.Steps.{packet_short}
use Rattle.capi.proofs.lg_slot.Goals as goal

pub returns : goal.returns
returns c =
    let a = c.args in
    let e = c.slot.ensures in
    let s = packet_short a.state.now a.tick a.image.now a.buffer.now in
    let n : answer_length c.slot.result % 4294967296 ≡ answer_length c.slot.result = omega (arith, e.3, s) in
    (c.hand_over.ensures.0 ∙ e.0, e.1, e.2, c.hand_over.ensures.1 ∙ n ∙ e.3)
