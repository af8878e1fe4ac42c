-- `command_writer::put_request` meets its contract.
-- Assumes nothing.
use native.Mathlib.Omega.{arith}
use mathlib.Core.Path.{ap, refl, ◌∙◌}
use Prim.Native.Nat.{◌+◌, ◌*◌}
use Rattle.lists.specs.Splice.{splice}
use Rattle.wire.specs.Bytes.{be, word_bytes}
use Rattle.wire.specs.Xor.{xor_all}
use Rattle.wire.proofs.Numbers.{two_halves}
use Rattle.command_writer.proofs.Steps.{both_words}
use Rattle.command_writer.proofs.put_request.Goals as goal

pub returns : goal.returns
unfolding word_bytes
returns c =
    let a = c.args in
    let third = a.id * 65536 + c.from.result in
    let address = a.q.address.0 in
    let e = two_halves a.id c.from.result (omega arith) (be 4 address) in rw (← c.from.ensures) (
      c.put_words.ensures.0 (omega arith) ∙ ap (splice a.b.now 8) e,
      both_words third address (be 4 third) (be 4 address) refl refl ∙ ap xor_all e,
    )
