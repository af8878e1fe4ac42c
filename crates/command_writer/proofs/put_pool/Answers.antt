-- `command_writer::put_pool` meets its contract.
-- Assumes nothing.
use mathlib.Core.List.{[]}
use native.Mathlib.Omega.{arith}
use mathlib.Core.Path.{ap, ◌∙◌}
use Rattle.lists.specs.Splice.{splice}
use Rattle.wire.specs.Bytes.{word_bytes}
use Rattle.wire.specs.Xor.{xor_all}
use Rattle.wire.proofs.Numbers.{two_halves}
use Rattle.command_writer.proofs.put_pool.Goals as goal

pub returns : goal.returns
unfolding word_bytes
returns c =
    let a = c.args in
    let e = two_halves a.id c.from.result (omega arith) [] in
    rw (← c.from.ensures) (c.put_words.ensures.0 (omega arith) ∙ ap (splice a.b.now 8) e, ap xor_all e)
