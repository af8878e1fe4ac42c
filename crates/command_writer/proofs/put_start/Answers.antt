-- `command_writer::put_start` meets its contract.
-- Assumes nothing.
use native.Mathlib.Omega.{arith}
use lib.Bits.{xor_lt}
use Rattle.command_writer.proofs.Steps.{start_written}
use Rattle.command_writer.proofs.put_start.Goals as goal

pub returns : goal.returns
returns c =
    let a = c.args in
    let low = xor_lt 8 c.xor_word.result 255 (omega arith) (omega arith) in
    rw (← c.from.ensures) (start_written c.from.result a.code a.n (omega arith) (omega (arith, c.from.ensures, c.requires.0)) c.from-2.result c.xor_word.result c.from-check.result a.rest
    c.from-2.ensures c.xor_word.ensures c.from-check.ensures (omega (arith, low)) a.b.now c.put_words.new.b
    (c.put_words.ensures.0 (omega arith)))
