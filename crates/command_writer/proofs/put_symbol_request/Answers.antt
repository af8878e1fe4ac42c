-- `command_writer::put_symbol_request` meets its contract.
-- Assumes nothing.
use native.Mathlib.Omega.{arith}
use mathlib.Core.Path.{ap, ◌∙◌}
use Prim.Native.Nat.{ℕ, ◌*◌}
use lib.Bits.{bit_xor}
use Rattle.wire.specs.Bytes.{be}
use Rattle.wire.specs.Xor.{xor_all}
use Rattle.command_writer.proofs.Names.{symbol_written}
use Rattle.command_writer.proofs.put_symbol_request.Goals as goal

pub returns : goal.returns
returns c =
    let a = c.args in
    let s =
    symbol_written a.b.now c.put_name-name.new.b c.put_words.new.b a.id a.q a.words.now c.put_name-name.result c.requires.1 c.put_name-name.ensures.0
    (rw (← c.from-last.ensures) (c.put_words.ensures.0 (omega arith)))
    c.put_name-name.ensures.1
    in (s.0, ap (λ (y : ℕ). xor_all (be 4 (bit_xor (bit_xor c.put_name-name.result a.q.offset) (y * 65536)))) c.from-last.ensures ∙ s.1)
