-- `bulk::head_words` meets its contract.
-- Assumes nothing.
use Prim.Native.Nat.{◌+◌, ◌*◌, ◌-◌}
use native.Mathlib.Omega.{arith}
use Rattle.wire.specs.Bytes.{word_bytes}
use Rattle.wire.proofs.Numbers.{two_halves}
use Rattle.bulk.proofs.head_words.Goals as goal

pub returns : goal.returns
unfolding word_bytes
returns c =
    let f = c.args.f in
    rw (
      c.from-count.ensures,
      c.from.ensures,
      c.from-2.ensures,
      two_halves 788 (49152 + f.header.count) (omega arith),
      two_halves (28 + 4 * f.words - 7) (4096 * f.header.unit + f.header.transaction) (omega arith),
    )
