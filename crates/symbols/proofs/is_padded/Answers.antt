-- `symbols::is_padded` meets its contract.
-- Assumes nothing.
use mathlib.Core.Path.{◌≡◌}
use native.Mathlib.Omega.{arith}
use Rattle.lists.proofs.Below.{all_more}
use Rattle.symbols.proofs.Numbers.{part_byte}
use Rattle.symbols.proofs.Records.{is_pad}
use Rattle.symbols.proofs.is_padded.Goals as goal

pub loop-j-preserved : goal.loop-j-preserved
loop-j-preserved c =
    let r = c.args.symbol.now in
    rw (all_more (is_pad r 0) c.loop-j.j, ← c.loop-j.invariant, c.from-n.ensures, part_byte r 4 48 c.loop-j.j (omega arith))

pub returns : goal.returns
returns c =
    let e : c.loop-j.j ≡ 48 = omega arith in
    rw e at c.loop-j.invariant
