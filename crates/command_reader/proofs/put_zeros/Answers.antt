-- `command_reader::put_zeros` meets its contract.
-- Assumes nothing.
use Rattle.std.proofs.Common.{arith}
use Rattle.std.proofs.lemmas.Grind.{common_steps}
use Rattle.lists.specs.Splice.{splice}
use Rattle.command_reader.proofs.put_zeros.Goals as goal

pub returns : goal.returns
unfolding splice
returns c = let e = c.fill.ensures.after (λ y h. h) in grind (arith, common_steps, e)
