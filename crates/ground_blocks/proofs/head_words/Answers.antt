-- `ground_blocks::head_words` meets its contract.
-- Assumes nothing.
use mathlib.Core.Path.{◌∙◌}
use Rattle.ground_blocks.proofs.Head.{head_is}
use Rattle.ground_blocks.proofs.head_words.Goals as goal

pub returns : goal.returns
returns c =
    rw (c.from.ensures, c.from-2.ensures, c.from-3.ensures) (head_is c.args.f _ (c.from-code.ensures ∙ c.code_of.ensures) _ c.body_words-body.ensures)
