-- `wire::put_word` meets its contract.
-- Assumes nothing.
use mathlib.Core.Path.{◌∙◌}
use Rattle.wire.proofs.WordRuns.{four_bytes, word_put}
use Rattle.wire.proofs.put_word.Goals as goal

pub returns : goal.returns
returns c = word_put _ _ _ _ (c.copy_from_slice.ensures.after ∙ c.to_be_bytes.ensures ∙ four_bytes c.args.word)
