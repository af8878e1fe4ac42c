-- `symbols::has_words` meets its contract.
-- Assumes nothing.
use mathlib.Core.Path.{◌≡◌}
use Rattle.lists.specs.Below.{all_below}
use Rattle.symbols.specs.Words.{has_word}
use Rattle.symbols.proofs.has_words.Given as goal

abbrev pub invariant-loop-k : goal.invariant-loop-k
invariant-loop-k l = l.same ≡ all_below (has_word l.fn.w l.symbol) l.k
