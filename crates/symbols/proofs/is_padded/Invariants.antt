-- `symbols::is_padded` meets its contract.
-- Assumes nothing.
use mathlib.Core.Path.{◌≡◌}
use Rattle.lists.specs.Below.{all_below}
use Rattle.symbols.proofs.Records.{is_pad}
use Rattle.symbols.proofs.is_padded.Given as goal

abbrev pub invariant-loop-j : goal.invariant-loop-j
invariant-loop-j l = l.padded ≡ all_below (is_pad l.symbol 0) l.j
