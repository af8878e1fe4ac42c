-- `symbols::resolve` meets its contract.
-- Assumes nothing.
use mathlib.Core.Path.{◌≡◌}
use mathlib.Core.Bool.{false}
use Rattle.std.specs.List.{concat}
use Rattle.lists.specs.Below.{any_below}
use Rattle.symbols.proofs.Logic.{is_named}
use Rattle.symbols.proofs.resolve.Given as goal

abbrev pub invariant-loop-i : goal.invariant-loop-i
invariant-loop-i l = any_below (is_named (concat l.symbols) l.name) l.i ≡ false
