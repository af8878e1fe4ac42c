-- `regions::words_below` meets its contract.
-- Assumes nothing.
use mathlib.Core.Path.{◌≡◌}
use Prim.Native.Nat.{◌*◌, ◌≤◌}
use Rattle.rules.specs.Regions.{words_below}
use Rattle.regions.proofs.words_below.Given as goal

abbrev pub invariant-loop-i : goal.invariant-loop-i
invariant-loop-i g l = (l.i ≤ l.k) × (l.total ≡ words_below (g.T.Table.entries l.rs) l.i) × (l.total ≤ 4294967296 * l.i)
