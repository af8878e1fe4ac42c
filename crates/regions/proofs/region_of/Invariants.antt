-- `regions::region_of` meets its contract.
-- Assumes nothing.
use Prim.Native.Nat.{◌≤◌}
use Rattle.regions.specs.Halving.{is_short}
use Rattle.regions.proofs.Steps.{Left}
use Rattle.regions.proofs.region_of.Given as goal

abbrev pub invariant-loop-left : goal.invariant-loop-left
invariant-loop-left g l = (l.used ≤ 16) × Left (is_short (g.T.Table.entries l.rs) l.a) l.used l.first l.left l.compared

abbrev pub decreases-loop-left : goal.decreases-loop-left
decreases-loop-left g l = l.left
