-- `pool::walk_pool` meets its contract.
-- Assumes nothing.
use mathlib.Core.Path.{◌≡◌}
use Prim.Native.Nat.{◌-◌, ◌≤◌}
use lib.ListN.{length, drop}
use Rattle.rules.specs.Pools.{blocks_from, blocks_of}
use Rattle.pool.specs.Answers.{walked_of}
use Rattle.pool.proofs.Blocks.{told, joined}
use Rattle.pool.proofs.walk_pool.Given as goal

abbrev pub invariant-loop-at : goal.invariant-loop-at
invariant-loop-at l = (l.at ≤ length l.pool) × (l.t.free ≤ l.at) × (l.t.freeblocks ≤ l.t.blocks) × (l.t.blocks ≤ l.at) × (joined (told l.t l.at) (blocks_from 0 (drop l.at l.pool)) ≡ walked_of (blocks_of l.pool))

abbrev pub decreases-loop-at : goal.decreases-loop-at
decreases-loop-at l = length l.pool - l.at
