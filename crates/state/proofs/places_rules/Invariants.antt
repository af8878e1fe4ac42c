-- `state::places_rules` meets its contract.
-- Assumes nothing.
use mathlib.Core.Path.{◌≡◌}
use mathlib.Core.Bool.{true}
use Prim.Native.Nat.{◌≤◌}
use Rattle.lists.specs.Below.{all_below}
use Rattle.rules.specs.Regions.{table_rules}
use Rattle.rules.specs.States.{place_rules}
use Rattle.state.proofs.places_rules.Given as goal

abbrev pub invariant-loop-i : goal.invariant-loop-i
invariant-loop-i g l =
    let rs = g.T.Table.entries l.rs in
    (l.i ≤ 4) × (table_rules rs l.n ≡ true → all_below (place_rules rs l.n (g.P.Places.places l.ps)) l.i ≡ true)
