-- `regions::table_words` meets its contract.
-- Assumes nothing.
use mathlib.Core.Path.{◌≡◌}
use mathlib.Core.Bool.{true}
use Prim.Native.Nat.{◌*◌, ◌≤◌}
use Rattle.lists.specs.Below.{all_below}
use Rattle.rules.specs.Regions.{end_before, region_rules, words_below}
use Rattle.regions.proofs.table_words.Given as goal

abbrev pub invariant-loop-i : goal.invariant-loop-i
invariant-loop-i g l =
    let rs = g.T.Table.entries l.rs in
    (l.i ≤ l.n) × ((1 ≤ l.n) × (l.n ≤ 16)) × (l.total ≡ words_below rs l.i) × (l.total ≤ 4294967296 * l.i) × (l.before ≡ end_before rs l.i)
    × (all_below (region_rules rs) l.i ≡ true)
