-- The test on a table's block. A word's bounds are left to a rule of the state where that is narrower.
use Rattle.std.specs.Prelude.{Bool, ◌&&◌, List, ℕ}
use Rattle.rules.specs.States.{start_rules}
use Rattle.block.specs.Blocks.{word, regions_in, pools_in, is_table}

-- a block that is a table by the rules of start-up
unfoldable pub good_table : List ℕ → Bool
good_table t = is_table t && start_rules (regions_in t 6) (word t 1) (pools_in t 2) (word t 0)
