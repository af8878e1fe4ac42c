-- What start-up writes of a table.
use Rattle.std.specs.Prelude.{List, ℕ, ◌*◌, set, take, drop}
use Rattle.lists.specs.Splice.{splice}
use Rattle.block.specs.Blocks.{word}

-- the number of regions, the words of those in use, the pools and the unit
unfoldable pub table_written : List ℕ → List ℕ → List ℕ
table_written t b =
    set (splice (splice (set b 0 (word t 1)) 1 (take (3 * word t 1) (drop 6 t))) 49 (take 4 (drop 2 t))) 53 (word t 0)
