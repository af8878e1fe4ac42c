-- What the lookup in a table of words answers.
use Rattle.std.specs.Prelude.{cond, List, ℕ, min, leb, length, Result, Err}
use Rattle.rules.specs.declared.Range.{Range}
use Rattle.rules.specs.declared.WordIndex.{WordIndex}
use Rattle.regions.specs.Halving.{find_by_halving}
use Rattle.regions.specs.Lookup.{word_index}
use Rattle.regions.specs.declared.Miss.{Miss}
use Rattle.regions.specs.declared.Miss.TheVariants.{StartsOutside}
use Rattle.regions.specs.declared.Spot.{Spot}
use Rattle.block.specs.Blocks.{regions_in}

-- among the first n regions of the 48 words of a table; fewer words are no table, and hold nothing
unfoldable pub find_in : List ℕ → ℕ → Range → Result Spot Miss
find_in w n a = cond (leb 48 (length w)) (find_by_halving (regions_in w 0) (min n 16) a) (Err StartsOutside)

-- where a range that region k of such a table holds begins in the image; 0 where there is no table
unfoldable pub word_index_in : List ℕ → ℕ → Range → WordIndex
word_index_in w k a = cond (leb 48 (length w)) (word_index (regions_in w 0) k a) (record { 0 = 0 })
