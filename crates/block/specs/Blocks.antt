-- The state block and the table block of the C interface (c/leatgarnet.h): words of 32 bits.
use Rattle.std.specs.Prelude.{Bool, ◌&&◌, ◌||◌, cond, List, [], ◌∷◌, ◌++◌, ℕ, ◌+◌, ◌*◌, ◌%◌, min, leb, eqb, length, get_or, take, drop, replicate}
use Rattle.lists.specs.Below.{all_below}
use Rattle.lists.specs.Splice.{splice}
use Rattle.rules.specs.Regions.{start_of, region_at}
use Rattle.rules.specs.States.{pool_at, idle_place}
use Rattle.rules.specs.declared.Context.{Context}
use Rattle.rules.specs.declared.Context.TheVariants.{Idle, Busy}
use Rattle.rules.specs.declared.Place.{Place}
use Rattle.rules.specs.declared.Range.{Range}
use Rattle.rules.specs.declared.Region.{Region}
use Rattle.rules.specs.declared.State.{State}
use Rattle.block.specs.Runs.{runs}

-- WRITTEN

-- start address, size in words
abbrev pub range_words : Range → List ℕ
range_words r = start_of r ∷ r.words ∷ []

-- rights: 0 none, 1 load, 2 dump, 3 both
abbrev pub rights_word : Bool → Bool → ℕ
rights_word load dump = cond load (cond dump 3 1) (cond dump 2 0)

-- start address, size in words, rights
abbrev pub region_words : Region → List ℕ
region_words r = start_of r.range ∷ r.range.words ∷ rights_word r.load r.dump ∷ []

-- 0 idle or 1 busy, transaction, start address, requested words, words sent; an idle place is five zeros
abbrev pub context_words : Context → List ℕ
context_words Idle = replicate 5 0
context_words (Busy d) = 1 ∷ d.transaction ∷ start_of d.range ∷ d.range.words ∷ d.sent ∷ []

abbrev pub regions_words : List Region → List ℕ
regions_words rs = runs (λ i. region_words (region_at rs i)) 16

abbrev pub pools_words : List Range → List ℕ
pools_words ps = start_of (pool_at ps 0) ∷ (pool_at ps 0).words ∷ start_of (pool_at ps 1) ∷ (pool_at ps 1).words ∷ []

abbrev pub places_words : List Place → List ℕ
places_words ps = runs (λ i. context_words (get_or ps i idle_place).context) 4

-- the 80 words of a state: number of regions, sixteen regions, two pools, unit, four places, last place served, and the counts.
-- A number of regions beyond 32 bits, which no block gives, stands as the greatest word: as bad a state.
unfoldable pub block_of : State → List ℕ
block_of s =
    (min 4294967295 s.count ∷ []) ++ regions_words s.regions ++ (pools_words s.pools ++ (s.unit ∷ [])) ++ places_words s.places
    ++ (s.last ∷ s.replies ∷ s.packets ∷ s.accepted ∷ s.refused ∷ s.values ∷ [])

abbrev pub state_words : ℕ
state_words = 80

-- READ

abbrev pub word : List ℕ → ℕ → ℕ
word b i = get_or b i 0

abbrev pub range_in : List ℕ → ℕ → Range
range_in b at = record { start = record { 0 = word b at }; words = word b (at + 1) }

abbrev pub region_in : List ℕ → ℕ → Region
region_in b at = record { range = range_in b at; load = eqb (word b (at + 2) % 2) 1; dump = leb 2 (word b (at + 2)) }

abbrev pub context_in : List ℕ → ℕ → Context
context_in b at =
    cond (eqb (word b at) 1)
    (Busy (record { transaction = word b (at + 1); range = range_in b (at + 2); sent = word b (at + 4) }))
    Idle

abbrev pub place_in : List ℕ → ℕ → Place
place_in b at = record { context = context_in b at }

-- sixteen regions from index `at` on
abbrev pub regions_in : List ℕ → ℕ → List Region
regions_in b at = runs (λ i. region_in b (at + 3 * i) ∷ []) 16

abbrev pub pools_in : List ℕ → ℕ → List Range
pools_in b at = range_in b at ∷ range_in b (at + 2) ∷ []

abbrev pub places_in : List ℕ → ℕ → List Place
places_in b at = runs (λ i. place_in b (at + 5 * i) ∷ []) 4

unfoldable pub state_of : List ℕ → State
state_of b =
    record {
      regions = regions_in b 1;
      count = word b 0;
      pools = pools_in b 49;
      unit = word b 53;
      places = places_in b 54;
      last = word b 74;
      replies = word b 75;
      packets = word b 76;
      accepted = word b 77;
      refused = word b 78;
      values = word b 79;
    }

-- BOUNDS

-- the rights of the n regions in use, of the sixteen from index `at` on; an entry not in use may hold anything
unfoldable pub regions_bounds : List ℕ → ℕ → ℕ → Bool
regions_bounds b at n = all_below (λ i. leb (word b (at + 3 * i + 2)) 3) (min n 16)

-- five zeros, or busy with a transaction number of 16 bits
unfoldable pub place_bounds : List ℕ → ℕ → Bool
place_bounds b at =
    eqb (word b at) 0 && eqb (word b (at + 1)) 0 && eqb (word b (at + 2)) 0 && eqb (word b (at + 3)) 0 && eqb (word b (at + 4)) 0
    || eqb (word b at) 1 && leb (word b (at + 1)) 65535

abbrev pub places_bounds : List ℕ → Bool
places_bounds b = place_bounds b 54 && place_bounds b 59 && place_bounds b 64 && place_bounds b 69

abbrev pub counts_bounds : List ℕ → Bool
counts_bounds b =
    leb (word b 74) 255 && leb (word b 75) 65535 && leb (word b 76) 65535 && leb (word b 77) 65535 && leb (word b 78) 65535 && leb (word b 79) 65535

-- a block that is a state: of 80 words, each in its bounds
unfoldable pub is_block : List ℕ → Bool
is_block b = eqb (length b) state_words && (regions_bounds b 1 (word b 0) && leb (word b 53) 255 && places_bounds b && counts_bounds b)

-- WRITTEN OVER

-- the index of the first word of an entry not in use
abbrev pub unused_from : List ℕ → ℕ
unused_from b = 1 + 3 * min (word b 0) 16

-- the block of a state, with the words of entries not in use as this block has them
unfoldable pub block_over : List ℕ → State → List ℕ
block_over b s = splice (block_of s) (unused_from b) (drop (unused_from b) (take 49 b))

-- THE TABLE BLOCK

abbrev pub table_words : ℕ
table_words = 54

-- 54 words, each in its bounds
unfoldable pub is_table : List ℕ → Bool
is_table b = eqb (length b) table_words && (leb (word b 0) 255 && regions_bounds b 6 (word b 1))
