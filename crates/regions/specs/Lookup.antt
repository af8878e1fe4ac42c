-- The rules of one region by its numbers, the length of a table's image, and what the region lookup answers (paper 02, A5).
use Rattle.std.specs.Prelude.{◌≡◌, ◌↔◌, Bool, true, false, ◌&&◌, cond, List, ℕ, ◌+◌, ◌*◌, ◌-◌, ◌/◌, ◌%◌, leb, ltb, eqb, get_or, Result, Ok, Err}
use Rattle.rules.specs.Regions.{end_of, region_at, range_at, table_rules, first_of, starts_inside, image_length, region_of, index_in}
use Rattle.rules.specs.GoodWhen.{LiesIn, StartsIn, first_word}
use Rattle.rules.specs.PlainWords.{empty_region}
use Rattle.rules.specs.declared.Range.{Range}
use Rattle.rules.specs.declared.Refusal.{Refusal}
use Rattle.rules.specs.declared.Refusal.TheVariants.{OutsideRegions, RunsOut}
use Rattle.rules.specs.declared.Region.{Region}
use Rattle.rules.specs.declared.WordIndex.{WordIndex}
use Rattle.regions.specs.declared.Miss.{Miss}
use Rattle.regions.specs.declared.Miss.TheVariants.{StartsOutside, EndsOutside}
use Rattle.regions.specs.declared.Spot.{Spot}

-- what `region_rules` asks of a region with this start and size, where the region before ends at `before`
abbrev pub rules_by : ℕ → ℕ → ℕ → Bool
rules_by start words before =
    eqb (start % 4) 0 && leb 1 words && leb words 1048576 && leb (start + 4 * words) 4294967296 && leb before start

-- whether a region holds whole what begins at `from` and ends at `end`
abbrev pub holds_by : ℕ → ℕ → ℕ → ℕ → Bool
holds_by start words from end = leb start from && leb end (start + 4 * words)

-- the words of the image of a table by the rules, which has at least one; else 0
unfoldable pub table_words : List Region → ℕ → ℕ
table_words rs n = cond (table_rules rs n) (image_length rs n) 0

-- FINDING A RANGE

-- the paper's number of each answer: 0 where the range was found, 10 where its first word is in no region, and 19 where it starts inside one and
-- runs out of it
abbrev pub found_number : Result Spot Miss → ℕ
found_number (Ok spot) = 0
found_number (Err StartsOutside) = 10
found_number (Err EndsOutside) = 19

-- region k and its rights
abbrev pub spot_in : List Region → ℕ → Spot
spot_in rs k = record { region = k; load = (region_at rs k).load; dump = (region_at rs k).dump }

-- what is found of a range whose first word region k holds
abbrev pub found_in : List Region → Range → ℕ → Result Spot Miss
found_in rs a k = cond (leb (end_of a) (end_of (range_at rs k))) (Ok (spot_in rs k)) (Err EndsOutside)

-- the region that holds the range's first word, and whether it holds the range whole
unfoldable pub find_region : List Region → ℕ → Range → Result Spot Miss
find_region rs n a = cond (starts_inside rs n a) (found_in rs a (region_of rs n (first_of a))) (Err StartsOutside)

-- what a call is refused for where its range misses
abbrev pub refusal_of : Miss → Refusal
refusal_of StartsOutside = OutsideRegions
refusal_of EndsOutside = RunsOut

-- what was found has the dump right
abbrev pub can_dump : Result Spot Miss → Bool
can_dump (Ok spot) = spot.dump
can_dump (Err miss) = false

-- where a range that region k holds begins in the image; 0 past the sixteen entries of a table
abbrev pub word_index : List Region → ℕ → Range → WordIndex
word_index rs k a = record { 0 = cond (ltb k 16) (index_in rs a k) 0 }

-- where a range that was found begins in the image; 0 where it was not
abbrev pub found_index : List Region → Range → Result Spot Miss → WordIndex
found_index rs a (Ok spot) = word_index rs spot.region a
found_index rs a (Err miss) = record { 0 = 0 }

-- IN LOGIC, for a table by the rules: each number exactly in its case, and the region that was found
pub record FoundWhen (rs : List Region) (n : ℕ) (a : Range) (f : Result Spot Miss) : Type 0 where
  -- 10: no region in use holds its first word
  pub outside : (found_number f ≡ 10) ↔ ((i : ℕ) → StartsIn rs n a i → ⊥)
  -- 19: one does, and it does not hold the range whole
  pub runs_out_lem : (found_number f ≡ 19) ↔ ((i : ℕ) × StartsIn rs n a i × (LiesIn (λ (g : Region). true) rs n a i → ⊥))
  -- 0: one does, and it holds the range whole
  pub found : (found_number f ≡ 0) ↔ ((i : ℕ) × StartsIn rs n a i × LiesIn (λ (g : Region). true) rs n a i)
  -- then the region's number and rights
  pub spot : (i : ℕ) → StartsIn rs n a i → LiesIn (λ (g : Region). true) rs n a i
      → f ≡ Ok (record { region = i; load = (get_or rs i empty_region).load; dump = (get_or rs i empty_region).dump })

-- the index of its first word: after the words of the regions before the one that holds the range, and those of that region before it
abbrev pub IndexWhen : List Region → ℕ → ℕ → Range → WordIndex → Type 0
IndexWhen rs n k a w =
    LiesIn (λ (g : Region). true) rs n a k → w.0 ≡ first_word rs k + (a.start.0 - (get_or rs k empty_region).range.start.0) / 4
