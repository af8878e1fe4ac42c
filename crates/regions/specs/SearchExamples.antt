-- The search by halving computed on tables: what it finds, and what it compares on the way.
use Rattle.std.specs.Prelude.{◌≡◌, true, false, List, [], ◌∷◌, map, ℕ, ◌+◌, ◌*◌, ◌/◌, Ok}
use Rattle.rules.specs.Examples.{range, both}
use Rattle.rules.specs.Regions.{table_rules, region_of}
use Rattle.rules.specs.declared.Region.{Region}
use Rattle.regions.specs.Halving.{region_by_halving, compared, find_by_halving}
use Rattle.regions.specs.Lookup.{found_number, found_index}

abbrev pub numbers : List ℕ
numbers = 0 ∷ 1 ∷ 2 ∷ 3 ∷ 4 ∷ 5 ∷ 6 ∷ 7 ∷ 8 ∷ 9 ∷ 10 ∷ 11 ∷ 12 ∷ 13 ∷ 14 ∷ 15 ∷ []

-- sixteen regions of four words from 1000 hex on: each touches the next, but for a gap of four words after region 7
abbrev pub start_at : ℕ → ℕ
start_at i = 0x1000 + 16 * (i + i / 8)

abbrev pub sixteen : List Region
sixteen = map (λ i. both (start_at i) 4) numbers

-- two regions, the higher one first
abbrev pub out_of_order : List Region
out_of_order = both 0x2000 4 ∷ both 0x1000 4 ∷ []

pub record SearchExamples : Type 0 where
  -- each region whole, the last word of each, and the last region of tables of one to sixteen
  pub whole : map (λ i. region_by_halving sixteen 16 (range (start_at i) 4)) numbers ≡ numbers
  pub last_word : map (λ i. region_by_halving sixteen 16 (range (start_at i + 12) 1)) numbers ≡ numbers
  pub fewer : map (λ n. region_by_halving sixteen (n + 1) (range (start_at n) 4)) numbers ≡ numbers
  -- one word past each region's end: over an edge, in the gap, past the table
  pub past : map (λ i. region_by_halving sixteen 16 (range (start_at i) 5)) numbers ≡ map (λ i. 16) numbers
  pub outside : map (λ (a : ℕ). region_by_halving sixteen 16 (range a 1)) (0x0FFC ∷ 0x1080 ∷ 0x108C ∷ 0x1110 ∷ []) ≡ 16 ∷ 16 ∷ 16 ∷ 16 ∷ []
  -- the lookup: two words inside each region, with its number, and the index of the first; one word past each region's end; in the gap
  pub found : map (λ i. find_by_halving sixteen 16 (range (start_at i + 4) 2)) numbers
      ≡ map (λ i. Ok (record { region = i; load = true; dump = true })) numbers
  pub index : map (λ i. (found_index sixteen (range (start_at i + 4) 2) (find_by_halving sixteen 16 (range (start_at i + 4) 2))).0) numbers ≡ map (λ i. 4 * i + 1) numbers
  pub runs_out_lem : map (λ i. found_number (find_by_halving sixteen 16 (range (start_at i + 12) 2))) numbers ≡ map (λ i. 19) numbers
  pub starts_outside : map (λ (a : ℕ). found_number (find_by_halving sixteen 16 (range a 2))) (0x0FFC ∷ 0x1080 ∷ 0x108C ∷ 0x1110 ∷ []) ≡ 10 ∷ 10 ∷ 10 ∷ 10 ∷ []
  -- the regions that are compared, in order
  pub with_region_0 : compared sixteen 16 (range 0x1000 4) ≡ 7 ∷ 3 ∷ 1 ∷ 0 ∷ 0 ∷ []
  pub with_region_10 : compared sixteen 16 (range 0x10B0 4) ≡ 7 ∷ 11 ∷ 9 ∷ 10 ∷ 10 ∷ []
  pub with_region_15 : compared sixteen 16 (range 0x1100 4) ≡ 7 ∷ 11 ∷ 13 ∷ 14 ∷ 15 ∷ []
  pub of_one : compared sixteen 1 (range 0x1000 4) ≡ 0 ∷ []
  pub of_three : compared sixteen 3 (range 0x1020 4) ≡ 0 ∷ 1 ∷ 2 ∷ []
  -- a table that is not in order breaks a rule, and there the search misses what paper 01 would find
  pub not_in_order : (table_rules out_of_order 2 ≡ false) × (region_of out_of_order 2 (range 0x1000 1) ≡ 1) × (region_by_halving out_of_order 2 (range 0x1000 1) ≡ 2)
