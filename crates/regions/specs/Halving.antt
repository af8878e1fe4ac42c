-- Paper 02, A3: the region that holds a range, searched by halving. What the search answers for every table, in order or not, and what it compares.
-- The lookup searches for the first word of its range (A5).
-- A table by the rules is in order, and there it finds paper 01's region: `RightInOrder`.
use Rattle.std.specs.Prelude.{◌≡◌, Bool, true, cond, List, [], ◌∷◌, ℕ, zero, suc, ◌+◌, ◌-◌, ◌/◌, ◌≤◌, ◌<◌, leb, ltb, length, get_or, Result, Err}
use Rattle.rules.specs.Regions.{end_of, region_at, range_at, table_rules, any_right, holds, first_of, region_of}
use Rattle.rules.specs.declared.Range.{Range}
use Rattle.rules.specs.declared.Region.{Region}
use Rattle.regions.specs.Lookup.{found_number, found_in, find_region}
use Rattle.regions.specs.declared.Miss.{Miss}
use Rattle.regions.specs.declared.Miss.TheVariants.{StartsOutside}
use Rattle.regions.specs.declared.Spot.{Spot}

-- HALVING. The `left` regions from `first` on are those that may still hold the range; `short i` says that region i ends before the range does.

-- the last region of the lower half
abbrev pub middle : ℕ → ℕ → ℕ
middle first left = first + left / 2 - 1

-- if that one is short, the lower half goes
abbrev pub next_first : (ℕ → Bool) → ℕ → ℕ → ℕ
next_first short first left = cond (short (middle first left)) (first + left / 2) first

-- the region that is left after so many rounds
unfoldable pub one_left : (ℕ → Bool) → ℕ → ℕ → ℕ → ℕ
one_left short zero first left = first
one_left short (suc rounds) first left = cond (leb left 1) first (one_left short rounds (next_first short first left) (left - left / 2))

-- the regions that are compared: one in each round, and the one that is left
unfoldable pub comparisons : (ℕ → Bool) → ℕ → ℕ → ℕ → List ℕ
comparisons short zero first left = first ∷ []
comparisons short (suc rounds) first left =
    cond (leb left 1) (first ∷ []) (middle first left ∷ comparisons short rounds (next_first short first left) (left - left / 2))

-- THE SEARCH among the first n regions. Four rounds leave one of up to sixteen.

abbrev pub is_short : List Region → Range → ℕ → Bool
is_short rs a i = ltb (end_of (range_at rs i)) (end_of a)

-- the one region that may hold the range
unfoldable pub candidate : List Region → ℕ → Range → ℕ
candidate rs n a = one_left (is_short rs a) 4 0 n

-- that one, if it holds the range whole; else n
unfoldable pub region_by_halving : List Region → ℕ → Range → ℕ
region_by_halving rs n a = cond (holds any_right rs a (candidate rs n a)) (candidate rs n a) n

unfoldable pub compared : List Region → ℕ → Range → List ℕ
compared rs n a = comparisons (is_short rs a) 4 0 n

-- AT MOST FIVE comparisons, and they settle the answer: a table that has the regions compared where this one has them is answered alike
pub record AtMostFive (rs : List Region) (n : ℕ) (a : Range) : Type 0 where
  pub five : length (compared rs n a) ≤ 5
  pub settle : (other : List Region)
      → ((j : ℕ) → j < length (compared rs n a) → region_at other (get_or (compared rs n a) j 0) ≡ region_at rs (get_or (compared rs n a) j 0))
      → region_by_halving other n a ≡ region_by_halving rs n a

-- THE LOOKUP: this search for the range's first word, and whether the region that holds it holds the range whole
unfoldable pub find_by_halving : List Region → ℕ → Range → Result Spot Miss
find_by_halving rs n a =
    cond (ltb (region_by_halving rs n (first_of a)) n) (found_in rs a (region_by_halving rs n (first_of a))) (Err StartsOutside)

-- THE LAWS. The regions that the search for the first word compares, at most five, settle the number of the lookup's answer: no sixth decides whether the
-- range runs out.
pub record NumberSettled (rs : List Region) (n : ℕ) (a : Range) : Type 0 where
  pub five : length (compared rs n (first_of a)) ≤ 5
  pub settle : (other : List Region)
      → ((j : ℕ) → j < length (compared rs n (first_of a))
      → region_at other (get_or (compared rs n (first_of a)) j 0) ≡ region_at rs (get_or (compared rs n (first_of a)) j 0))
      → found_number (find_by_halving other n a) ≡ found_number (find_by_halving rs n a)

-- In a table by the rules the search finds the region that holds a range whole, or n where none does, and so the lookup is that of the table.
abbrev pub RightInOrder : Type 0
RightInOrder =
    (rs : List Region) (n : ℕ) (a : Range) → table_rules rs n ≡ true
    → (region_by_halving rs n a ≡ region_of rs n a) × (find_by_halving rs n a ≡ find_region rs n a)
