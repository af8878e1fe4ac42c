-- Paper 01, "Regions and image", and paper 02, A5: ranges, the region table, how a range misses it, and where a range lies in the image.
-- A table is a list of region entries with the count n of those in use.
use Rattle.std.specs.Prelude.{Bool, true, false, ◌&&◌, not, List, ℕ, zero, suc, ◌+◌, ◌*◌, ◌-◌, ◌/◌, ◌%◌, leb, eqb, get_or, take, drop}
use Rattle.lists.specs.Below.{all_below, any_below, sum_below, first_below}
use Rattle.rules.specs.declared.Range.{Range}
use Rattle.rules.specs.declared.Region.{Region}
use Rattle.rules.specs.declared.WordIndex.{WordIndex}

-- RANGES

abbrev pub start_of : Range → ℕ
start_of r = r.start.0

-- the byte address just past a range: a sum of whole numbers, which does not wrap at 2^32
abbrev pub end_of : Range → ℕ
end_of r = start_of r + 4 * r.words

abbrev pub aligned : Range → Bool
aligned r = eqb (start_of r % 4) 0

-- range a lies whole in range b
abbrev pub within : Range → Range → Bool
within a b = leb (start_of b) (start_of a) && leb (end_of a) (end_of b)

abbrev pub no_range : Range
no_range = record { start = record { 0 = 0 }; words = 0 }

-- THE TABLE

-- an unused entry
abbrev pub no_region : Region
no_region = record { range = no_range; load = false; dump = false }

abbrev pub region_at : List Region → ℕ → Region
region_at rs i = get_or rs i no_region

abbrev pub range_at : List Region → ℕ → Range
range_at rs i = (region_at rs i).range

-- the end of the region before region i, and 0 before the first
abbrev pub end_before : List Region → ℕ → ℕ
end_before rs zero = 0
end_before rs (suc i) = end_of (range_at rs i)

-- region i: start a multiple of 4, size 1 to 1,048,576 words, end at most 2^32, and start not before the end of the region before
abbrev pub region_rules : List Region → ℕ → Bool
region_rules rs i =
    aligned (range_at rs i) && leb 1 (range_at rs i).words && leb (range_at rs i).words 1048576 && leb (end_of (range_at rs i)) 4294967296
    && leb (end_before rs i) (start_of (range_at rs i))

-- 1 to 16 regions, each by the rules
unfoldable pub table_rules : List Region → ℕ → Bool
table_rules rs n = leb 1 n && leb n 16 && all_below (region_rules rs) n

-- THE RANGE LIES WHOLE IN ONE REGION

-- the rights that a range may need of its region
abbrev pub any_right : Region → Bool
any_right r = true

abbrev pub load_right : Region → Bool
load_right r = r.load

abbrev pub dump_right : Region → Bool
dump_right r = r.dump

-- region i holds the range a whole, and has the right
abbrev pub holds : (Region → Bool) → List Region → Range → ℕ → Bool
holds right rs a i = within a (range_at rs i) && right (region_at rs i)

-- some region in use holds the range a whole, and has the right
unfoldable pub in_one_region : (Region → Bool) → List Region → ℕ → Range → Bool
in_one_region right rs n a = any_below (holds right rs a) n

-- HOW A RANGE MISSES

-- the first word of a range
abbrev pub first_of : Range → Range
first_of a = record { start = a.start; words = 1 }

-- some region in use holds the first word of the range a
abbrev pub starts_inside : List Region → ℕ → Range → Bool
starts_inside rs n a = in_one_region any_right rs n (first_of a)

-- the range a starts inside a region and runs out of it: none holds it whole
abbrev pub runs_out : List Region → ℕ → Range → Bool
runs_out rs n a = starts_inside rs n a && not (in_one_region any_right rs n a)

-- THE IMAGE: the words of the regions back to back, in table order

-- how many words the regions below k have: the index in the image of region k's first word
unfoldable pub words_below : List Region → ℕ → ℕ
words_below rs k = sum_below (λ i. (range_at rs i).words) k

abbrev pub image_length : List Region → ℕ → ℕ
image_length rs n = words_below rs n

-- the region that holds the range a whole
unfoldable pub region_of : List Region → ℕ → Range → ℕ
region_of rs n a = first_below (holds any_right rs a) n

-- the index in the image of the first word of a range that lies whole in region k
abbrev pub index_in : List Region → Range → ℕ → ℕ
index_in rs a k = words_below rs k + (start_of a - start_of (range_at rs k)) / 4

-- where a range that lies whole in one region begins in the image
unfoldable pub image_index : List Region → ℕ → Range → WordIndex
image_index rs n a = record { 0 = index_in rs a (region_of rs n a) }

-- the words of a range, as an image holds them
unfoldable pub words_of : List Region → ℕ → Range → List ℕ → List ℕ
words_of rs n a image = take a.words (drop (image_index rs n a).0 image)
