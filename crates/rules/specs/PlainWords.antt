-- MEMORY, TABLES AND PLACES IN PLAIN WORDS: what each definition that reads an entry, a place or words of the image says of the lists
-- themselves (paper 01, "Regions and image"). The calls and the demands share those definitions; this is what else fixes them.
use Rattle.std.specs.Prelude.{◌≡◌, ◌↔◌, Bool, true, false, List, ℕ, ◌+◌, ◌*◌, ◌%◌, ◌≤◌, ◌<◌, length, get_or, take}
use Rattle.rules.specs.Regions.{start_of, end_of, region_at, range_at, table_rules, first_of, image_length, region_of, words_of}
use Rattle.rules.specs.States.{pool_at, context_at, busy_with, good_state}
use Rattle.rules.specs.GoodWhen.{LiesIn, StartsIn, words_in, first_word, Lies}
use Rattle.rules.specs.Commands.{pool_words}
use Rattle.rules.specs.declared.ActiveDump.{ActiveDump}
use Rattle.rules.specs.declared.Context.{Context}
use Rattle.rules.specs.declared.Context.TheVariants.{Idle, Busy}
use Rattle.rules.specs.declared.Place.{Place}
use Rattle.rules.specs.declared.Range.{Range}
use Rattle.rules.specs.declared.Region.{Region}
use Rattle.rules.specs.declared.State.{State}

-- what lies past a list's end: nothing
abbrev pub empty_range : Range
empty_range = record { start = record { 0 = 0 }; words = 0 }

abbrev pub empty_region : Region
empty_region = record { range = empty_range; load = false; dump = false }

-- ws are the words of the range a, which lies in region i of the table from word `offset` on, as the image holds them: as many as the range
-- has, and word k is the image's word at the region's first word plus the offset plus k
pub record WordsInImage (rs : List Region) (a : Range) (i offset : ℕ) (image ws : List ℕ) : Type 0 where
  pub count : length ws ≡ a.words
  pub word : (k : ℕ) → k < a.words → get_or ws k 0 ≡ get_or image (first_word rs i + offset + k) 0

-- a good state, and an image as long as its regions in use
pub record ImageFits (s : State) (image : List ℕ) : Type 0 where
  pub good : good_state s ≡ true
  pub as_long : length image ≡ words_in (take s.count s.regions)

-- the range lies in a region in use that has dump right, from one of its words on
abbrev pub LiesDumpable : State → Range → Type 0
LiesDumpable s a = (i : ℕ) × (offset : ℕ) × Lies s.regions s.count a i offset × ((get_or s.regions i empty_region).dump ≡ true)

pub record PlainWords : Type 0 where
  -- ranges, and the entries of a table, of the pools and of the places, by index
  pub range : (a : Range) → (start_of a ≡ a.start.0) × (end_of a ≡ a.start.0 + 4 * a.words)
  pub region : (rs : List Region) (i : ℕ) → (region_at rs i ≡ get_or rs i empty_region) × (range_at rs i ≡ (get_or rs i empty_region).range)
  pub pool : (pools : List Range) (i : ℕ) → pool_at pools i ≡ get_or pools i empty_range
  pub place : (places : List Place) (i : ℕ) → context_at places i ≡ (get_or places i (record { context = Idle })).context
  pub busy : (t : ℕ) (c : Context) → (busy_with t c ≡ true) ↔ ((d : ActiveDump) × (c ≡ Busy d) × (d.transaction ≡ t))
  -- the sum over the regions in use alone, whatever the unused entries hold
  pub image_length_lem : (rs : List Region) (n : ℕ) → image_length rs n ≡ words_in (take n rs)
  -- region by region: no region has no word, each adds its own, and region i begins where those before it end
  pub image_none : (rs : List Region) → image_length rs 0 ≡ 0
  pub image_more : (rs : List Region) (n : ℕ) → image_length rs (n + 1) ≡ image_length rs n + (get_or rs n empty_region).range.words
  pub region_first : (rs : List Region) (i : ℕ) → first_word rs i ≡ image_length rs i
  -- A range of a word or more lies whole in a region exactly if that region holds each of its words.
  pub each_word : (right : Region → Bool) (rs : List Region) (n : ℕ) (a : Range) (i : ℕ) → 1 ≤ a.words
      → LiesIn right rs n a i
      ↔ (((k : ℕ) → k < a.words → StartsIn rs n (record { start = record { 0 = a.start.0 + 4 * k }; words = 1 }) i) × (right (get_or rs i empty_region) ≡ true))
  -- by its numbers: from word `offset` of the region on, in ranges of any size
  pub lies : (rs : List Region) (n : ℕ) (a : Range) (i offset : ℕ)
      → Lies rs n a i offset
      ↔ ((i < n) × (a.start.0 ≡ (get_or rs i empty_region).range.start.0 + 4 * offset) × (offset + a.words ≤ (get_or rs i empty_region).range.words))
  -- where a range lies whole in a region by its start and end, it lies there by words, and the other way round
  pub lies_when : (right : Region → Bool) (rs : List Region) (n : ℕ) (a : Range) (i : ℕ) → a.start.0 % 4 ≡ 0
      → (get_or rs i empty_region).range.start.0 % 4 ≡ 0
      → LiesIn right rs n a i ↔ ((offset : ℕ) × Lies rs n a i offset × (right (get_or rs i empty_region) ≡ true))
  -- the first word of a range, and the region that holds it: it is one of that region's words, however long the range is
  pub first : (a : Range) → first_of a ≡ record { start = record { 0 = a.start.0 }; words = 1 }
  pub starts_when : (rs : List Region) (n : ℕ) (a : Range) (i : ℕ) → a.start.0 % 4 ≡ 0 → (get_or rs i empty_region).range.start.0 % 4 ≡ 0
      → StartsIn rs n a i
      ↔ ((k : ℕ) × (i < n) × (k < (get_or rs i empty_region).range.words) × (a.start.0 ≡ (get_or rs i empty_region).range.start.0 + 4 * k))
  -- the region of a range, by its number; n exactly where none holds it
  pub region_of_lem : (rs : List Region) (n : ℕ) (a : Range) (i : ℕ) → table_rules rs n ≡ true → 1 ≤ a.words → LiesIn (λ (g : Region). true) rs n a i
      → region_of rs n a ≡ i
  pub region_none : (rs : List Region) (n : ℕ) (a : Range) → ((i : ℕ) → LiesIn (λ (g : Region). true) rs n a i → ⊥) → region_of rs n a ≡ n
  -- in a good state each pool that is there, and each busy dump, lies in a region with dump right, from one of its words on; a pool that is not has no start
  pub pool_lies : (s : State) (pool : ℕ) → good_state s ≡ true → pool ≤ 1 → 1 ≤ (get_or s.pools pool empty_range).words
      → LiesDumpable s (get_or s.pools pool empty_range)
  pub no_pool : (s : State) (pool : ℕ) → good_state s ≡ true → pool ≤ 1 → (get_or s.pools pool empty_range).words ≡ 0
      → (get_or s.pools pool empty_range).start.0 ≡ 0
  pub dump_lies : (s : State) (i : ℕ) (d : ActiveDump) → good_state s ≡ true → i < 4 → context_at s.places i ≡ Busy d → LiesDumpable s d.range
  -- the words of a range and of a pool
  pub words : (s : State) (image : List ℕ) (a : Range) (i offset : ℕ) → ImageFits s image → 1 ≤ a.words → Lies s.regions s.count a i offset
      → WordsInImage s.regions a i offset image (words_of s.regions s.count a image)
  pub pool_words_lem : (s : State) (image : List ℕ) (pool i offset : ℕ) → ImageFits s image → 1 ≤ (get_or s.pools pool empty_range).words
      → Lies s.regions s.count (get_or s.pools pool empty_range) i offset
      → WordsInImage s.regions (get_or s.pools pool empty_range) i offset image (pool_words s pool image)
