-- The rules of tables, pools, dumps and states in logic, clause by clause (paper 01, "Regions and image"). Demand 2 says that the tests
-- `start_rules` and `good_state` of States.antt hold exactly when these do.
use Rattle.std.specs.Prelude.{◌≡◌, ◌≢◌, Bool, true, List, [], ◌∷◌, ℕ, suc, ◌+◌, ◌*◌, ◌%◌, ◌≤◌, ◌<◌, length, take}
use Rattle.rules.specs.Regions.{start_of, end_of, region_at, range_at}
use Rattle.rules.specs.States.{pool_at, context_at}
use Rattle.rules.specs.declared.ActiveDump.{ActiveDump}
use Rattle.rules.specs.declared.Context.TheVariants.{Busy}
use Rattle.rules.specs.declared.Range.{Range}
use Rattle.rules.specs.declared.Region.{Region}
use Rattle.rules.specs.declared.State.{State}

-- the range a lies whole in region i of the table, which is in use and has the right
pub record LiesIn (right : Region → Bool) (rs : List Region) (n : ℕ) (a : Range) (i : ℕ) : Type 0 where
  pub in_use : i < n
  pub from : start_of (range_at rs i) ≤ start_of a
  pub to : end_of a ≤ end_of (range_at rs i)
  pub allowed : right (region_at rs i) ≡ true

-- region i of the table, which is in use, holds the first word of the range a
pub record StartsIn (rs : List Region) (n : ℕ) (a : Range) (i : ℕ) : Type 0 where
  pub in_use : i < n
  pub from : start_of (range_at rs i) ≤ start_of a
  pub word : start_of a + 4 ≤ end_of (range_at rs i)

-- whole in one region with dump right
abbrev pub DumpableIn : List Region → ℕ → Range → Type 0
DumpableIn rs n a = (i : ℕ) × LiesIn (λ (g : Region). g.dump) rs n a i

-- WHERE A RANGE LIES IN THE IMAGE: word `offset` of region i, counted from 0, is word `first_word i + offset` of the image

-- how many words these regions have in all
abbrev pub words_in : List Region → ℕ
words_in [] = 0
words_in (r ∷ rs) = r.range.words + words_in rs

-- the index in the image of region i's first word: the regions before it lie there back to back
abbrev pub first_word : List Region → ℕ → ℕ
first_word rs i = words_in (take i rs)

-- the range a lies whole in region i of the table, from word `offset` of that region on
pub record Lies (rs : List Region) (n : ℕ) (a : Range) (i offset : ℕ) : Type 0 where
  pub in_use : i < n
  pub from : a.start.0 ≡ (range_at rs i).start.0 + 4 * offset
  pub to : offset + a.words ≤ (range_at rs i).words

pub record GoodRegion (rs : List Region) (n i : ℕ) : Type 0 where
  pub aligned : start_of (range_at rs i) % 4 ≡ 0
  pub some : 1 ≤ (range_at rs i).words
  pub most : (range_at rs i).words ≤ 1048576
  pub end : end_of (range_at rs i) ≤ 4294967296
  pub next : suc i < n → end_of (range_at rs i) ≤ start_of (range_at rs (suc i))

pub record GoodPool (rs : List Region) (n : ℕ) (p : Range) : Type 0 where
  pub none : p.words ≡ 0 → start_of p ≡ 0
  pub aligned : p.words ≢ 0 → start_of p % 4 ≡ 0
  pub region : p.words ≢ 0 → DumpableIn rs n p

-- what start-up asks of table, pools and unit
pub record GoodStart (rs : List Region) (n : ℕ) (pools : List Range) (unit : ℕ) : Type 0 where
  pub some : 1 ≤ n
  pub sixteen : n ≤ 16
  pub regions : (i : ℕ) → i < n → GoodRegion rs n i
  pub first : GoodPool rs n (pool_at pools 0)
  pub second : GoodPool rs n (pool_at pools 1)
  pub unit_fits : unit ≤ 15

pub record GoodDump (rs : List Region) (n : ℕ) (d : ActiveDump) : Type 0 where
  pub number : d.transaction ≤ 4095
  pub some : 1 ≤ d.range.words
  pub most : d.range.words ≤ 65535
  pub aligned : start_of d.range % 4 ≡ 0
  pub region : DumpableIn rs n d.range
  pub cut : d.sent % 1016 ≡ 0
  pub below : d.sent < d.range.words

pub record Good (s : State) : Type 0 where
  pub start : GoodStart s.regions s.count s.pools s.unit
  pub last : s.last ≤ 3
  pub replies : s.replies ≤ 16383
  pub values : s.values ≤ 16383
  pub packets : s.packets ≤ 16383
  pub accepted : s.accepted ≤ 65535
  pub refused : s.refused ≤ 65535
  pub four : length s.places ≡ 4
  pub dumps : (i : ℕ) (d : ActiveDump) → i < 4 → context_at s.places i ≡ Busy d → GoodDump s.regions s.count d
  pub apart : (i j : ℕ) (d e : ActiveDump) → i < 4 → j < 4 → i ≢ j → context_at s.places i ≡ Busy d → context_at s.places j ≡ Busy e
      → d.transaction ≢ e.transaction
