-- POOLS APART: start-up and the good state judge each pool as if the other were none, so that pools may overlap or be the same; and they ask no right of a
-- region but the dump right where a pool or, of a state, a busy dump lies (paper 01, "Regions and image").
use Rattle.std.specs.Prelude.{◌≡◌, ◌≢◌, ◌↔◌, ◌⊎◌, true, List, [], ◌∷◌, ℕ, ◌<◌}
use Rattle.rules.specs.Regions.{region_at}
use Rattle.rules.specs.GoodWhen.{LiesIn}
use Rattle.rules.specs.Results.{verdict_number}
use Rattle.rules.specs.States.{start_up, pool_at, context_at, good_state}
use Rattle.rules.specs.declared.ActiveDump.{ActiveDump}
use Rattle.rules.specs.declared.Context.TheVariants.{Busy}
use Rattle.rules.specs.declared.Range.{Range}
use Rattle.rules.specs.declared.Region.{Region}
use Rattle.rules.specs.declared.State.{State}

-- no pool: size 0 and start 0
abbrev pub no_pool : Range
no_pool = record { start = record { 0 = 0 }; words = 0 }

-- start-up is answered 0
abbrev pub Starts : List Region → ℕ → List Range → ℕ → Type 0
Starts rs n pools unit = verdict_number (start_up rs n pools unit).verdict ≡ 0

-- no pool of this range lies in region i
abbrev pub NotIn : List Region → ℕ → Range → ℕ → Type 0
NotIn rs n p i = p.words ≢ 0 → LiesIn (λ (g : Region). true) rs n p i → ⊥

-- two tables with the same ranges, and the same dump right of each region in use where a pool lies; other rights may differ
pub record OtherRights (rs other : List Region) (n : ℕ) (p q : Range) : Type 0 where
  pub ranges : (i : ℕ) → (region_at other i).range ≡ (region_at rs i).range
  pub rights : (i : ℕ) → i < n → ((region_at other i).dump ≡ (region_at rs i).dump) ⊎ (NotIn rs n p i × NotIn rs n q i)

-- a state with these pools, and all else as it is
abbrev pub with_pools : State → List Range → State
with_pools s pools =
    record {
      regions = s.regions;
      count = s.count;
      pools = pools;
      unit = s.unit;
      places = s.places;
      last = s.last;
      replies = s.replies;
      values = s.values;
      packets = s.packets;
      accepted = s.accepted;
      refused = s.refused;
    }

-- a state with these regions, and all else as it is
abbrev pub with_regions : State → List Region → State
with_regions s rs =
    record {
      regions = rs;
      count = s.count;
      pools = s.pools;
      unit = s.unit;
      places = s.places;
      last = s.last;
      replies = s.replies;
      values = s.values;
      packets = s.packets;
      accepted = s.accepted;
      refused = s.refused;
    }

-- no busy dump lies in region i
abbrev pub NoDumpIn : State → ℕ → Type 0
NoDumpIn s i = (j : ℕ) (d : ActiveDump) → context_at s.places j ≡ Busy d → LiesIn (λ (g : Region). true) s.regions s.count d.range i → ⊥

-- a table with the same ranges, and the same dump right of each region in use where a pool or a busy dump lies
pub record RightsFor (s : State) (other : List Region) : Type 0 where
  pub ranges : (i : ℕ) → (region_at other i).range ≡ (region_at s.regions i).range
  pub rights : (i : ℕ) → i < s.count
      → ((region_at other i).dump ≡ (region_at s.regions i).dump)
      ⊎ (NotIn s.regions s.count (pool_at s.pools 0) i × NotIn s.regions s.count (pool_at s.pools 1) i × NoDumpIn s i)

pub record PoolsApart : Type 0 where
  -- start-up takes two pools exactly if it takes each alone
  pub each : (rs : List Region) (n : ℕ) (p q : Range) (unit : ℕ)
      → Starts rs n (p ∷ q ∷ []) unit ↔ (Starts rs n (p ∷ no_pool ∷ []) unit × Starts rs n (no_pool ∷ q ∷ []) unit)
  -- whichever is first
  pub order : (rs : List Region) (n : ℕ) (p q : Range) (unit : ℕ) → Starts rs n (p ∷ q ∷ []) unit → Starts rs n (q ∷ p ∷ []) unit
  -- whatever rights regions have where no pool lies
  pub rights : (rs other : List Region) (n : ℕ) (p q : Range) (unit : ℕ) → OtherRights rs other n p q
      → Starts rs n (p ∷ q ∷ []) unit → Starts other n (p ∷ q ∷ []) unit
  -- the good state takes two pools exactly if it takes each alone
  pub good : (s : State) (p q : Range)
      → (good_state (with_pools s (p ∷ q ∷ [])) ≡ true)
      ↔ ((good_state (with_pools s (p ∷ no_pool ∷ [])) ≡ true) × (good_state (with_pools s (no_pool ∷ q ∷ [])) ≡ true))
  -- and whatever rights regions have where no pool and no busy dump lies
  pub good_rights : (s : State) (other : List Region) → RightsFor s other → good_state s ≡ true → good_state (with_regions s other) ≡ true
