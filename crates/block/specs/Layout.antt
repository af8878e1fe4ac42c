-- What each word of the state block is, by its index, as c/leatgarnet.h lists them.
use Rattle.std.specs.Prelude.{◌≡◌, cond, ℕ, ◌+◌, ◌*◌, ◌<◌, length, get_or}
use Rattle.rules.specs.Regions.{start_of, region_at}
use Rattle.rules.specs.States.{pool_at, context_at}
use Rattle.rules.specs.declared.ActiveDump.{ActiveDump}
use Rattle.rules.specs.declared.Context.TheVariants.{Idle, Busy}
use Rattle.rules.specs.declared.State.{State}
use Rattle.block.specs.Blocks.{block_of}

abbrev pub at : State → ℕ → ℕ
at s i = get_or (block_of s) i 0

pub record Layout (s : State) : Type 0 where
  pub words : length (block_of s) ≡ 80
  pub count : s.count < 4294967296 → at s 0 ≡ s.count
  pub region_start : (i : ℕ) → i < 16 → at s (1 + 3 * i) ≡ start_of (region_at s.regions i).range
  pub region_size : (i : ℕ) → i < 16 → at s (2 + 3 * i) ≡ (region_at s.regions i).range.words
  -- 1 for the load right and 2 for the dump right
  pub region_rights : (i : ℕ) → i < 16 → at s (3 + 3 * i) ≡ cond (region_at s.regions i).load 1 0 + cond (region_at s.regions i).dump 2 0
  pub pool_0 : (at s 49 ≡ start_of (pool_at s.pools 0)) × (at s 50 ≡ (pool_at s.pools 0).words)
  pub pool_1 : (at s 51 ≡ start_of (pool_at s.pools 1)) × (at s 52 ≡ (pool_at s.pools 1).words)
  pub unit : at s 53 ≡ s.unit
  pub idle : (i k : ℕ) → i < 4 → k < 5 → context_at s.places i ≡ Idle → at s (54 + 5 * i + k) ≡ 0
  pub busy : (i : ℕ) (d : ActiveDump) → i < 4 → context_at s.places i ≡ Busy d
      → (at s (54 + 5 * i) ≡ 1) × (at s (55 + 5 * i) ≡ d.transaction) × (at s (56 + 5 * i) ≡ start_of d.range) × (at s (57 + 5 * i) ≡ d.range.words)
      × (at s (58 + 5 * i) ≡ d.sent)
  pub last : at s 74 ≡ s.last
  pub replies : at s 75 ≡ s.replies
  pub packets : at s 76 ≡ s.packets
  pub accepted : at s 77 ≡ s.accepted
  pub refused : at s 78 ≡ s.refused
  pub values : at s 79 ≡ s.values
