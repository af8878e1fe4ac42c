-- The state block says what the state is, no less and no more.
use Rattle.std.specs.Prelude.{◌≡◌, true, List, ℕ, ◌<◌, length}
use Rattle.rules.specs.States.{context_at}
use Rattle.rules.specs.declared.Context.{Context}
use Rattle.rules.specs.declared.Context.TheVariants.{Idle, Busy}
use Rattle.rules.specs.declared.State.{State}
use Rattle.block.specs.Blocks.{word, block_of, is_block, state_of, block_over}

abbrev pub ContextFits : Context → Type 0
ContextFits Idle = Unit
ContextFits (Busy d) = d.transaction < 65536

-- arrays have their lengths, numbers fit their types, and the number of regions fits a word
pub record Fits (s : State) : Type 0 where
  pub regions : length s.regions ≡ 16
  pub count : s.count < 4294967296
  pub pools : length s.pools ≡ 2
  pub unit : s.unit < 256
  pub places : length s.places ≡ 4
  pub contexts : (i : ℕ) → ContextFits (context_at s.places i)
  pub last : s.last < 256
  pub replies : s.replies < 65536
  pub values : s.values < 65536
  pub packets : s.packets < 65536
  pub accepted : s.accepted < 65536
  pub refused : s.refused < 65536

pub record RoundTrip : Type 0 where
  -- the block of a state is one, and gives the state back
  pub block : (s : State) → Fits s → is_block (block_of s) ≡ true
  pub back : (s : State) → Fits s → state_of (block_of s) ≡ s
  -- a block of words of 32 bits that is a state is the block of that state, but for the words of entries not in use
  pub forth : (b : List ℕ) → ((i : ℕ) → word b i < 4294967296) → is_block b ≡ true → block_over b (state_of b) ≡ b
  -- a state with the regions of such a block, written over it, is one, and gives the state back
  pub over : (b : List ℕ) → ((i : ℕ) → word b i < 4294967296) → is_block b ≡ true → (s : State) → s.regions ≡ (state_of b).regions
      → s.count ≡ (state_of b).count → Fits s → (is_block (block_over b s) ≡ true) × (state_of (block_over b s) ≡ s)
