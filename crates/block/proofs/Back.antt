-- The block of a state is one, and gives the state back.
-- Assumes nothing.
use mathlib.Core.Path.{◌≡◌, refl, ap, ◌∙◌}
use mathlib.Core.Bool.{Bool, true, false}
use mathlib.Core.List.{List, [], ◌∷◌, ◌++◌}
use Prim.Native.Nat.{ℕ, ◌+◌, ◌*◌, ◌%◌, ◌≤◌, ◌<◌, min}
use native.Mathlib.Omega.{arith}
use lib.Dec.{leb, eqb}
use lib.ListN.{length}
use lib.Seq.{take_all}
use borrow.Author.Tests.{le-leb, eq-eqb}
use Rattle.lists.proofs.Below.{all_of}
use Rattle.rules.specs.Regions.{no_region, region_at}
use Rattle.rules.specs.States.{pool_at, context_at, idle_place}
use Rattle.rules.specs.declared.Context.{Context}
use Rattle.rules.specs.declared.Context.TheVariants.{Idle, Busy}
use Rattle.rules.specs.declared.Range.{Range}
use Rattle.rules.specs.declared.Region.{Region}
use Rattle.rules.specs.declared.State.{State}
use Rattle.block.specs.Blocks.{rights_word, region_words, context_words, pools_words, block_of, word, region_in, context_in, place_in, regions_in, pools_in, places_in, state_of, regions_bounds, place_bounds, is_block}
use Rattle.block.specs.RoundTrip.{ContextFits, Fits}
use Rattle.block.proofs.Runs.{list_is}
use Rattle.block.proofs.Lengths.{block_length}
use Rattle.block.proofs.Words.{count_word, region_word, pool_word, place_word, tail_word}

-- RIGHTS

load_back : (l d : Bool) → eqb (rights_word l d % 2) 1 ≡ l
load_back true true = refl
load_back true false = refl
load_back false true = refl
load_back false false = refl

dump_back : (l d : Bool) → leb 2 (rights_word l d) ≡ d
dump_back true true = refl
dump_back true false = refl
dump_back false true = refl
dump_back false false = refl

pub rights_low : (l d : Bool) → leb (rights_word l d) 3 ≡ true
rights_low true true = refl
rights_low true false = refl
rights_low false true = refl
rights_low false false = refl

-- A REGION AND A PLACE, from their words at index `at`

module _ (b : List ℕ) (at : ℕ) where
  first : {x : ℕ} → word b (at + 0) ≡ x → word b at ≡ x
  first e = let z : at ≡ at + 0 = omega arith in ap (word b) z ∙ e

  pub region_back : (r : Region) → ((k : ℕ) → k < 3 → word b (at + k) ≡ word (region_words r) k) → region_in b at ≡ r
  region_back r h =
      let rights = h 2 (omega arith) in
      rw (first (h 0 (omega arith)), h 1 (omega arith), rights, load_back r.load r.dump, dump_back r.load r.dump)

  context_back : (c : Context) → ((k : ℕ) → k < 5 → word b (at + k) ≡ word (context_words c) k) → context_in b at ≡ c
  context_back Idle h = rw (first (h 0 (omega arith)))
  context_back (Busy d) h =
      let z : at + 2 + 1 ≡ at + 3 = omega arith in
      let words : word b (at + 2 + 1) ≡ d.range.words = ap (word b) z ∙ h 3 (omega arith) in
      rw (first (h 0 (omega arith)), h 1 (omega arith), h 2 (omega arith), words, h 4 (omega arith))

  context_bounds : (c : Context) → ContextFits c → ((k : ℕ) → k < 5 → word b (at + k) ≡ word (context_words c) k) → place_bounds b at ≡ true
  unfolding place_bounds
  context_bounds Idle f h =
      rw (first (h 0 (omega arith)), h 1 (omega arith), h 2 (omega arith), h 3 (omega arith), h 4 (omega arith))
  context_bounds (Busy d) f h =
      rw (first (h 0 (omega arith)), h 1 (omega arith), le-leb d.transaction 65535 (omega arith))

-- THE STATE

pools_back : (ps : List Range) → length ps ≡ 2 → (pool_at ps 0 ∷ pool_at ps 1 ∷ []) ≡ ps
pools_back [] h = absurd (omega arith)
pools_back (p ∷ []) h = absurd (omega arith)
pools_back (p ∷ q ∷ []) h = refl
pools_back (p ∷ q ∷ r ∷ ps) h = absurd (omega arith)

-- a block says a state: its number of regions and its regions are the state's, and all that comes after them is as in the state's block
pub record Says (b : List ℕ) (s : State) : Type 0 where
  pub words : length b ≡ 80
  pub count : word b 0 ≡ s.count
  pub regions : regions_in b 1 ≡ s.regions
  pub rights : regions_bounds b 1 (word b 0) ≡ true
  pub rest : (k : ℕ) → 49 ≤ k → word b k ≡ word (block_of s) k

module _ (s : State) (f : Fits s) (b : List ℕ) (w : Says b s) where
  pool_is : (k : ℕ) → k < 5 → word b (49 + k) ≡ word (pools_words s.pools ++ (s.unit ∷ [])) k
  pool_is k l = w.rest (49 + k) (omega arith) ∙ pool_word s k l

  place_is : (i k : ℕ) → i < 4 → k < 5 → word b (54 + 5 * i + k) ≡ word (context_words (context_at s.places i)) k
  place_is i k l m = w.rest (54 + 5 * i + k) (omega arith) ∙ place_word s i k l m

  tail_is : (k : ℕ) → word b (74 + k) ≡ word (s.last ∷ s.replies ∷ s.packets ∷ s.accepted ∷ s.refused ∷ s.values ∷ []) k
  tail_is k = w.rest (74 + k) (omega arith) ∙ tail_word s k

  places_same : places_in b 54 ≡ s.places
  places_same =
      let n = f.places in
      list_is idle_place (λ i. place_in b (54 + 5 * i)) s.places 4 (omega arith)
      (λ i l. rw (context_back b (54 + 5 * i) (context_at s.places i) (λ k m. place_is i k l m)))
      ∙ take_all 4 s.places (omega arith)

  pools_same : pools_in b 49 ≡ s.pools
  pools_same =
      rw (pool_is 0 (omega arith), pool_is 1 (omega arith), pool_is 2 (omega arith), pool_is 3 (omega arith))
      (pools_back s.pools f.pools)

  pub said_back : state_of b ≡ s
  unfolding state_of
  said_back =
      rw (
        w.regions,
        w.count,
        pools_same,
        pool_is 4 (omega arith),
        places_same,
        tail_is 0,
        tail_is 1,
        tail_is 2,
        tail_is 3,
        tail_is 4,
        tail_is 5,
      )

  place_bounds_lem : (i : ℕ) → i < 4 → place_bounds b (54 + 5 * i) ≡ true
  place_bounds_lem i l = context_bounds b (54 + 5 * i) (context_at s.places i) (f.contexts i) (λ k m. place_is i k l m)

  pub said_block : is_block b ≡ true
  unfolding is_block
  said_block =
      rw (
        eq-eqb (length b) 80 w.words,
        w.rights,
        pool_is 4 (omega arith),
        le-leb s.unit 255 (omega arith),
        place_bounds_lem 0 (omega arith),
        place_bounds_lem 1 (omega arith),
        place_bounds_lem 2 (omega arith),
        place_bounds_lem 3 (omega arith),
        tail_is 0,
        tail_is 1,
        tail_is 2,
        tail_is 3,
        tail_is 4,
        tail_is 5,
        le-leb s.last 255 (omega arith),
        le-leb s.replies 65535 (omega arith),
        le-leb s.packets 65535 (omega arith),
        le-leb s.accepted 65535 (omega arith),
        le-leb s.refused 65535 (omega arith),
        le-leb s.values 65535 (omega arith),
      )

-- THE STATE'S OWN BLOCK

module _ (s : State) (f : Fits s) where
  regions_same : regions_in (block_of s) 1 ≡ s.regions
  regions_same =
      let n = f.regions in
      list_is no_region (λ i. region_in (block_of s) (1 + 3 * i)) s.regions 16 (omega arith)
      (λ i l. region_back (block_of s) (1 + 3 * i) (region_at s.regions i) (λ k m. region_word s i k l m))
      ∙ take_all 16 s.regions (omega arith)

  pub count_same : word (block_of s) 0 ≡ s.count
  count_same = let n = f.count in let e = count_word s in omega arith

  rights_bounds : (n : ℕ) → regions_bounds (block_of s) 1 n ≡ true
  unfolding regions_bounds
  rights_bounds n =
      all_of (λ i. leb (word (block_of s) (1 + 3 * i + 2)) 3) (min n 16)
      (λ i l. rw (region_word s i 2 (omega arith) (omega arith)) (rights_low (region_at s.regions i).load (region_at s.regions i).dump))

  own_block : Says (block_of s) s
  own_block =
      record { words = block_length s; count = count_same; regions = regions_same; rights = rights_bounds (word (block_of s) 0); rest = λ k l. refl }

  pub state_back : state_of (block_of s) ≡ s
  state_back = said_back s f (block_of s) own_block

  pub block_good : is_block (block_of s) ≡ true
  block_good = said_block s f (block_of s) own_block
