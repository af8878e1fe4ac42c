-- Start-up with a table block is start-up with the table.
-- Assumes nothing.
use mathlib.Core.Path.{◌≡◌, refl, sym, ap, ◌∙◌}
use mathlib.Core.Logic.{◌≢◌}
use mathlib.Core.Bool.{Bool, true, false, ◌&&◌, cond}
use mathlib.Core.List.{List, [], ◌∷◌, ◌++◌}
use Prim.Native.Nat.{ℕ, ◌+◌, ◌*◌, ◌%◌, ◌≤◌, ◌<◌, min}
use native.Mathlib.Omega.{arith}
use lib.Dec.{leb, eqb}
use lib.ListN.{length, replicate, get_or-eq_default}
use borrow.Author.Tests.{eq-eqb, ne_eqb, le-leb, lt-leb, leb-true}
use Rattle.lists.proofs.Below.{all_at, all_of}
use Rattle.lists.proofs.Tests.{either, by_lt, and_right}
use Rattle.rules.specs.Regions.{no_range, no_region, region_at, table_rules}
use Rattle.rules.specs.Results.{verdict_number}
use Rattle.rules.specs.States.{pool_at, start_rules, start_up, no_state}
use Rattle.rules.specs.declared.Range.{Range}
use Rattle.rules.specs.declared.Region.{Region}
use Rattle.block.specs.Blocks.{block_of, word, region_in, regions_in, pools_in, regions_bounds, is_table}
use Rattle.block.specs.Calls.{table_of, start_left, lg_start_up}
use Rattle.block.specs.Runs.{runs}
use Rattle.block.proofs.Runs.{runs_length, list_at}
use Rattle.c_theorems.specs.FromC.{TableBlock, NotStarted}
use Rattle.c_theorems.proofs.Used.{started_same}

-- RIGHTS

load_of : (l d : Bool) → eqb ((cond l 1 0 + cond d 2 0) % 2) 1 ≡ l
load_of true true = refl
load_of true false = refl
load_of false true = refl
load_of false false = refl

dump_of : (l d : Bool) → leb 2 (cond l 1 0 + cond d 2 0) ≡ d
dump_of true true = refl
dump_of true false = refl
dump_of false true = refl
dump_of false false = refl

rights_low : (l d : Bool) → leb (cond l 1 0 + cond d 2 0) 3 ≡ true
rights_low true true = refl
rights_low true false = refl
rights_low false true = refl
rights_low false false = refl

-- A TABLE

two_pools : (ps : List Range) → length ps ≡ 2 → (pool_at ps 0 ∷ pool_at ps 1 ∷ []) ≡ ps
two_pools [] h = absurd (omega arith)
two_pools (p ∷ []) h = absurd (omega arith)
two_pools (p ∷ q ∷ []) h = refl
two_pools (p ∷ q ∷ r ∷ ps) h = absurd (omega arith)

module _ (t : List ℕ) (rs : List Region) (n : ℕ) (pools : List Range) (unit : ℕ) (h : TableBlock t rs n pools unit) where
  region_is : (i : ℕ) → i < n → i < 16 → region_in t (6 + 3 * i) ≡ region_at rs i
  region_is i u l =
      rw (
        h.region_start i u l,
        h.region_size i u l,
        h.region_rights i u l,
        load_of (region_at rs i).load (region_at rs i).dump,
        dump_of (region_at rs i).load (region_at rs i).dump,
      )

  sixteen : length (regions_in t 6) ≡ 16
  sixteen = runs_length (λ i. region_in t (6 + 3 * i) ∷ []) 1 (λ i. refl) 16

  used_are : (i : ℕ) → i < n → region_at (regions_in t 6) i ≡ region_at rs i
  used_are i u =
      let m = h.sixteen in
      let k = sixteen in
      by_lt i 16
      (λ l. list_at no_region (λ j. region_in t (6 + 3 * j)) 16 i l ∙ region_is i u l)
      (λ l. get_or-eq_default (regions_in t 6) no_region {n = i} (omega arith) ∙ sym (get_or-eq_default rs no_region {n = i} (omega arith)))

  pools_are : pools_in t 2 ≡ pools
  pools_are = rw (h.pool_0.0, h.pool_0.1, h.pool_1.0, h.pool_1.1) (two_pools pools h.two)

  bounds : regions_bounds t 6 n ≡ true
  unfolding regions_bounds
  bounds =
      all_of (λ i. leb (word t (6 + 3 * i + 2)) 3) (min n 16)
      (λ i l. rw (h.region_rights i (omega arith) (omega arith)) (rights_low (region_at rs i).load (region_at rs i).dump))

  is_table_lem : is_table t ≡ true
  unfolding is_table
  is_table_lem = let f = h.unit_fits in rw (eq-eqb (length t) 54 h.words, h.unit_word, h.count_word, le-leb unit 255 (omega arith), bounds)

pub start_is : (t : List ℕ) (rs : List Region) (n : ℕ) (pools : List Range) (unit : ℕ) (b : List ℕ) → TableBlock t rs n pools unit → length b ≡ 80
    → lg_start_up t b ≡ record { number = verdict_number (start_up rs n pools unit).verdict; state = block_of (start_up rs n pools unit).state }
unfolding lg_start_up table_of
start_is t rs n pools unit b h k =
    rw (eq-eqb (length b) 80 k, is_table_lem t rs n pools unit h, pools_are t rs n pools unit h, h.unit_word, h.count_word)
    (ap start_left (started_same rs (regions_in t 6) n (used_are t rs n pools unit h) h.sixteen (sixteen t rs n pools unit h) pools unit))

-- NO TABLE

no_table : start_rules (replicate 16 no_region) 0 (replicate 2 no_range) 0 ≡ false
unfolding start_rules table_rules
no_table = refl

none_block : block_of no_state ≡ replicate 74 0 ++ 3 ∷ 0 ∷ 0 ∷ 0 ∷ 0 ∷ 0 ∷ []
unfolding block_of runs
none_block = refl

module _ (t b : List ℕ) where
  not_table : length b ≡ 80 → is_table t ≡ false → NotStarted t b
  unfolding lg_start_up table_of start_up
  not_table k e = rw (eq-eqb (length b) 80 k, e, no_table, none_block)

  wide_unit : length t ≡ 54 → 255 < word t 0 → is_table t ≡ false
  unfolding is_table
  wide_unit n h = rw (eq-eqb (length t) 54 n, lt-leb (word t 0) 255 h)

  pub not_unit : length t ≡ 54 → length b ≡ 80 → 255 < word t 0 → NotStarted t b
  not_unit n k h = not_table k (wide_unit n h)

module _ (t b : List ℕ) (i : ℕ) (n : length t ≡ 54) where
  wide_rights : i < word t 1 → i < 16 → 3 < word t (6 + 3 * i + 2) → is_table t ≡ false
  unfolding is_table regions_bounds
  wide_rights u l h =
      either (is_table t)
      (λ e. let m : word t (6 + 3 * i + 2) ≤ 3 = leb-true (word t (6 + 3 * i + 2)) 3 (all_at (λ j. leb (word t (6 + 3 * j + 2)) 3) (min (word t 1) 16) (and_right (leb (word t 0) 255) (regions_bounds t 6 (word t 1)) (and_right (eqb (length t) 54) (leb (word t 0) 255 && regions_bounds t 6 (word t 1)) e)) (omega arith)) in absurd (omega arith))
      (λ e. e)

  pub not_rights : length b ≡ 80 → i < word t 1 → i < 16 → 3 < word t (6 + 3 * i + 2) → NotStarted t b
  not_rights k u l h = not_table t b k (wide_rights u l h)

module _ (t b : List ℕ) where
  other_table : length t ≢ 54 → is_table t ≡ false
  unfolding is_table
  other_table n = rw (ne_eqb (length t) 54 n)

  pub other_table_length : length t ≢ 54 → length b ≡ 80 → NotStarted t b
  other_table_length n k = not_table t b k (other_table n)

  pub other_state_length : length b ≢ 80 → lg_start_up t b ≡ record { number = 17; state = b }
  unfolding lg_start_up
  other_state_length k = rw (ne_eqb (length b) 80 k)
