-- What start-up leaves: the block of the state of zero regions, and the block of a fresh state with the table's words.
-- Assumes nothing.
use mathlib.Core.Path.{◌≡◌, refl, sym, ap, ◌∙◌}
use mathlib.Core.Logic.{◌≢◌}
use mathlib.Core.Bool.{Bool, true, false, ◌&&◌, not}
use mathlib.Core.List.{List, [], ◌∷◌}
use Prim.Native.Nat.{ℕ, ◌+◌, ◌*◌, ◌-◌, ◌≤◌, ◌<◌, min}
use native.Mathlib.Omega.{arith}
use lib.Dec.{leb, eqb}
use lib.ListN.{length, set, take, drop, replicate, length-append, length-take, length-drop, length-set, length-replicate}
use lib.Seq.{take_all, get_or-set_same, get_or-set_other, length-take-le}
use borrow.Author.Tests.{eq-eqb, ne_eqb, le-leb, leb-true, not-true, not-false}
use Rattle.lists.specs.Splice.{splice}
use Rattle.lists.proofs.Below.{all_at, all_of}
use Rattle.lists.proofs.Splice.{splice_length, splice_in, splice_below, splice_above}
use Rattle.lists.proofs.Tests.{either, by_lt, and_left, and_right}
use Rattle.rules.specs.Regions.{no_range, no_region, region_at, table_rules}
use Rattle.rules.specs.States.{idle_place, start_rules, entries_used, fresh_state, no_state, start_up}
use Rattle.rules.specs.declared.Region.{Region}
use Rattle.rules.proofs.Rules.{start_out, used_region, replicate_at}
use Rattle.rules.proofs.Table.{table_count}
use Rattle.block.specs.Blocks.{block_of, word, region_in, regions_in, pools_in, places_in, state_of, regions_bounds, place_bounds, is_block, is_table}
use Rattle.block.specs.Calls.{table_of, lg_start_up}
use Rattle.block.specs.Runs.{runs}
use Rattle.block.proofs.Forth.{block_of_lem}
use Rattle.block.proofs.Parts.{word_part}
use Rattle.block.proofs.Runs.{list_at, list_is, in_rest, runs_length}
use Rattle.lent_state.specs.Tests.{good_table}
use Rattle.lent_state.specs.Writing.{table_written}

-- THE STATE OF ZERO REGIONS: zeros, but for the last place served

pub none_block : block_of no_state ≡ set (replicate 80 0) 74 3
unfolding block_of runs
none_block = refl

-- A TABLE WRITTEN OVER IT, by words

record Written (t f : List ℕ) : Type 0 where
  length_is : length f ≡ 80
  count : word f 0 ≡ word t 1
  used : (k : ℕ) → k < 3 * word t 1 → word f (1 + k) ≡ word t (6 + k)
  spare : (k : ℕ) → 3 * word t 1 ≤ k → k < 48 → word f (1 + k) ≡ 0
  pool : (k : ℕ) → k < 4 → word f (49 + k) ≡ word t (2 + k)
  unit : word f 53 ≡ word t 0
  idle : (k : ℕ) → k < 20 → word f (54 + k) ≡ 0
  last : word f 74 ≡ 3
  counts : (k : ℕ) → k < 5 → word f (75 + k) ≡ 0

module _ (t : List ℕ) (n : length t ≡ 54) (m : word t 1 ≤ 16) where
  abbrev regions : List ℕ
  regions = take (3 * word t 1) (drop 6 t)

  abbrev pools : List ℕ
  pools = take 4 (drop 2 t)

  abbrev one : List ℕ
  one = set (set (replicate 80 0) 74 3) 0 (word t 1)

  abbrev two : List ℕ
  two = splice one 1 regions

  abbrev three : List ℕ
  three = splice two 49 pools

  regions_length : length regions ≡ 3 * word t 1
  regions_length = simp (length-take, length-drop) (omega arith)

  pools_length : length pools ≡ 4
  pools_length = simp (length-take, length-drop) (omega arith)

  regions_fit : 1 + length regions ≤ length one
  regions_fit = let k = regions_length in omega arith

  two_length : length two ≡ 80
  two_length = splice_length one 1 regions regions_fit

  pools_fit : 49 + length pools ≤ length two
  pools_fit = let k = pools_length in let l = two_length in omega arith

  three_length : length three ≡ 80
  three_length = splice_length two 49 pools pools_fit ∙ two_length

  -- the words before the pools, and those after the unit
  low : (k : ℕ) → k < 49 → word (set three 53 (word t 0)) k ≡ word two k
  low k l = get_or-set_other three 53 k (word t 0) 0 (λ e. omega arith) ∙ splice_below two 49 pools pools_fit k l

  high : (k : ℕ) → 53 < k → word (set three 53 (word t 0)) k ≡ word one k
  high k l =
      let p = pools_length in
      let r = regions_length in
      get_or-set_other three 53 k (word t 0) 0 (λ e. omega arith) ∙ splice_above two 49 pools pools_fit k (omega arith)
      ∙ splice_above one 1 regions regions_fit k (omega arith)

  zero_word : (k : ℕ) → 0 < k → k < 74 → word one k ≡ 0
  zero_word k a b =
      get_or-set_other (set (replicate 80 0) 74 3) 0 k (word t 1) 0 (λ e. omega arith)
      ∙ get_or-set_other (replicate 80 0) 74 k 3 0 (λ e. omega arith) ∙ replicate_at 80 k 0

  written : Written t (set three 53 (word t 0))
  written =
      let r = regions_length in
      let p = pools_length in
      record {
        length_is = length-set three 53 (word t 0) ∙ three_length;
        count = low 0 (omega arith) ∙ splice_below one 1 regions regions_fit 0 (omega arith);
        used = λ k l. low (1 + k) (omega arith) ∙ splice_in one 1 regions regions_fit k (omega arith) ∙ word_part t 6 (3 * word t 1) k (6 + k) l refl;
        spare = λ k l q. low (1 + k) (omega arith) ∙ splice_above one 1 regions regions_fit (1 + k) (omega arith) ∙ zero_word (1 + k) (omega arith) (omega arith);
        pool = λ k l.
            get_or-set_other three 53 (49 + k) (word t 0) 0 (λ e. omega arith) ∙ splice_in two 49 pools pools_fit k (omega arith)
            ∙ word_part t 2 4 k (2 + k) l refl;
        unit = let q = three_length in get_or-set_same three 53 (word t 0) 0 (omega arith);
        idle = λ k l. high (54 + k) (omega arith) ∙ zero_word (54 + k) (omega arith) (omega arith);
        last = high 74 (omega arith);
        counts = λ k l. high (75 + k) (omega arith) ∙ last_zeros k l;
      }
    where
      last_zeros : (k : ℕ) → k < 5 → word one (75 + k) ≡ 0
      last_zeros k l =
          get_or-set_other (set (replicate 80 0) 74 3) 0 (75 + k) (word t 1) 0 (λ e. omega arith)
          ∙ get_or-set_other (replicate 80 0) 74 (75 + k) 3 0 (λ e. omega arith) ∙ replicate_at 80 (75 + k) 0

-- THE ENTRIES IN USE

module _ (rs : List Region) (n : ℕ) (l : length rs ≡ 16) (m : n ≤ 16) where
  used_length : length (entries_used rs n) ≡ 16
  unfolding entries_used
  used_length = simp (length-append, length-take, length-replicate) (omega arith)

  unused_region : (i : ℕ) → n ≤ i → region_at (entries_used rs n) i ≡ no_region
  unfolding entries_used
  unused_region i k =
      let e : i ≡ n + (i - n) = omega arith in
      ap (region_at (entries_used rs n)) e
      ∙ in_rest no_region (take n rs) (replicate (16 - n) no_region) n (i - n) (length-take-le n rs (omega arith))
      ∙ replicate_at (16 - n) (i - n) no_region

-- WHAT SUCH A BLOCK SAYS

module _ (t f : List ℕ) (m : word t 1 ≤ 16) (w : Written t f) where
  -- a word of a region in use, and of one that is not
  used_at : (k j o : ℕ) → k < 3 * word t 1 → 1 + k ≡ j → 6 + k ≡ o → word f j ≡ word t o
  used_at k j o l e g = ap (word f) (sym e) ∙ w.used k l ∙ ap (word t) g

  spare_at : (k j : ℕ) → 3 * word t 1 ≤ k → k < 48 → 1 + k ≡ j → word f j ≡ 0
  spare_at k j l q e = ap (word f) (sym e) ∙ w.spare k l q

  region_is : (i : ℕ) → i < 16 → region_in f (1 + 3 * i) ≡ region_at (entries_used (regions_in t 6) (word t 1)) i
  region_is i l =
      by_lt i (word t 1)
      (λ q. copied q ∙ sym (used_region (regions_in t 6) (word t 1) i q ∙ list_at no_region (λ k. region_in t (6 + 3 * k)) 16 i l))
      (λ q. empty q ∙ sym (unused_region (regions_in t 6) (word t 1) (runs_length (λ k. region_in t (6 + 3 * k) ∷ []) 1 (λ k. refl) 16) m i q))
    where
      copied : i < word t 1 → region_in f (1 + 3 * i) ≡ region_in t (6 + 3 * i)
      copied q =
          rw (
            used_at (3 * i) (1 + 3 * i) (6 + 3 * i) (omega arith) refl refl,
            used_at (3 * i + 1) (1 + 3 * i + 1) (6 + 3 * i + 1) (omega arith) (omega arith) (omega arith),
            used_at (3 * i + 2) (1 + 3 * i + 2) (6 + 3 * i + 2) (omega arith) (omega arith) (omega arith),
          )

      empty : word t 1 ≤ i → region_in f (1 + 3 * i) ≡ no_region
      empty q =
          rw (
            spare_at (3 * i) (1 + 3 * i) (omega arith) (omega arith) refl,
            spare_at (3 * i + 1) (1 + 3 * i + 1) (omega arith) (omega arith) (omega arith),
            spare_at (3 * i + 2) (1 + 3 * i + 2) (omega arith) (omega arith) (omega arith),
          )

  regions_are : regions_in f 1 ≡ entries_used (regions_in t 6) (word t 1)
  regions_are =
      let n = used_length (regions_in t 6) (word t 1) (runs_length (λ k. region_in t (6 + 3 * k) ∷ []) 1 (λ k. refl) 16) m in
      list_is no_region (λ i. region_in f (1 + 3 * i)) (entries_used (regions_in t 6) (word t 1)) 16 (omega arith) region_is
      ∙ take_all 16 (entries_used (regions_in t 6) (word t 1)) (omega arith)

  pools_are : pools_in f 49 ≡ pools_in t 2
  pools_are = rw (w.pool 0 (omega arith), w.pool 1 (omega arith), w.pool 2 (omega arith), w.pool 3 (omega arith))

  places_are : places_in f 54 ≡ replicate 4 idle_place
  unfolding runs
  places_are = rw (w.idle 0 (omega arith), w.idle 5 (omega arith), w.idle 10 (omega arith), w.idle 15 (omega arith))

  state_is : state_of f ≡ fresh_state (entries_used (regions_in t 6) (word t 1)) (word t 1) (pools_in t 2) (word t 0)
  unfolding state_of
  state_is =
      rw (
        regions_are,
        w.count,
        pools_are,
        w.unit,
        places_are,
        w.last,
        w.counts 0 (omega arith),
        w.counts 1 (omega arith),
        w.counts 2 (omega arith),
        w.counts 3 (omega arith),
        w.counts 4 (omega arith),
      )

  module _ (unit : word t 0 ≤ 255) (rights : regions_bounds t 6 (word t 1) ≡ true) where
    right_is : (i : ℕ) → i < 16 → leb (word f (1 + 3 * i + 2)) 3 ≡ true
    unfolding regions_bounds
    right_is i l =
        by_lt i (word t 1)
        (λ q. rw (used_at (3 * i + 2) (1 + 3 * i + 2) (6 + 3 * i + 2) (omega arith) (omega arith) (omega arith)) (all_at (λ j. leb (word t (6 + 3 * j + 2)) 3) (min (word t 1) 16) rights (omega arith)))
        (λ q. rw (spare_at (3 * i + 2) (1 + 3 * i + 2) (omega arith) (omega arith) (omega arith)))

    rights_are : regions_bounds f 1 (word f 0) ≡ true
    unfolding regions_bounds
    rights_are = all_of (λ i. leb (word f (1 + 3 * i + 2)) 3) (min (word f 0) 16) (λ i l. right_is i (omega arith))

    zero_place : (k at : ℕ) → k + 4 < 20 → 54 + k ≡ at → place_bounds f at ≡ true
    unfolding place_bounds
    zero_place k at l e = rw (at_zero 0 at (omega arith) (omega arith), at_zero 1 (at + 1) (omega arith) (omega arith), at_zero 2 (at + 2) (omega arith) (omega arith), at_zero 3 (at + 3) (omega arith) (omega arith), at_zero 4 (at + 4) (omega arith) (omega arith))
      where
        at_zero : (i j : ℕ) → i ≤ 4 → 54 + k + i ≡ j → word f j ≡ 0
        at_zero i j q g = let h : 54 + (k + i) ≡ j = omega arith in ap (word f) (sym h) ∙ w.idle (k + i) (omega arith)

    is_block_lem : is_block f ≡ true
    unfolding is_block
    is_block_lem =
        rw (
          eq-eqb (length f) 80 w.length_is,
          rights_are,
          w.unit,
          le-leb (word t 0) 255 unit,
          zero_place 0 54 (omega arith) refl,
          zero_place 5 59 (omega arith) refl,
          zero_place 10 64 (omega arith) refl,
          zero_place 15 69 (omega arith) refl,
          w.last,
          w.counts 0 (omega arith),
          w.counts 1 (omega arith),
          w.counts 2 (omega arith),
          w.counts 3 (omega arith),
          w.counts 4 (omega arith),
        )

    block_is : block_of (fresh_state (entries_used (regions_in t 6) (word t 1)) (word t 1) (pools_in t 2) (word t 0)) ≡ f
    block_is = let e = w.count in ap block_of (sym state_is) ∙ block_of_lem f (omega arith) is_block_lem (λ i l. leb-true (word f (1 + 3 * i + 2)) 3 (right_is i l))

-- START-UP

no_table : start_rules (replicate 16 no_region) 0 (replicate 2 no_range) 0 ≡ false
unfolding start_rules table_rules
no_table = refl

module _ (t : List ℕ) where
  -- a good table: its number of regions, and the block that it gives
  module _ (good : good_table t ≡ true) where
    is_table_lem : is_table t ≡ true
    unfolding good_table
    is_table_lem = and_left (is_table t) (start_rules (regions_in t 6) (word t 1) (pools_in t 2) (word t 0)) good

    rules : start_rules (regions_in t 6) (word t 1) (pools_in t 2) (word t 0) ≡ true
    unfolding good_table
    rules = and_right (is_table t) (start_rules (regions_in t 6) (word t 1) (pools_in t 2) (word t 0)) good

    pub count_low : word t 1 ≤ 16
    count_low =
        (table_count (regions_in t 6) (word t 1) (start_out (regions_in t 6) (word t 1) (pools_in t 2) (word t 0) rules).table).1

    fresh_block : length t ≡ 54
        → block_of (fresh_state (entries_used (regions_in t 6) (word t 1)) (word t 1) (pools_in t 2) (word t 0)) ≡ table_written t (block_of no_state)
    unfolding table_written is_table
    fresh_block n =
        let bounds = and_right (eqb (length t) 54) (leb (word t 0) 255 && regions_bounds t 6 (word t 1)) is_table_lem in
        let m = count_low in
        rw none_block
        (block_is t _ m (written t n m) (leb-true (word t 0) 255 (and_left (leb (word t 0) 255) (regions_bounds t 6 (word t 1)) bounds))
        (and_right (leb (word t 0) 255) (regions_bounds t 6 (word t 1)) bounds))

  broken : good_table t ≡ false → is_table t ≡ true → start_rules (regions_in t 6) (word t 1) (pools_in t 2) (word t 0) ≡ false
  unfolding good_table
  broken h e = rw e at h

  module _ (b : List ℕ) where
    pub other_state : length b ≢ 80 → (17 ≡ (lg_start_up t b).number) × (b ≡ (lg_start_up t b).state)
    unfolding lg_start_up
    other_state k = rw (ne_eqb (length b) 80 k) (refl, refl)

    pub other_table : length b ≡ 80 → (z : List ℕ) → z ≡ block_of no_state → length t ≢ 54 → (17 ≡ (lg_start_up t b).number) × (z ≡ (lg_start_up t b).state)
    unfolding lg_start_up table_of start_up is_table
    other_table k z ez n = rw (eq-eqb (length b) 80 k, ne_eqb (length t) 54 n, no_table) (refl, ez)

    module _ (n : length t ≡ 54) (k : length b ≡ 80) (g : Bool) (eg : g ≡ good_table t) (z : List ℕ) (ez : z ≡ block_of no_state) where
      pub not_taken : not g ≡ true → (17 ≡ (lg_start_up t b).number) × (z ≡ (lg_start_up t b).state)
      unfolding lg_start_up table_of start_up
      not_taken h =
          rw (eq-eqb (length b) 80 k)
          (either (is_table t)
          (λ e. rw (e, broken (sym eg ∙ not-true g h) e) (refl, ez))
          (λ e. rw (e, no_table) (refl, ez)))

      pub taken : not g ≡ false → (f : List ℕ) → f ≡ table_written t z → (0 ≡ (lg_start_up t b).number) × (f ≡ (lg_start_up t b).state)
      unfolding lg_start_up table_of start_up
      taken h f ef =
          let good : good_table t ≡ true = sym eg ∙ not-false g h in
          rw (eq-eqb (length b) 80 k, is_table_lem good, rules good)
          (refl, ef ∙ ap (table_written t) ez ∙ sym (fresh_block good n))

-- the writes of a table, one after the other
module _ (t b : List ℕ) (n : length t ≡ 54) (k : length b ≡ 80) (m : word t 1 ≤ 16) where
  pub all_written : (x u e : ℕ) → x ≡ word t 1 → u ≡ word t 0 → e ≡ 6 + 3 * x → (p q r s : List ℕ) → p ≡ set b 0 x
      → (1 + length (take (e - 6) (drop 6 t)) ≤ length p → q ≡ splice p 1 (take (e - 6) (drop 6 t)))
      → (49 + length (take 4 (drop 2 t)) ≤ length q → r ≡ splice q 49 (take 4 (drop 2 t)))
      → s ≡ set r 53 u → s ≡ table_written t b
  unfolding table_written
  all_written x u e ex eu ee p q r s ep hq hr es =
      let c : e - 6 ≡ 3 * word t 1 = omega arith in
      let lp : length p ≡ 80 = ap length ep ∙ length-set b 0 x ∙ k in
      let lv : length (take (e - 6) (drop 6 t)) ≡ 3 * word t 1 = rw c (regions_length t n m) in
      let fit : 1 + length (take (e - 6) (drop 6 t)) ≤ length p = omega arith in
      let eq = hq fit in
      let lq : length q ≡ 80 = ap length eq ∙ splice_length p 1 (take (e - 6) (drop 6 t)) fit ∙ lp in
      let lw = pools_length t n m in
      let er = hr (omega arith) in
      rw (es, er, eq, ep, c, ex, eu)
