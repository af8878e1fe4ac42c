-- The good test of a block of 80 words by its parts, and what the parts of a block that passes say of its state.
-- Assumes nothing.
use Rattle.std.specs.Prelude.{Option, Result}
use mathlib.Core.Path.{◌≡◌, refl, sym, ◌∙◌}
use mathlib.Core.Logic.{◌≢◌}
use mathlib.Core.Bool.{Bool, true, false, ◌&&◌, not, cond}
use mathlib.Core.List.{List, [], ◌∷◌}
use Prim.Native.Nat.{ℕ, zero, suc, ◌+◌, ◌*◌, ◌%◌, ◌≤◌, min}
use native.Mathlib.Omega.{arith}
use lib.Dec.{leb}
use lib.ListN.{length, take, drop, length-take, get_or-eq_default}
use borrow.Author.Tests.{le-leb, leb-true, eq-eqb, not-true, not-false}
use Rattle.lists.proofs.Tests.{either, and_left, and_right, and_both}
use Rattle.rules.specs.Commands.{first_idle, first_with}
use Rattle.rules.specs.Regions.{table_rules, image_length}
use Rattle.rules.specs.States.{pool_at, start_rules, places_rules, count_rules, good_state}
use Rattle.rules.specs.declared.Range.{Range}
use Rattle.rules.specs.declared.WordIndex.{WordIndex}
use Rattle.rules.proofs.Located.{good_table}
use Rattle.regions.specs.Halving.{find_by_halving}
use Rattle.regions.specs.Lookup.{find_region, word_index}
use Rattle.regions.specs.declared.Miss.{Miss}
use Rattle.regions.specs.declared.Spot.{Spot}
use Rattle.regions.proofs.Answers.{found_in_order}
use Rattle.places.specs.Turns.{first_within, next_turn}
use Rattle.places.specs.declared.Seat.{Seat}
use Rattle.block.specs.Blocks.{word, range_in, regions_in, pools_in, place_in, places_in, state_of, regions_bounds, places_bounds, counts_bounds, is_block}
use Rattle.block.proofs.Bounds.{four_out, block_out}
use Rattle.block.proofs.GoodWords.{block_is, state_is}
use Rattle.block.proofs.Parts.{places_part, range_part, regions_part, rights_part}
use Rattle.block.proofs.Runs.{runs_length}
use Rattle.lent_places.specs.Reading.{places_read}
use Rattle.lent_places.proofs.Answers.{bounded_places}
use Rattle.state.proofs.Answers.{start_words_none, start_words_some}
use Rattle.state.proofs.Steps.{start_table}

same_tests : (a b : Bool) → (a ≡ true → b ≡ true) → (b ≡ true → a ≡ true) → a ≡ b
same_tests true b f g = sym (f refl)
same_tests false true f g = g refl
same_tests false false f g = refl

module _ (b : List ℕ) where
  -- THE GOOD TEST: the words by themselves, what start-up tests, the places

  abbrev words : Bool
  words = regions_bounds b 1 (word b 0) && leb (word b 53) 255 && count_rules (state_of b)

  abbrev start : Bool
  start = start_rules (regions_in b 1) (word b 0) (pools_in b 49) (word b 53)

  abbrev places : Bool
  places = places_bounds b && places_rules (regions_in b 1) (word b 0) (places_in b 54)

  -- counts by the rules fit their types
  counts_fit : count_rules (state_of b) ≡ true → counts_bounds b ≡ true
  unfolding state_of count_rules
  counts_fit h =
      let l = leb (word b 74) 3 in
      let p = leb (word b 75) 16383 in
      let v = leb (word b 79) 16383 in
      let d = leb (word b 76) 16383 in
      let a = leb (word b 77) 65535 in
      let r = leb (word b 78) 65535 in
      let five = and_left (l && p && v && d && a) r h in
      let f = four_out l p v d (and_left (l && p && v && d) a five) in
      let last = leb-true (word b 74) 3 f.first in
      let replies = leb-true (word b 75) 16383 f.second in
      let values = leb-true (word b 79) 16383 f.third in
      let packets = leb-true (word b 76) 16383 f.fourth in
      rw (
        le-leb (word b 74) 255 (omega arith),
        le-leb (word b 75) 65535 (omega arith),
        le-leb (word b 76) 65535 (omega arith),
        and_right (l && p && v && d) a five,
        and_right (l && p && v && d && a) r h,
        le-leb (word b 79) 65535 (omega arith),
      )

  module _ (n : length b ≡ 80) where
    good_is : (is_block b && good_state (state_of b)) ≡ (words && (start && places))
    unfolding is_block state_of good_state
    good_is = same_tests _ _ there back
      where
        there : (is_block b && good_state (state_of b)) ≡ true → (words && (start && places)) ≡ true
        there h =
            let bounds = block_out b (block_is b h) in
            let good = state_is b h in
            let counts = count_rules (state_of b) in
            let rest = places_rules (regions_in b 1) (word b 0) (places_in b 54) in
            let first = and_left (start && counts) rest good in
            let begin = and_left start counts first in
            and_both (and_both (and_both bounds.regions (le-leb (word b 53) 255 bounds.unit)) (and_right start counts first))
            (and_both begin (and_both bounds.places (and_right (start && counts) rest good)))

        back : (words && (start && places)) ≡ true → (is_block b && good_state (state_of b)) ≡ true
        back h =
            let own = and_left words (start && places) h in
            let rest = and_right words (start && places) h in
            let counts = count_rules (state_of b) in
            let first = regions_bounds b 1 (word b 0) && leb (word b 53) 255 in
            let count = and_right first counts own in
            let each = and_right start places rest in
            let rules = places_rules (regions_in b 1) (word b 0) (places_in b 54) in
            and_both
            (and_both (eq-eqb (length b) 80 n)
            (and_both (and_both (and_left first counts own) (and_left (places_bounds b) rules each)) (counts_fit count)))
            (and_both (and_both (and_left start places rest) count) (and_right (places_bounds b) rules each))

    -- THE STEPS: w as start-up's words are, the unit cut to a byte; r, k and v as the table, the counts and the words of the table are
    module _ (v : List ℕ) (ev : v ≡ take 48 (drop 1 b)) (p q : Range) (ep : p ≡ range_in b 49) (eq : q ≡ range_in b 51) (w : ℕ)
        (ew : w ≡ cond (start_rules (regions_in v 0) (word b 0) (p ∷ q ∷ []) (word b 53 % 256)) (image_length (regions_in v 0) (word b 0)) 0) where
      start_of_unit : leb (word b 53) 255 ≡ true → w ≡ cond start (image_length (regions_in b 1) (word b 0)) 0
      start_of_unit u =
          let l = leb-true (word b 53) 255 u in
          let e : word b 53 % 256 ≡ word b 53 = omega arith in
          rw (ev, regions_part b 1, ep, eq, e) at ew

      pub start_refused : w ≡ 0 → 0 ≡ cond (is_block b && good_state (state_of b)) (image_length (state_of b).regions (state_of b).count) 0
      start_refused z =
          either (leb (word b 53) 255)
          (λ u.
          let e = start_words_none (regions_in b 1) (word b 0) (pools_in b 49) (word b 53) w (start_of_unit u) z in
          either words (λ h. rw (good_is, h, e)) (λ h. rw (good_is, h)))
          (λ u. either (regions_bounds b 1 (word b 0)) (λ h. rw (good_is, h, u)) (λ h. rw (good_is, h)))

    module _ (v : List ℕ) (ev : v ≡ take 48 (drop 1 b)) (r k : Bool) (er : r ≡ regions_bounds v 0 (word b 0)) (ek : k ≡ count_rules (state_of b)) where
      words_are : (r && leb (word b 53) 255 && k) ≡ words
      words_are = rw (er, ev, ek, rights_part b 1 (word b 0))

      pub words_refused : not (r && leb (word b 53) 255 && k) ≡ true → 0 ≡ cond (is_block b && good_state (state_of b)) (image_length (state_of b).regions (state_of b).count) 0
      words_refused h = let e : words ≡ false = sym words_are ∙ not-true (r && leb (word b 53) 255 && k) h in rw (good_is, e)

      module _ (h : not (r && leb (word b 53) 255 && k) ≡ false) (p q : Range) (ep : p ≡ range_in b 49) (eq : q ≡ range_in b 51) (w : ℕ)
          (ew : w ≡ cond (start_rules (regions_in v 0) (word b 0) (p ∷ q ∷ []) (word b 53 % 256)) (image_length (regions_in v 0) (word b 0)) 0) where
        words_pass : words ≡ true
        words_pass = sym words_are ∙ not-false (r && leb (word b 53) 255 && k) h

        start_is : w ≡ cond start (image_length (regions_in b 1) (word b 0)) 0
        start_is =
            let bounds = and_left (regions_bounds b 1 (word b 0) && leb (word b 53) 255) (count_rules (state_of b)) words_pass in
            start_of_unit v ev p q ep eq w ew (and_right (regions_bounds b 1 (word b 0)) (leb (word b 53) 255) bounds)

        module _ (s : w ≢ 0) (x y : Bool) (ex : x ≡ places_bounds b)
            (ey : table_rules (regions_in v 0) (word b 0) ≡ true → length (places_read (take 20 (drop 54 b))) ≡ 4
            → y ≡ places_rules (regions_in v 0) (word b 0) (places_read (take 20 (drop 54 b)))) where
          start_passed : (start ≡ true) × (w ≡ image_length (regions_in b 1) (word b 0))
          start_passed = start_words_some (regions_in b 1) (word b 0) (pools_in b 49) (word b 53) w start_is s

          places_are : (x && y) ≡ places
          places_are = either (places_bounds b) (λ e. rw (ex, e, tested e)) (λ e. rw (ex, e))
            where
              tested : places_bounds b ≡ true → y ≡ places_rules (regions_in b 1) (word b 0) (places_in b 54)
              tested e =
                  let table = start_table (regions_in b 1) (word b 0) (pools_in b 49) (word b 53) start_passed.0 in
                  let four = runs_length (λ i. place_in b (54 + 5 * i) ∷ []) 1 (λ i. refl) 4 in
                  (rw (ev, regions_part b 1, bounded_places b e) at ey) table four

          pub places_refused : not (x && y) ≡ true → 0 ≡ cond (is_block b && good_state (state_of b)) (image_length (state_of b).regions (state_of b).count) 0
          places_refused g =
              let e : places ≡ false = sym places_are ∙ not-true (x && y) g in
              rw (good_is, words_pass, start_passed.0, e)

          pub all_passed : not (x && y) ≡ false → w ≡ cond (is_block b && good_state (state_of b)) (image_length (state_of b).regions (state_of b).count) 0
          unfolding state_of
          all_passed g =
              let e : places ≡ true = sym places_are ∙ not-false (x && y) g in
              start_passed.1 ∙ rw (good_is, words_pass, start_passed.0, e)

        -- a word of a place out of its bounds
        pub bounds_refused : w ≢ 0 → (x : Bool) → x ≡ places_bounds b → not x ≡ true
            → 0 ≡ cond (is_block b && good_state (state_of b)) (image_length (state_of b).regions (state_of b).count) 0
        bounds_refused s x ex g =
            let e : x ≡ false = not-true x g in
            places_refused s x (places_rules (regions_in v 0) (word b 0) (places_read (take 20 (drop 54 b)))) ex (λ h four. refl) (rw e)

  -- A GOOD BLOCK

  module _ (good : (is_block b && good_state (state_of b)) ≡ true) where
    -- words that fit their types
    pub unit_fits : word b 53 % 256 ≡ (state_of b).unit
    unfolding state_of
    unit_fits = let l = (block_out b (block_is b good)).unit in omega arith

    pub replies_fit : word b 75 % 65536 ≡ (state_of b).replies
    unfolding state_of
    replies_fit = let l = (block_out b (block_is b good)).counts.replies in omega arith

    pub values_fit : word b 79 % 65536 ≡ (state_of b).values
    unfolding state_of
    values_fit = let l = (block_out b (block_is b good)).counts.values in omega arith

    pub packets_fit : word b 76 % 65536 ≡ (state_of b).packets
    unfolding state_of
    packets_fit = let l = (block_out b (block_is b good)).counts.packets in omega arith

    -- the region that holds a range, and where a range that region k holds begins in the image: v as the words of the table are
    module _ (v : List ℕ) (ev : v ≡ take 48 (drop 1 b)) where
      pub found_in : (a : Range) {f : Result Spot Miss} → f ≡ find_by_halving (regions_in v 0) (min (word b 0) 16) a
          → f ≡ find_region (state_of b).regions (state_of b).count a
      unfolding state_of
      found_in a e = found_in_order (regions_in b 1) (word b 0) a (rw (ev, regions_part b 1) at e) (good_table (state_of b) (state_is b good))

    -- the places as they are read
    places_as_read : places_read (take 20 (drop 54 b)) ≡ (state_of b).places
    unfolding state_of
    places_as_read = bounded_places b (block_out b (block_is b good)).places

    pub with_in : (t : ℕ) {i : ℕ} → i ≡ first_within (places_in (take 20 (drop 54 b)) 0) t 4 → i ≡ first_with t (state_of b).places
    unfolding first_within first_with state_of
    with_in t e = rw (places_part b 54) at e

    pub idle_in : {i : ℕ} → i ≡ first_idle (places_read (take 20 (drop 54 b))) → i ≡ first_idle (state_of b).places
    idle_in e = rw places_as_read at e

    pub turn_in : {r : Option Seat} → r ≡ next_turn (places_read (take 20 (drop 54 b))) (word b 74) → r ≡ next_turn (state_of b).places (state_of b).last
    unfolding state_of
    turn_in e = rw places_as_read at e

  pub index_in : (v : List ℕ) → v ≡ take 48 (drop 1 b) → (k : ℕ) (a : Range) {x : WordIndex} → x ≡ word_index (regions_in v 0) k a
      → x ≡ word_index (state_of b).regions k a
  unfolding state_of
  index_in v ev k a e = rw (ev, regions_part b 1) at e

  -- the range of pool i
  pub pool_in : (i : ℕ) → range_in (take 4 (drop 49 b)) (2 * i) ≡ pool_at (state_of b).pools i
  unfolding state_of
  pool_in zero = range_part b 49 4 0 49 (omega arith) refl
  pool_in (suc zero) = range_part b 49 4 2 51 (omega arith) refl
  pool_in (suc (suc i)) = rw (past (2 * suc (suc i)) (omega arith), past (2 * suc (suc i) + 1) (omega arith))
    where
      past : (j : ℕ) → 4 ≤ j → word (take 4 (drop 49 b)) j ≡ 0
      past j l = get_or-eq_default (take 4 (drop 49 b)) 0 (simp length-take (omega arith))
