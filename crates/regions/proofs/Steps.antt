-- One turn of each loop over the table, and what the loops end with.
-- Assumes nothing.
use mathlib.Core.Path.{◌≡◌, refl, sym, ◌∙◌}
use mathlib.Core.Bool.{Bool, true, false, ◌&&◌, ◌||◌, and-true}
use mathlib.Core.List.{List}
use Prim.Native.Nat.{ℕ, zero, suc, ◌+◌, ◌-◌, ◌/◌, ◌≤◌, ◌<◌}
use native.Mathlib.Numerals.{add-one}
use native.Mathlib.Omega.{arith}
use lib.Dec.{leb, ltb, eqb}
use lib.ListN.{length}
use borrow.Author.Tests.{ltb-false, eqb-false, ne_eqb, le-leb, lt-leb, lt-ltb, le-ltb}
use Rattle.lists.specs.Below.{all_below}
use Rattle.lists.proofs.Tests.{either, contra, and_right, or_left, or_right}
use Rattle.lists.proofs.Below.{all_at, sum_more}
use Rattle.rules.specs.Regions.{end_of, within, region_at, range_at, end_before, region_rules, table_rules, any_right, holds, first_of, words_below, image_length}
use Rattle.rules.proofs.Table.{table_count}
use Rattle.rules.specs.declared.Range.{Range}
use Rattle.rules.specs.declared.Region.{Region}
use Rattle.regions.specs.Halving.{middle, next_first, one_left, comparisons, is_short, candidate, region_by_halving, compared, find_by_halving}
use Rattle.regions.specs.Lookup.{table_words}
use Rattle.regions.specs.declared.Miss.TheVariants.{StartsOutside, EndsOutside}
use Rattle.std.specs.Prelude.{Ok, Err}
use Rattle.regions.proofs.InOrder.{left_end, left_round, compared_end, compared_round, few, reach}

-- THE TABLE'S TEST

module _ (rs : List Region) (n : ℕ) where
  table_not : (table_rules rs n ≡ true → ⊥) → 0 ≡ table_words rs n
  unfolding table_words
  table_not f = either (table_rules rs n) (λ e. absurd (f e)) (λ e. rw e)

  -- no region, or too many
  pub table_outside : (eqb n 0 || ltb 16 n) ≡ true → 0 ≡ table_words rs n
  table_outside h =
      table_not (λ e. let c = table_count rs n e in contra h (rw (ne_eqb n 0 (λ z. omega arith), le-ltb 16 n c.1)))

  pub table_inside : (eqb n 0 || ltb 16 n) ≡ false → (1 ≤ n) × (n ≤ 16)
  table_inside h =
      let some = eqb-false n 0 (or_left (eqb n 0) (ltb 16 n) h) in
      let most = ltb-false 16 n (or_right (eqb n 0) (ltb 16 n) h) in
      (omega arith, most)

  -- a region that breaks a rule
  pub table_broken : (i : ℕ) → i < n → region_rules rs i ≡ false → 0 ≡ table_words rs n
  unfolding table_rules
  table_broken i l h =
      table_not (λ e. contra (all_at (region_rules rs) n (and_right (leb 1 n && leb n 16) (all_below (region_rules rs) n) e) l) h)

  -- none does
  pub table_kept : 1 ≤ n → n ≤ 16 → all_below (region_rules rs) n ≡ true → image_length rs n ≡ table_words rs n
  unfolding table_words table_rules
  table_kept o m h = rw (le-leb 1 n o, le-leb n 16 m, h)

-- ONE TURN

module _ (rs : List Region) (i : ℕ) where
  pub end_more : end_of (range_at rs i) ≡ end_before rs (i + 1)
  end_more = rw (add-one i)

  pub words_more : words_below rs i + (range_at rs i).words ≡ words_below rs (i + 1)
  unfolding words_below
  words_more = sym (sum_more (λ k. (range_at rs k).words) i)

-- THE SEARCH

-- the regions that are left, what the rounds to come make of them, and how many were compared, the last one included
pub record Left (short : ℕ → Bool) (m first left count : ℕ) : Type 0 where
  pub rounds : ℕ
  pub most : left ≤ reach rounds
  pub fits : first + left ≤ 16
  pub low : first < 16
  pub same : one_left short rounds first left ≡ one_left short 4 0 m
  pub counted : count + length (comparisons short rounds first left) ≡ 1 + length (comparisons short 4 0 m)

module _ (short : ℕ → Bool) (m : ℕ) where
  pub all_left : m ≤ 16 → Left short m 0 m 1
  all_left l = record { rounds = 4; most = l; fits = omega arith; low = omega arith; same = refl; counted = refl }

  -- one round
  pub half_left : (first left count : ℕ) → Left short m first left count → 1 < left → (next : ℕ) → next ≡ next_first short first left
      → Left short m next (left - left / 2) (count + 1)
  half_left first left count w l next e = on w.rounds w.most w.same w.counted
    where
      room : (next + (left - left / 2) ≤ 16) × (next < 16)
      room =
          let f = w.fits in
          either (short (middle first left))
          (λ h. let g : next ≡ first + left / 2 = e ∙ rw h in (omega arith, omega arith))
          (λ h. let g : next ≡ first = e ∙ rw h in (omega arith, omega arith))

      on : (k : ℕ) → left ≤ reach k → one_left short k first left ≡ one_left short 4 0 m
          → count + length (comparisons short k first left) ≡ 1 + length (comparisons short 4 0 m) → Left short m next (left - left / 2) (count + 1)
      on zero q h n = absurd (omega arith)
      on (suc k) q h n =
          let c = compared_round short first left k l in
          record {
            rounds = k;
            most = omega arith;
            fits = room.0;
            low = room.1;
            same = rw e (sym (left_round short first left k l) ∙ h);
            counted = rw e (omega arith);
          }

  pub one_left_lem : (first left count : ℕ) → Left short m first left count → left ≤ 1 → first ≡ one_left short 4 0 m
  one_left_lem first left count w l = sym (left_end short first left w.rounds l) ∙ w.same

  pub all_counted : (first left count : ℕ) → Left short m first left count → left ≤ 1 → count ≡ length (comparisons short 4 0 m)
  all_counted first left count w l = let c = compared_end short first left w.rounds l in let n = w.counted in omega arith

  pub count_low : (first left count : ℕ) → Left short m first left count → count ≤ 6
  count_low first left count w = let f = few short 4 0 m in let n = w.counted in omega arith

module _ (rs : List Region) (a : Range) where
  -- the test of a round
  pub on_short : (first left : ℕ) → end_of (range_at rs (middle first left)) < end_of a → first + left / 2 ≡ next_first (is_short rs a) first left
  on_short first left l = rw (lt-ltb (end_of (range_at rs (middle first left))) (end_of a) l)

  pub on_long : (first left : ℕ) → end_of a ≤ end_of (range_at rs (middle first left)) → first ≡ next_first (is_short rs a) first left
  on_long first left l = rw (le-ltb (end_of (range_at rs (middle first left))) (end_of a) l)

  pub compared_is : (m : ℕ) {count : ℕ} → count ≡ length (comparisons (is_short rs a) 4 0 m) → count ≡ length (compared rs m a)
  unfolding compared
  compared_is m e = e

  -- the region that is left holds the range, or does not
  module _ (m k : ℕ) (ek : k ≡ one_left (is_short rs a) 4 0 m) where
    is_left : candidate rs m a ≡ k
    unfolding candidate one_left
    is_left = sym ek

    held_is : within a (range_at rs k) ≡ holds any_right rs a k
    held_is = sym (and-true _)

    pub region_held : within a (range_at rs k) ≡ true → k ≡ region_by_halving rs m a
    unfolding region_by_halving
    region_held h = rw (is_left, sym held_is ∙ h)

    pub region_none : within a (range_at rs k) ≡ false → m ≡ region_by_halving rs m a
    unfolding region_by_halving
    region_none h = rw (is_left, sym held_is ∙ h)

-- THE LOOKUP, by the region that the search gave
module _ (rs : List Region) (m : ℕ) (a : Range) (k : ℕ) (ek : k ≡ region_by_halving rs m (first_of a)) where
  pub found_none : m ≤ k → Err StartsOutside ≡ find_by_halving rs m a
  unfolding find_by_halving
  found_none l = rw (← ek, le-ltb k m l)

  pub found_short : k < m → end_of (range_at rs k) < end_of a → Err EndsOutside ≡ find_by_halving rs m a
  unfolding find_by_halving
  found_short l q = rw (← ek, lt-ltb k m l, lt-leb (end_of a) (end_of (range_at rs k)) q)

  pub found_at : k < m → end_of a ≤ end_of (range_at rs k)
      → Ok (record { region = k; load = (region_at rs k).load; dump = (region_at rs k).dump }) ≡ find_by_halving rs m a
  unfolding find_by_halving
  found_at l q = rw (← ek, lt-ltb k m l, le-leb (end_of a) (end_of (range_at rs k)) q)
