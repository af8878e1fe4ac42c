-- What the words of a place say that it does, and a place written.
-- Assumes nothing.
use Rattle.std.specs.Prelude.{Option, None, Some, unwrap_or, MatchOption}
use mathlib.Core.Path.{◌≡◌, refl, sym, ap, ◌∙◌}
use mathlib.Core.Logic.{◌≢◌}
use mathlib.Core.Bool.{Bool, true, false, ◌&&◌, ◌||◌}
use mathlib.Core.List.{List, [], ◌∷◌}
use Prim.Native.Nat.{ℕ, ◌+◌, ◌*◌, ◌%◌, ◌≤◌, ◌<◌, min}
use native.Mathlib.Omega.{arith}
use lib.Dec.{leb, eqb}
use lib.ListN.{length}
use borrow.Author.Tests.{le-leb, lt-leb, lt-ltb, le-ltb, eq-eqb, ne_eqb}
use Rattle.lists.specs.Splice.{splice}
use Rattle.rules.specs.Commands.{is_idle, first_idle}
use Rattle.rules.specs.States.{context_at, busy_with, idle_place}
use Rattle.rules.specs.declared.Context.{Context}
use Rattle.rules.specs.declared.Context.TheVariants.{Idle, Busy}
use Rattle.rules.specs.declared.Place.{Place}
use Rattle.rules.specs.declared.Range.{Range}
use Rattle.lists.specs.Below.{first_below}
use Rattle.lists.proofs.Below.{none_of, first_none, first_is, first_same}
use Rattle.lists.proofs.Tests.{either, by_lt}
use Rattle.rules.proofs.Good.{context_past}
use Rattle.block.specs.Blocks.{context_words, word, range_in, context_in, place_in, places_in, place_bounds}
use Rattle.block.proofs.Lengths.{context_words_length}
use Rattle.block.proofs.Runs.{runs_length, list_at}
use Rattle.lent_places.specs.Reading.{context_read, places_read}
use Rattle.lent_places.specs.Writing.{placed}

or-false : (a : Bool) → (a || false) ≡ a
or-false true = refl
or-false false = refl

-- A PLACE BY ITS WORDS

module _ (b : List ℕ) where
  pub past_read : (i : ℕ) → 4 ≤ i → Idle ≡ context_at (places_read b) i
  unfolding places_read
  past_read i l =
      let n = runs_length {A = Place} (λ j. record { context = context_read (context_in b (5 * j)) } ∷ []) 1 (λ j. refl) 4 in
      sym (context_past (places_read b) i (omega arith))

  pub past_with : (t i : ℕ) → 4 ≤ i → busy_with t (context_at (places_in b 0) i) ≡ false
  past_with t i l =
      let n = runs_length (λ j. place_in b (0 + 5 * j) ∷ []) 1 (λ j. refl) 4 in
      ap (busy_with t) (context_past (places_in b 0) i (omega arith))

  -- the answer of a search over the places below k
  module _ (t k n : ℕ) (e : n ≡ min k 4) where
    abbrev pub with : ℕ → Bool
    with i = busy_with t (context_at (places_in b 0) i)

    pub first_with_is : (r : Option ℕ)
        → MatchOption r ((j : ℕ) → 0 ≤ j → j < n → with j ≡ false) (λ i. (0 ≤ i) × (i < n) × (with i ≡ true) × ((j : ℕ) → 0 ≤ j → j < i → with j ≡ false))
        → unwrap_or r k ≡ first_below with k
    first_with_is None h = sym (first_none with k (none_of with k (λ i l. by_lt i 4 (λ m. h i (omega arith) (omega (arith, e))) (λ m. past_with t i m))))
    first_with_is (Some i) h = sym (first_is with k (omega (arith, e, h.1)) h.2 (λ j l. h.3 j (omega arith) l))

  does : (i : ℕ) → i < 4 → context_at (places_in b 0) i ≡ context_in b (5 * i)
  does i l =
      let z : 0 + 5 * i ≡ 5 * i = omega arith in
      ap (λ (p : Place). p.context) (list_at {A = Place} idle_place (λ j. place_in b (0 + 5 * j)) 4 i l) ∙ ap (context_in b) z

  pub number_word : (i t w x : ℕ) → i < 4 → w ≡ word b (5 * i) → x ≡ word b (5 * i + 1) → (eqb w 1 && eqb x t) ≡ busy_with t (context_at (places_in b 0) i)
  number_word i t w x l ew ex = rw (does i l, ← ew, ← ex) (either (eqb w 1) (λ h. rw h) (λ h. rw h))

  module _ (i : ℕ) (l : i < 4) where
    does_read : context_at (places_read b) i ≡ context_read (context_in b (5 * i))
    unfolding places_read
    does_read = ap (λ (p : Place). p.context) (list_at {A = Place} idle_place (λ j. record { context = context_read (context_in b (5 * j)) }) 4 i l)

    module _ (w : ℕ) (ew : w ≡ word b (5 * i)) where
      pub idle_read : w ≢ 1 → Idle ≡ context_at (places_read b) i
      idle_read n = rw (does_read, ← ew, ne_eqb w 1 n)

      pub busy_read : w ≡ 1 → (t : ℕ) → t ≡ word b (5 * i + 1) → (r : Range) → r ≡ range_in b (5 * i + 2) → (z : ℕ) → z ≡ word b (5 * i + 4)
          → Busy (record { transaction = t % 65536; range = r; sent = z }) ≡ context_at (places_read b) i
      busy_read one t et r er z ez = rw (does_read, ← ew, one, et, er, ez)

  -- of a place that is read only the number may differ, so the lowest idle one is the same
  pub first_idle_read : first_idle (places_read b) ≡ first_idle (places_in b 0)
  unfolding first_idle
  first_idle_read =
      first_same (λ i. is_idle (context_at (places_read b) i)) (λ i. is_idle (context_at (places_in b 0) i)) 4
      (λ i l. rw (does_read i l, does i l) (either (eqb (word b (5 * i)) 1) (λ h. rw h) (λ h. rw h)))

  -- its bounds, by the first word
  module _ (i z : ℕ) (l : i < 4) (ez : z ≡ word b (5 * i)) where
    pub idle_bounds : z ≡ 0 → (eqb (word b (5 * i + 1)) 0 && eqb (word b (5 * i + 2)) 0 && eqb (word b (5 * i + 3)) 0 && eqb (word b (5 * i + 4)) 0) ≡ (leb 4 i || place_bounds b (5 * i))
    unfolding place_bounds
    idle_bounds e = rw (lt-leb 4 i l, ← ez, e) (sym (or-false _))

    pub busy_bounds : z ≡ 1 → leb (word b (5 * i + 1)) 65535 ≡ (leb 4 i || place_bounds b (5 * i))
    unfolding place_bounds
    busy_bounds e = rw (lt-leb 4 i l, ← ez, e) refl

    pub other_bounds : z ≢ 0 → z ≢ 1 → false ≡ (leb 4 i || place_bounds b (5 * i))
    unfolding place_bounds
    other_bounds n m = rw (lt-leb 4 i l, ← ez, ne_eqb z 0 n, ne_eqb z 1 m) refl

  pub past_bounds : (i : ℕ) → 4 ≤ i → true ≡ (leb 4 i || place_bounds b (5 * i))
  past_bounds i l = rw (le-leb 4 i l)

-- A PLACE WRITTEN

module _ (b : List ℕ) (i : ℕ) (c : Context) where
  pub other_length : length b ≢ 80 → b ≡ placed b i c
  unfolding placed
  other_length n = rw (ne_eqb (length b) 80 n)

  pub no_place : length b ≡ 80 → 4 ≤ i → b ≡ placed b i c
  unfolding placed
  no_place n l = rw (eq-eqb (length b) 80 n, le-ltb i 4 l)

  -- the five words are put where they are to be
  pub place_written : length b ≡ 80 → i < 4 → {v b' : List ℕ} → v ≡ context_words c
      → (54 + 5 * i + length v ≤ length b → b' ≡ splice b (54 + 5 * i) v) → b' ≡ placed b i c
  unfolding placed
  place_written n l {v} {b'} ev h =
      let k : length v ≡ 5 = ap length ev ∙ context_words_length c in
      rw (eq-eqb (length b) 80 n, lt-ltb i 4 l) (h (omega arith) ∙ ap (splice b (54 + 5 * i)) ev)
