-- A block that is a state is the block of that state, but for the words of entries not in use.
-- Assumes nothing.
use mathlib.Core.Path.{◌≡◌, refl, sym, ap, ◌∙◌}
use mathlib.Core.Bool.{Bool, true, false, ◌&&◌, ◌||◌}
use mathlib.Core.List.{List, [], ◌∷◌, ◌++◌}
use Prim.Native.Nat.{ℕ, zero, suc, ◌+◌, ◌*◌, ◌-◌, ◌%◌, ◌≤◌, ◌<◌, min}
use native.Mathlib.Omega.{arith}
use lib.Dec.{leb, eqb}
use lib.ListN.{length, take, drop, length-append, length-take, length-drop}
use lib.Seq.{take_all, take-append-add}
use borrow.Author.Tests.{leb-true, eqb-true}
use Rattle.lists.proofs.Tests.{either, and_left, and_right}
use Rattle.lists.proofs.Below.{all_at}
use Rattle.rules.specs.Regions.{no_region, region_at}
use Rattle.rules.specs.States.{context_at, idle_place}
use Rattle.rules.specs.declared.Place.{Place}
use Rattle.rules.specs.declared.Region.{Region}
use Rattle.block.specs.Blocks.{rights_word, region_words, context_words, regions_words, pools_words, places_words, block_of, word, region_in, context_in, place_in, regions_in, pools_in, places_in, state_of, regions_bounds, place_bounds, is_block, unused_from, block_over}
use Rattle.block.specs.Runs.{runs}
use Rattle.block.proofs.Runs.{runs_take, list_at, front_more, front_runs}
use Rattle.block.proofs.Writes.{write_left, write_to_end, front_whole}
use Rattle.block.proofs.Bounds.{four_out, places_out, BlockBounds, block_out}
use Rattle.block.proofs.Lengths.{context_words_length, regions_words_length}

rights_forth : (w : ℕ) → w ≤ 3 → rights_word (eqb (w % 2) 1) (leb 2 w) ≡ w
rights_forth zero h = refl
rights_forth (suc zero) h = refl
rights_forth (suc (suc zero)) h = refl
rights_forth (suc (suc (suc zero))) h = refl
rights_forth (suc (suc (suc (suc w)))) h = absurd (omega arith)

module _ (b : List ℕ) (at : ℕ) where
  first : word b at ≡ word b (at + 0)
  first = let z : at ≡ at + 0 = omega arith in ap (word b) z

  region_forth : word b (at + 2) ≤ 3 → (k : ℕ) → k < 3 → word (region_words (region_in b at)) k ≡ word b (at + k)
  region_forth h zero l = first
  region_forth h (suc zero) l = refl
  region_forth h (suc (suc zero)) l = rights_forth (word b (at + 2)) h
  region_forth h (suc (suc (suc k))) l = absurd (omega arith)

  -- the five words of an idle place
  pub record FiveZeros : Type 0 where
    pub busy : word b at ≡ 0
    pub transaction : word b (at + 1) ≡ 0
    pub start : word b (at + 2) ≡ 0
    pub words : word b (at + 3) ≡ 0
    pub sent : word b (at + 4) ≡ 0

  five_zeros : place_bounds b at ≡ true → eqb (word b at) 1 ≡ false → FiveZeros
  unfolding place_bounds
  five_zeros h n =
      let p = eqb (word b at) 0 in
      let q = eqb (word b (at + 1)) 0 in
      let r = eqb (word b (at + 2)) 0 in
      let s = eqb (word b (at + 3)) 0 in
      let t = eqb (word b (at + 4)) 0 in
      let all : (p && q && r && s && t) ≡ true = or_first (p && q && r && s && t) (rw n at h) in
      let f = four_out p q r s (and_left (p && q && r && s) t all) in
      record {
        busy = eqb-true (word b at) 0 f.first;
        transaction = eqb-true (word b (at + 1)) 0 f.second;
        start = eqb-true (word b (at + 2)) 0 f.third;
        words = eqb-true (word b (at + 3)) 0 f.fourth;
        sent = eqb-true (word b (at + 4)) 0 (and_right (p && q && r && s) t all);
      }
    where
      or_first : (x : Bool) → (x || false) ≡ true → x ≡ true
      or_first true e = refl
      or_first false e = e

  idle_forth : eqb (word b at) 1 ≡ false → FiveZeros → (k : ℕ) → k < 5 → word (context_words (context_in b at)) k ≡ word b (at + k)
  idle_forth n z zero l = rw n (sym z.busy ∙ first)
  idle_forth n z (suc zero) l = rw n (sym z.transaction)
  idle_forth n z (suc (suc zero)) l = rw n (sym z.start)
  idle_forth n z (suc (suc (suc zero))) l = rw n (sym z.words)
  idle_forth n z (suc (suc (suc (suc zero)))) l = rw n (sym z.sent)
  idle_forth n z (suc (suc (suc (suc (suc k))))) l = absurd (omega arith)

  busy_forth : eqb (word b at) 1 ≡ true → (k : ℕ) → k < 5 → word (context_words (context_in b at)) k ≡ word b (at + k)
  busy_forth n zero l = rw n (sym (eqb-true (word b at) 1 n) ∙ first)
  busy_forth n (suc zero) l = rw n
  busy_forth n (suc (suc zero)) l = rw n
  busy_forth n (suc (suc (suc zero))) l = let z : at + 2 + 1 ≡ at + 3 = omega arith in rw n (ap (word b) z)
  busy_forth n (suc (suc (suc (suc zero)))) l = rw n
  busy_forth n (suc (suc (suc (suc (suc k))))) l = absurd (omega arith)

  context_forth : place_bounds b at ≡ true → (k : ℕ) → k < 5 → word (context_words (context_in b at)) k ≡ word b (at + k)
  context_forth h k l = either (eqb (word b at) 1) (λ n. busy_forth n k l) (λ n. idle_forth n (five_zeros h n) k l)

module _ (b : List ℕ) (g : BlockBounds b) where
  rights_low : (i : ℕ) → i < min (word b 0) 16 → word b (1 + 3 * i + 2) ≤ 3
  unfolding regions_bounds
  rights_low i l = leb-true (word b (1 + 3 * i + 2)) 3 (all_at (λ j. leb (word b (1 + 3 * j + 2)) 3) (min (word b 0) 16) g.regions l)

  head_front : word b 0 < 4294967296 → (min 4294967295 (word b 0) ∷ []) ≡ take 1 b
  head_front h =
      let n = g.words in
      front_more b (min 4294967295 (word b 0) ∷ []) 0 (omega arith) at_first
    where
      at_first : (k : ℕ) → k < 1 → word (min 4294967295 (word b 0) ∷ []) k ≡ word b (0 + k)
      at_first zero l = omega arith
      at_first (suc k) l = absurd (omega arith)

  -- the first m regions, whose rights are in their bounds
  regions_front : (m : ℕ) → m ≤ 16 → ((i : ℕ) → i < m → word b (1 + 3 * i + 2) ≤ 3)
      → take 1 b ++ runs (λ i. region_words (region_at (regions_in b 1) i)) m ≡ take (1 + 3 * m) b
  regions_front m q h =
      let n = g.words in
      front_runs b (λ i. region_words (region_at (regions_in b 1) i)) 3 1 (λ i. refl) m (omega arith)
      (λ i k l o. ap (λ (r : Region). word (region_words r) k) (list_at no_region (λ j. region_in b (1 + 3 * j)) 16 i (omega arith))
      ∙ region_forth b (1 + 3 * i) (h i l) k o)

  pools_front : take 49 b ++ (pools_words (pools_in b 49) ++ (word b 53 ∷ [])) ≡ take 54 b
  pools_front = let n = g.words in front_more b (pools_words (pools_in b 49) ++ (word b 53 ∷ [])) 49 (omega arith) each
    where
      each : (k : ℕ) → k < 5 → word (pools_words (pools_in b 49) ++ (word b 53 ∷ [])) k ≡ word b (49 + k)
      each zero l = refl
      each (suc zero) l = refl
      each (suc (suc zero)) l = refl
      each (suc (suc (suc zero))) l = refl
      each (suc (suc (suc (suc zero)))) l = refl
      each (suc (suc (suc (suc (suc k))))) l = absurd (omega arith)

  places_front : take 54 b ++ places_words (places_in b 54) ≡ take 74 b
  places_front =
      let n = g.words in
      front_runs b (λ i. context_words (context_at (places_in b 54) i)) 5 54 (λ i. context_words_length (context_at (places_in b 54) i)) 4 (omega arith)
      (λ i k l m. ap (λ (p : Place). word (context_words p.context) k) (list_at idle_place (λ j. place_in b (54 + 5 * j)) 4 i l)
      ∙ context_forth b (54 + 5 * i) (places_out b g.places i l) k m)

  tail_front : take 74 b ++ (word b 74 ∷ word b 75 ∷ word b 76 ∷ word b 77 ∷ word b 78 ∷ word b 79 ∷ []) ≡ take 80 b
  tail_front = let n = g.words in front_more b (word b 74 ∷ word b 75 ∷ word b 76 ∷ word b 77 ∷ word b 78 ∷ word b 79 ∷ []) 74 (omega arith) each
    where
      each : (k : ℕ) → k < 6 → word (word b 74 ∷ word b 75 ∷ word b 76 ∷ word b 77 ∷ word b 78 ∷ word b 79 ∷ []) k ≡ word b (74 + k)
      each zero l = refl
      each (suc zero) l = refl
      each (suc (suc zero)) l = refl
      each (suc (suc (suc zero))) l = refl
      each (suc (suc (suc (suc zero)))) l = refl
      each (suc (suc (suc (suc (suc zero))))) l = refl
      each (suc (suc (suc (suc (suc (suc k)))))) l = absurd (omega arith)

  -- all that is not of a region
  rest_front : take 49 b ++ (pools_words (pools_in b 49) ++ (word b 53 ∷ [])) ++ places_words (places_in b 54)
      ++ (word b 74 ∷ word b 75 ∷ word b 76 ∷ word b 77 ∷ word b 78 ∷ word b 79 ∷ [])
      ≡ b
  rest_front =
      let n = g.words in
      let qs = places_words (places_in b 54) in
      let t = word b 74 ∷ word b 75 ∷ word b 76 ∷ word b 77 ∷ word b 78 ∷ word b 79 ∷ [] in
      ap (λ (u : List ℕ). u ++ qs ++ t) pools_front
      ∙ ap (λ (u : List ℕ). u ++ t) places_front
      ∙ tail_front
      ∙ take_all 80 b (omega arith)

  -- only the number of regions has no bounds of its own
  module _ (h : word b 0 < 4294967296) where
    front_in : (m : ℕ) → m ≤ 16 → ((i : ℕ) → i < m → word b (1 + 3 * i + 2) ≤ 3)
        → (min 4294967295 (word b 0) ∷ []) ++ runs (λ i. region_words (region_at (regions_in b 1) i)) m ≡ take (1 + 3 * m) b
    front_in m q r = ap (λ (u : List ℕ). u ++ runs (λ i. region_words (region_at (regions_in b 1) i)) m) (head_front h) ∙ regions_front m q r

    -- the words of all entries, where the rights of those not in use are in their bounds too
    all_in : ((i : ℕ) → i < 16 → word b (1 + 3 * i + 2) ≤ 3) → block_of (state_of b) ≡ b
    unfolding block_of state_of
    all_in r =
        let qs = places_words (places_in b 54) in
        let ps = pools_words (pools_in b 49) ++ (word b 53 ∷ []) in
        let t = word b 74 ∷ word b 75 ∷ word b 76 ∷ word b 77 ∷ word b 78 ∷ word b 79 ∷ [] in
        ap (λ (u : List ℕ). u ++ ps ++ qs ++ t) (front_in 16 (omega arith) r) ∙ rest_front

    -- the words of the entries in use
    abbrev from : ℕ
    from = unused_from b

    used_in : take from ((min 4294967295 (word b 0) ∷ []) ++ regions_words (regions_in b 1)) ≡ take from b
    used_in =
        let m : ℕ = min (word b 0) 16 in
        let f : ℕ → List ℕ = λ i. region_words (region_at (regions_in b 1) i) in
        take-append-add (min 4294967295 (word b 0) ∷ []) (regions_words (regions_in b 1)) (3 * m)
        ∙ ap (λ (u : List ℕ). (min 4294967295 (word b 0) ∷ []) ++ u) (runs_take f 3 (λ i. refl) 16 m (omega arith))
        ∙ front_in m (omega arith) rights_low

    over_in : block_over b (state_of b) ≡ b
    unfolding block_of state_of block_over
    over_in =
        let n = g.words in
        let r = regions_words_length (regions_in b 1) in
        let x = (min 4294967295 (word b 0) ∷ []) ++ regions_words (regions_in b 1) in
        let v = drop from (take 49 b) in
        let lx : length x ≡ 49 = simp length-append (omega arith) in
        let lv : length v ≡ 49 - from = simp (length-drop, length-take) (omega arith) in
        let ps = pools_words (pools_in b 49) ++ (word b 53 ∷ []) in
        let qs = places_words (places_in b 54) in
        let t = word b 74 ∷ word b 75 ∷ word b 76 ∷ word b 77 ∷ word b 78 ∷ word b 79 ∷ [] in
        write_left (x ++ ps ++ qs) t v from (simp length-append (omega arith))
        ∙ ap (λ (u : List ℕ). u ++ t) (write_left (x ++ ps) qs v from (simp length-append (omega arith)))
        ∙ ap (λ (u : List ℕ). u ++ qs ++ t) (write_left x ps v from (omega arith))
        ∙ ap (λ (u : List ℕ). u ++ ps ++ qs ++ t) (write_to_end x v from (omega arith) ∙ ap (λ (u : List ℕ). u ++ v) used_in ∙ front_whole b from 49 (omega arith) (omega arith))
        ∙ rest_front

pub block_of_lem : (b : List ℕ) → word b 0 < 4294967296 → is_block b ≡ true → ((i : ℕ) → i < 16 → word b (1 + 3 * i + 2) ≤ 3) → block_of (state_of b) ≡ b
block_of_lem b h e r = all_in b (block_out b e) h r

-- only the number of regions has to fit a word
pub counted_forth : (b : List ℕ) → word b 0 < 4294967296 → is_block b ≡ true → block_over b (state_of b) ≡ b
counted_forth b h e = over_in b (block_out b e) h

pub block_forth : (b : List ℕ) → ((i : ℕ) → word b i < 4294967296) → is_block b ≡ true → block_over b (state_of b) ≡ b
block_forth b h e = counted_forth b (h 0) e
