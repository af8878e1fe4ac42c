-- What a part of a block says: the regions, pools and places that the block has there.
-- Assumes nothing.
use mathlib.Core.Path.{◌≡◌, refl, sym, ap, ◌∙◌}
use mathlib.Core.List.{List, [], ◌∷◌}
use Prim.Native.Nat.{ℕ, ◌+◌, ◌*◌, ◌<◌, min}
use native.Mathlib.Omega.{arith}
use lib.Dec.{leb}
use lib.ListN.{take, drop}
use lib.Seq.{get_or-take, get_or-drop}
use Rattle.lists.proofs.Below.{all_same}
use Rattle.rules.specs.declared.Place.{Place}
use Rattle.rules.specs.declared.Region.{Region}
use Rattle.block.specs.Blocks.{word, range_in, region_in, place_in, regions_in, places_in, regions_bounds, place_bounds}
use Rattle.block.proofs.Runs.{runs_same}

-- the part of `size` words from index `from` on: what is at k there is at j in the block
module _ (b : List ℕ) (from size : ℕ) where
  abbrev part : List ℕ
  part = take size (drop from b)

  pub word_part : (k j : ℕ) → k < size → from + k ≡ j → word part k ≡ word b j
  word_part k j l e = get_or-take size (drop from b) k 0 l ∙ get_or-drop from b k 0 ∙ ap (word b) e

  pub range_part : (k j : ℕ) → k + 1 < size → from + k ≡ j → range_in part k ≡ range_in b j
  range_part k j l e = rw (word_part k j (omega arith) e, word_part (k + 1) (j + 1) l (omega arith))

  region_part : (k j : ℕ) → k + 2 < size → from + k ≡ j → region_in part k ≡ region_in b j
  region_part k j l e = rw (range_part k j (omega arith) e, word_part (k + 2) (j + 2) l (omega arith))

  place_part : (k j : ℕ) → k + 4 < size → from + k ≡ j → place_in part k ≡ place_in b j
  place_part k j l e =
      rw (
        word_part k j (omega arith) e,
        word_part (k + 1) (j + 1) (omega arith) (omega arith),
        range_part (k + 2) (j + 2) (omega arith) (omega arith),
        word_part (k + 4) (j + 4) l (omega arith),
      )

  pub bounds_part : (k j : ℕ) → k + 4 < size → from + k ≡ j → place_bounds part k ≡ place_bounds b j
  unfolding place_bounds
  bounds_part k j l e =
      rw (
        word_part k j (omega arith) e,
        word_part (k + 1) (j + 1) (omega arith) (omega arith),
        word_part (k + 2) (j + 2) (omega arith) (omega arith),
        word_part (k + 3) (j + 3) (omega arith) (omega arith),
        word_part (k + 4) (j + 4) l (omega arith),
      )

  pub sixteen_part : (k j : ℕ) → k + 47 < size → from + k ≡ j → regions_in part k ≡ regions_in b j
  sixteen_part k j l e =
      runs_same (λ i. region_in b (j + 3 * i) ∷ []) (λ i. region_in part (k + 3 * i) ∷ []) 16
      (λ i q. ap (λ (r : Region). r ∷ []) (region_part (k + 3 * i) (j + 3 * i) (omega arith) (omega arith)))

  pub used_part : (k j : ℕ) → k + 47 < size → from + k ≡ j → (n : ℕ) → regions_bounds part k n ≡ regions_bounds b j n
  unfolding regions_bounds
  used_part k j l e n =
      all_same _ (λ i. leb (word b (j + 3 * i + 2)) 3) (min n 16)
      (λ i q. ap (λ (x : ℕ). leb x 3) (word_part (k + 3 * i + 2) (j + 3 * i + 2) (omega arith) (omega arith)))

-- the 48 words of sixteen regions, and the 20 words of four places
module _ (b : List ℕ) (from : ℕ) where
  pub regions_part : regions_in (take 48 (drop from b)) 0 ≡ regions_in b from
  regions_part = sixteen_part b from 48 0 from (omega arith) (omega arith)

  pub rights_part : (n : ℕ) → regions_bounds (take 48 (drop from b)) 0 n ≡ regions_bounds b from n
  rights_part = used_part b from 48 0 from (omega arith) (omega arith)

  pub places_part : places_in (take 20 (drop from b)) 0 ≡ places_in b from
  places_part =
      runs_same (λ i. place_in b (from + 5 * i) ∷ []) (λ i. place_in (take 20 (drop from b)) (0 + 5 * i) ∷ []) 4
      (λ i l. ap (λ (p : Place). p ∷ []) (place_part b from 20 (0 + 5 * i) (from + 5 * i) (omega arith) (omega arith)))

-- two blocks with the same first 49 words: the number of regions, and sixteen regions
module _ (a b : List ℕ) (e : take 49 a ≡ take 49 b) where
  pub count_front : word a 0 ≡ word b 0
  count_front = sym (word_part a 0 49 0 0 (omega arith) refl) ∙ ap (λ (u : List ℕ). word u 0) e ∙ word_part b 0 49 0 0 (omega arith) refl

  pub regions_front : regions_in a 1 ≡ regions_in b 1
  regions_front =
      sym (sixteen_part a 0 49 1 1 (omega arith) refl) ∙ ap (λ (u : List ℕ). regions_in u 1) e ∙ sixteen_part b 0 49 1 1 (omega arith) refl

  pub rights_front : (n : ℕ) → regions_bounds a 1 n ≡ regions_bounds b 1 n
  rights_front n =
      sym (used_part a 0 49 1 1 (omega arith) refl n) ∙ ap (λ (u : List ℕ). regions_bounds u 1 n) e ∙ used_part b 0 49 1 1 (omega arith) refl n
