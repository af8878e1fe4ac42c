-- Each word of a state's block.
-- Assumes nothing.
use mathlib.Core.Path.{◌≡◌, refl, ap, ◌∙◌}
use mathlib.Core.List.{List, [], ◌∷◌, ◌++◌}
use Prim.Native.Nat.{ℕ, ◌+◌, ◌*◌, ◌<◌, min}
use native.Mathlib.Omega.{arith}
use lib.ListN.{length, length-append}
use Rattle.rules.specs.Regions.{region_at}
use Rattle.rules.specs.States.{context_at}
use Rattle.rules.specs.declared.State.{State}
use Rattle.block.specs.Blocks.{region_words, context_words, regions_words, pools_words, places_words, block_of, word}
use Rattle.block.proofs.Runs.{in_front, in_rest, runs_at}
use Rattle.block.proofs.Lengths.{context_words_length, regions_words_length, places_words_length}

-- five lists of 1, 48, 5, 20 and 6 words
module _ (h r m p t : List ℕ) (lh : length h ≡ 1) (lr : length r ≡ 48) (lm : length m ≡ 5) (lp : length p ≡ 20) where
  in_first : word (h ++ r ++ m ++ p ++ t) 0 ≡ word h 0
  in_first =
      in_front 0 (h ++ r ++ m ++ p) t 0 (simp length-append (omega arith))
      ∙ in_front 0 (h ++ r ++ m) p 0 (simp length-append (omega arith))
      ∙ in_front 0 (h ++ r) m 0 (simp length-append (omega arith))
      ∙ in_front 0 h r 0 (omega arith)

  in_second : (k : ℕ) → k < 48 → word (h ++ r ++ m ++ p ++ t) (1 + k) ≡ word r k
  in_second k l =
      in_front 0 (h ++ r ++ m ++ p) t (1 + k) (simp length-append (omega arith))
      ∙ in_front 0 (h ++ r ++ m) p (1 + k) (simp length-append (omega arith))
      ∙ in_front 0 (h ++ r) m (1 + k) (simp length-append (omega arith))
      ∙ in_rest 0 h r 1 k lh

  in_third : (k : ℕ) → k < 5 → word (h ++ r ++ m ++ p ++ t) (49 + k) ≡ word m k
  in_third k l =
      in_front 0 (h ++ r ++ m ++ p) t (49 + k) (simp length-append (omega arith))
      ∙ in_front 0 (h ++ r ++ m) p (49 + k) (simp length-append (omega arith))
      ∙ in_rest 0 (h ++ r) m 49 k (simp length-append (omega arith))

  in_fourth : (k : ℕ) → k < 20 → word (h ++ r ++ m ++ p ++ t) (54 + k) ≡ word p k
  in_fourth k l =
      in_front 0 (h ++ r ++ m ++ p) t (54 + k) (simp length-append (omega arith))
      ∙ in_rest 0 (h ++ r ++ m) p 54 k (simp length-append (omega arith))

  in_fifth : (k : ℕ) → word (h ++ r ++ m ++ p ++ t) (74 + k) ≡ word t k
  in_fifth k = in_rest 0 (h ++ r ++ m ++ p) t 74 k (simp length-append (omega arith))

module _ (s : State) where
  pub count_word : word (block_of s) 0 ≡ min 4294967295 s.count
  unfolding block_of
  count_word =
      in_first (min 4294967295 s.count ∷ []) (regions_words s.regions) (pools_words s.pools ++ (s.unit ∷ [])) (places_words s.places)
      (s.last ∷ s.replies ∷ s.packets ∷ s.accepted ∷ s.refused ∷ s.values ∷ [])
      refl (regions_words_length s.regions) refl (places_words_length s.places)

  pub region_word : (i k : ℕ) → i < 16 → k < 3 → word (block_of s) (1 + 3 * i + k) ≡ word (region_words (region_at s.regions i)) k
  unfolding block_of
  region_word i k l m =
      let e : 1 + 3 * i + k ≡ 1 + (3 * i + k) = omega arith in
      ap (word (block_of s)) e
      ∙ in_second (min 4294967295 s.count ∷ []) (regions_words s.regions) (pools_words s.pools ++ (s.unit ∷ [])) (places_words s.places)
      (s.last ∷ s.replies ∷ s.packets ∷ s.accepted ∷ s.refused ∷ s.values ∷ [])
      refl (regions_words_length s.regions) refl (places_words_length s.places) (3 * i + k) (omega arith)
      ∙ runs_at 0 (λ j. region_words (region_at s.regions j)) 3 (λ j. refl) 16 i k l m

  pub pool_word : (k : ℕ) → k < 5 → word (block_of s) (49 + k) ≡ word (pools_words s.pools ++ (s.unit ∷ [])) k
  unfolding block_of
  pool_word k l =
      in_third (min 4294967295 s.count ∷ []) (regions_words s.regions) (pools_words s.pools ++ (s.unit ∷ [])) (places_words s.places)
      (s.last ∷ s.replies ∷ s.packets ∷ s.accepted ∷ s.refused ∷ s.values ∷ [])
      refl (regions_words_length s.regions) refl (places_words_length s.places) k l

  pub place_word : (i k : ℕ) → i < 4 → k < 5 → word (block_of s) (54 + 5 * i + k) ≡ word (context_words (context_at s.places i)) k
  unfolding block_of
  place_word i k l m =
      let e : 54 + 5 * i + k ≡ 54 + (5 * i + k) = omega arith in
      ap (word (block_of s)) e
      ∙ in_fourth (min 4294967295 s.count ∷ []) (regions_words s.regions) (pools_words s.pools ++ (s.unit ∷ [])) (places_words s.places)
      (s.last ∷ s.replies ∷ s.packets ∷ s.accepted ∷ s.refused ∷ s.values ∷ [])
      refl (regions_words_length s.regions) refl (places_words_length s.places) (5 * i + k) (omega arith)
      ∙ runs_at 0 (λ j. context_words (context_at s.places j)) 5 (λ j. context_words_length (context_at s.places j)) 4 i k l m

  pub tail_word : (k : ℕ) → word (block_of s) (74 + k) ≡ word (s.last ∷ s.replies ∷ s.packets ∷ s.accepted ∷ s.refused ∷ s.values ∷ []) k
  unfolding block_of
  tail_word k =
      in_fifth (min 4294967295 s.count ∷ []) (regions_words s.regions) (pools_words s.pools ++ (s.unit ∷ [])) (places_words s.places)
      (s.last ∷ s.replies ∷ s.packets ∷ s.accepted ∷ s.refused ∷ s.values ∷ [])
      refl (regions_words_length s.regions) refl (places_words_length s.places) k
