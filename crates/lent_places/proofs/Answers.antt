-- What the reads and writes of places say of a state's block.
-- Assumes nothing.
use mathlib.Core.Path.{◌≡◌, ap, ◌∙◌}
use mathlib.Core.Bool.{true}
use mathlib.Core.List.{List, [], ◌∷◌}
use Prim.Native.Nat.{ℕ, ◌+◌, ◌*◌, ◌%◌, ◌<◌}
use native.Mathlib.Omega.{arith}
use lib.Dec.{leb, eqb}
use lib.ListN.{length, take, drop}
use borrow.Author.Tests.{leb-true, eq-eqb, eqb-true, lt-ltb}
use Rattle.lists.specs.Splice.{splice}
use Rattle.lists.proofs.Tests.{either}
use Rattle.rules.specs.declared.Context.{Context}
use Rattle.block.specs.Blocks.{context_words, word, context_in, places_in, place_in, place_bounds, places_bounds}
use Rattle.block.proofs.Bounds.{places_out}
use Rattle.block.proofs.Parts.{bounds_part, places_part}
use Rattle.block.proofs.Runs.{runs_same}
use Rattle.lent_places.specs.Reading.{context_read, places_read}
use Rattle.lent_places.specs.Writing.{placed}

-- places in their bounds are read as they are
module _ (b : List ℕ) where
  read_is : (at : ℕ) → place_bounds b at ≡ true → context_read (context_in b at) ≡ context_in b at
  unfolding place_bounds
  read_is at h =
      either (eqb (word b at) 1)
      (λ e. let low : leb (word b (at + 1)) 65535 ≡ true = rw (eqb-true (word b at) 1 e) at h in
      let k = leb-true (word b (at + 1)) 65535 low in
      let m : word b (at + 1) % 65536 ≡ word b (at + 1) = omega arith in
      rw (e, m))
      (λ e. rw e)

  read_places : ((i : ℕ) → i < 4 → place_bounds b (5 * i) ≡ true) → places_read b ≡ places_in b 0
  unfolding places_read
  read_places h =
      runs_same (λ i. place_in b (0 + 5 * i) ∷ []) (λ i. record { context = context_read (context_in b (5 * i)) } ∷ []) 4
      (λ i l. let z : 5 * i ≡ 0 + 5 * i = omega arith in
      ap (λ (c : Context). record { context = c } ∷ []) (read_is (5 * i) (h i l) ∙ ap (context_in b) z))

-- the places of a block, in their bounds
pub bounded_places : (b : List ℕ) → places_bounds b ≡ true → places_read (take 20 (drop 54 b)) ≡ places_in b 54
bounded_places b h =
    read_places (take 20 (drop 54 b))
    (λ i l. bounds_part b 54 20 (5 * i) (54 + 5 * i) (omega arith) (omega arith) ∙ places_out b h i l)
    ∙ places_part b 54

-- a place written to a block of 80 words
pub placed_is : (b : List ℕ) (i : ℕ) (c : Context) → length b ≡ 80 → i < 4 → placed b i c ≡ splice b (54 + 5 * i) (context_words c)
unfolding placed
placed_is b i c n l = rw (eq-eqb (length b) 80 n, lt-ltb i 4 l)
