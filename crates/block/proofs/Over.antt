-- The block of a state written over a block with the same regions: it says the state, and of the state's own block nothing else stays.
-- Assumes nothing.
use mathlib.Core.Path.{◌≡◌, refl, sym, ap, ap₂, ◌∙◌}
use mathlib.Core.Bool.{true}
use mathlib.Core.List.{List, [], ◌∷◌, ◌++◌, append_assoc}
use Prim.Native.Nat.{ℕ, ◌+◌, ◌*◌, ◌≤◌, ◌<◌, min}
use native.Mathlib.Omega.{arith}
use lib.ListN.{length, take, drop, length-append, length-take, length-drop}
use lib.Seq.{take-append_seam, take-append-add}
use Rattle.lists.specs.Splice.{splice}
use Rattle.lists.proofs.Splice.{splice_length, splice_above}
use Rattle.rules.specs.Regions.{region_at}
use Rattle.rules.specs.declared.Region.{Region}
use Rattle.rules.specs.declared.State.{State}
use Rattle.block.specs.Blocks.{region_words, regions_words, pools_words, places_words, block_of, word, state_of, is_block, unused_from, block_over}
use Rattle.block.specs.RoundTrip.{Fits}
use Rattle.block.specs.Runs.{runs}
use Rattle.block.proofs.Back.{Says, said_back, said_block}
use Rattle.block.proofs.Bounds.{block_out}
use Rattle.block.proofs.Forth.{counted_forth}
use Rattle.block.proofs.Lengths.{regions_words_length, block_length}
use Rattle.block.proofs.Parts.{count_front, regions_front, rights_front}
use Rattle.block.proofs.Runs.{runs_take, in_rest}
use Rattle.block.proofs.Writes.{write_left, write_to_end, own_written, front_written}

-- THE WORDS OF A BLOCK: the number of regions and sixteen regions, and the rest

abbrev pub rest_words : State → List ℕ
rest_words s =
    (pools_words s.pools ++ (s.unit ∷ []))
    ++ (places_words s.places ++ (s.last ∷ s.replies ∷ s.packets ∷ s.accepted ∷ s.refused ∷ s.values ∷ []))

abbrev first_words : State → List ℕ
first_words s = (min 4294967295 s.count ∷ []) ++ regions_words s.regions

in_two : (s : State) → block_of s ≡ first_words s ++ rest_words s
unfolding block_of
in_two s =
    append_assoc (first_words s ++ (pools_words s.pools ++ (s.unit ∷ []))) (places_words s.places) _
    ∙ append_assoc (first_words s) (pools_words s.pools ++ (s.unit ∷ [])) _

firsts_length : (s : State) → length (first_words s) ≡ 49
firsts_length s = let r = regions_words_length s.regions in simp length-append (omega arith)

regions_first : (s : State) → take 49 (block_of s) ≡ first_words s
regions_first s =
    let n = firsts_length s in
    ap (take 49) (in_two s) ∙ ap (λ (k : ℕ). take k (first_words s ++ rest_words s)) (sym n) ∙ take-append_seam (first_words s) (rest_words s)

pub rest_word : (s : State) (k : ℕ) → word (block_of s) (49 + k) ≡ word (rest_words s) k
rest_word s k = ap (λ (u : List ℕ). word u (49 + k)) (in_two s) ∙ in_rest 0 (first_words s) (rest_words s) 49 k (firsts_length s)

-- the words of n regions, then other words in the place of the remaining entries
pub unused_written : (s : State) (n : ℕ) (v : List ℕ) → n ≤ 16 → 1 + 3 * n + length v ≡ 49
    → splice (block_of s) (1 + 3 * n) v ≡ ((min 4294967295 s.count ∷ []) ++ runs (λ i. region_words (region_at s.regions i)) n ++ v) ++ rest_words s
unused_written s n v l e =
    let k = firsts_length s in
    ap (λ (u : List ℕ). splice u (1 + 3 * n) v) (in_two s)
    ∙ write_left (first_words s) (rest_words s) v (1 + 3 * n) (omega arith)
    ∙ ap (λ (u : List ℕ). u ++ rest_words s)
    (write_to_end (first_words s) v (1 + 3 * n) (omega arith)
    ∙ ap (λ (u : List ℕ). u ++ v)
    (take-append-add (min 4294967295 s.count ∷ []) (regions_words s.regions) (3 * n)
    ∙ ap (λ (u : List ℕ). (min 4294967295 s.count ∷ []) ++ u) (runs_take (λ i. region_words (region_at s.regions i)) 3 (λ i. refl) 16 n l)))

-- OVER THE BLOCK OF A STATE WITH THE SAME REGIONS

module _ (s t : State) (r : t.regions ≡ s.regions) (c : t.count ≡ s.count) where
  firsts_same : take 49 (block_of s) ≡ take 49 (block_of t)
  firsts_same = regions_first s ∙ sym (regions_first t ∙ ap₂ (λ (n : ℕ) (rs : List Region). (min 4294967295 n ∷ []) ++ regions_words rs) c r)

  pub over_same : block_over (block_of s) t ≡ block_of t
  unfolding block_over
  over_same =
      let from = unused_from (block_of s) in
      let long = block_length t in
      ap (λ (u : List ℕ). splice (block_of t) from (drop from u)) firsts_same ∙ own_written (block_of t) from 49 (omega arith) (omega arith)

-- A BLOCK THAT IS A STATE, and another state with its regions

module _ (b : List ℕ) (low : word b 0 < 4294967296) (block : is_block b ≡ true) (s : State) (r : s.regions ≡ (state_of b).regions)
    (c : s.count ≡ (state_of b).count) where
  unused_length : unused_from b + length (drop (unused_from b) (take 49 b)) ≡ 49
  unused_length = let n = (block_out b block).words in simp (length-drop, length-take) (omega arith)

  front_over : (t : State) → take 49 (block_over b t) ≡ take (unused_from b) (take 49 (block_of t)) ++ drop (unused_from b) (take 49 b)
  unfolding block_over
  front_over t =
      let n = block_length t in
      front_written (block_of t) (unused_from b) (drop (unused_from b) (take 49 b)) 49 unused_length (omega arith)

  front_kept : take 49 (block_over b s) ≡ take 49 b
  front_kept =
      front_over s
      ∙ ap (λ (u : List ℕ). take (unused_from b) u ++ drop (unused_from b) (take 49 b)) (sym (firsts_same (state_of b) s r c))
      ∙ sym (front_over (state_of b))
      ∙ ap (take 49) (counted_forth b low block)

  over_says : Says (block_over b s) s
  unfolding block_over state_of
  over_says =
      let n = block_length s in
      let u = unused_length in
      let from = unused_from b in
      let v = drop from (take 49 b) in
      let e = count_front (block_over b s) b front_kept in
      record {
        words = splice_length (block_of s) from v (omega arith) ∙ n;
        count = e ∙ sym c;
        regions = regions_front (block_over b s) b front_kept ∙ sym r;
        rights = rw e (rights_front (block_over b s) b front_kept (word b 0) ∙ (block_out b block).regions);
        rest = λ k l. splice_above (block_of s) from v (omega arith) k (omega arith);
      }

  pub over_back : Fits s → state_of (block_over b s) ≡ s
  over_back f = said_back s f (block_over b s) over_says

  pub over_block : Fits s → is_block (block_over b s) ≡ true
  over_block f = said_block s f (block_over b s) over_says
