-- Laws of a write: its length, and each element after it.
-- Assumes nothing.
use mathlib.Core.Path.{◌≡◌, sym, ap, ◌∙◌}
use mathlib.Core.List.{List, [], ◌∷◌, ◌++◌}
use Prim.Native.Nat.{ℕ, suc, ◌+◌, ◌-◌, ◌≤◌, ◌<◌}
use native.Mathlib.Nat.{zero-add}
use native.Mathlib.Numerals.{add-one}
use native.Mathlib.Omega.{arith}
use lib.ListN.{length, get_or, set, take, drop, length-append, length-take, length-drop, get_or-append}
use lib.Seq.{get_or-append-add, get_or-take, get_or-drop, length-take-le, take-append_seam, drop-append_seam, drop-cons, set_at, append_snoc}
use Rattle.lists.specs.Splice.{splice}

module _ (l : List ℕ) (at : ℕ) (v : List ℕ) (fits : at + length v ≤ length l) where
  pub splice_length : length (splice l at v) ≡ length l
  unfolding splice
  splice_length = simp (length-append, length-take, length-drop) (omega arith)

  -- an index of the list after `at` elements
  past : (m : List ℕ) (k : ℕ) → get_or (take at l ++ m) (at + k) 0 ≡ get_or m k 0
  past m k =
      let e : length (take at l) ≡ at = length-take-le at l (omega arith) in
      ap (λ (x : ℕ). get_or (take at l ++ m) (x + k) 0) (sym e) ∙ get_or-append-add (take at l) m k 0

  pub splice_in : (k : ℕ) → k < length v → get_or (splice l at v) (at + k) 0 ≡ get_or v k 0
  unfolding splice
  splice_in k h = past (v ++ drop (at + length v) l) k ∙ get_or-append v (drop (at + length v) l) 0 k h

  pub splice_below : (x : ℕ) → x < at → get_or (splice l at v) x 0 ≡ get_or l x 0
  unfolding splice
  splice_below x h =
      let e : x < length (take at l) = simp length-take (omega arith) in
      get_or-append (take at l) (v ++ drop (at + length v) l) 0 x e ∙ get_or-take at l x 0 h

  pub splice_above : (x : ℕ) → at + length v ≤ x → get_or (splice l at v) x 0 ≡ get_or l x 0
  unfolding splice
  splice_above x h =
      let k : ℕ = x - (at + length v) in
      let e : x ≡ at + (length v + k) = omega arith in
      let f : at + length v + k ≡ x = omega arith in
      ap (λ (y : ℕ). get_or (take at l ++ (v ++ drop (at + length v) l)) y 0) e
      ∙ past (v ++ drop (at + length v) l) (length v + k)
      ∙ get_or-append-add v (drop (at + length v) l) k 0
      ∙ get_or-drop (at + length v) l k 0
      ∙ ap (λ (y : ℕ). get_or l y 0) f

-- a write from the start of a buffer: what was written, and what stays
pub splice_front : (l v : List ℕ) → take (length v) (splice l 0 v) ≡ v
unfolding splice
splice_front l v = take-append_seam v (drop (0 + length v) l)

pub splice_rest : (l v : List ℕ) → drop (length v) (splice l 0 v) ≡ drop (length v) l
unfolding splice
splice_rest l v = drop-append_seam v (drop (0 + length v) l) ∙ ap (λ (n : ℕ). drop n l) (zero-add (length v))

-- two runs of the same length that leave the same are the same
pub splice_same : (l v w : List ℕ) → length v ≡ length w → splice l 0 v ≡ splice l 0 w → v ≡ w
splice_same l v w n e =
    sym (splice_front l v) ∙ ap (take (length v)) e ∙ ap (λ (m : ℕ). take m (splice l 0 w)) n ∙ splice_front l w

-- one store of a loop that fills a list from its start
pub fill_turn : (xs l : List ℕ) (i v : ℕ) → length xs ≡ i → i < length l → set (xs ++ drop i l) i v ≡ (xs ++ (v ∷ [])) ++ drop (i + 1) l
fill_turn xs l i v e h =
    ap (λ (m : List ℕ). set (xs ++ m) i v) (drop-cons l i 0 h)
    ∙ set_at xs _ _ v i e
    ∙ sym (append_snoc xs v (drop (suc i) l))
    ∙ ap (λ (k : ℕ). (xs ++ (v ∷ [])) ++ drop k l) (sym (add-one i))
