-- Runs of writes and of stores: one right after another is one.
-- Assumes nothing.
use mathlib.Core.Path.{◌≡◌, sym, ap, ◌∙◌}
use mathlib.Core.List.{List, [], ◌∷◌, ◌++◌, append_assoc}
use Prim.Native.Nat.{ℕ, suc, ◌+◌, ◌≤◌, ◌<◌}
use native.Mathlib.Nat.{add-zero, add-suc, suc-add}
use native.Mathlib.Numerals.{add-one, unary_clauses}
use native.Mathlib.Omega.{arith}
use lib.ListN.{length, take, drop, set, get_or, length-append, take-append-drop}
use lib.Seq.{sets, sets-eq, length-take-le, take-suc, take_at, drop_at, drop-drop}
use Rattle.lists.specs.Splice.{splice}
use Rattle.lists.proofs.Splice.{splice_length}

-- nothing written
pub splice_none : (l : List ℕ) (at : ℕ) → splice l at [] ≡ l
unfolding splice
splice_none l at = rw (add-zero, take-append-drop)

-- STORES AT ONE INDEX AFTER THE OTHER

-- a run of stores right after another is one run
pub sets_sets : (vs ws l : List ℕ) (i : ℕ) → sets (sets l i vs) (i + length vs) ws ≡ sets l i (vs ++ ws)
sets_sets [] ws l i = rw add-zero
sets_sets (a ∷ vs) ws l i =
    ap (λ (k : ℕ). sets (sets (set l i a) (suc i) vs) k ws) (add-suc i (length vs) ∙ sym (suc-add i (length vs)))
    ∙ sets_sets vs ws (set l i a) (suc i)

pub then_sets : (l : List ℕ) {m n : List ℕ} (i : ℕ) (vs ws : List ℕ) → m ≡ sets l i vs → n ≡ sets m (i + length vs) ws → n ≡ sets l i (vs ++ ws)
then_sets l i vs ws p q = q ∙ ap (λ (k : List ℕ). sets k (i + length vs) ws) p ∙ sets_sets vs ws l i

-- a run of stores that fits
pub sets_splice : (v l : List ℕ) (at : ℕ) → at + length v ≤ length l → sets l at v ≡ splice l at v
unfolding splice
sets_splice v l at h = sets-eq v l at h ∙ append_assoc (take at l) v (drop (at + length v) l)

pub four_stores : (l : List ℕ) (at a b c d : ℕ) → at + 4 ≤ length l
    → set (set (set (set l at a) (at + 1) b) (at + 2) c) (at + 3) d ≡ splice l at (a ∷ b ∷ c ∷ d ∷ [])
four_stores l at a b c d h = simp unary_clauses (sets_splice (a ∷ b ∷ c ∷ d ∷ []) l at h)

-- a write right after another
pub splice_splice : (l u v : List ℕ) (at next : ℕ) → next ≡ at + length u → next + length v ≤ length l
    → splice (splice l at u) next v ≡ splice l at (u ++ v)
unfolding splice
splice_splice l u v at next e h =
    let i : at ≤ length l = omega arith in
    let head : length (take at l ++ u) ≡ next = simp (length-append, length-take-le) (omega arith) in
    let count : at + length (u ++ v) ≡ at + length u + length v = simp length-append (omega arith) in
    let rest = drop (at + length u) l in
    rw (← append_assoc (take at l) u rest, take_at (take at l ++ u) rest next head, ← drop-drop (length v) next, drop_at (take at l ++ u) rest next head, drop-drop, count, append_assoc, append_assoc)

-- a write from the start, right before another
pub splice_before : (l u v : List ℕ) (at : ℕ) → length u ≡ at → at ≤ length l → splice (splice l at v) 0 u ≡ splice l 0 (u ++ v)
unfolding splice
splice_before l u v at e h =
    let head : length (take at l) ≡ at = length-take-le at l h in
    let start : 0 + length u ≡ at = omega arith in
    let count : 0 + length (u ++ v) ≡ at + length v = simp length-append (omega arith) in
    rw (start, drop_at (take at l) (v ++ drop (at + length v) l) at head, count, append_assoc)

-- one store of a loop that copies s
pub copy_turn : (l b s : List ℕ) (at i : ℕ) → i < length s → at + i < length l → b ≡ splice l at (take i s)
    → set b (at + i) (get_or s i 0) ≡ splice l at (take (i + 1) s)
copy_turn l b s at i h room e =
    let n : i ≤ length s = omega arith in
    let k : length (take i s) ≡ i = length-take-le i s n in
    let m : length b ≡ length l = ap length e ∙ splice_length l at (take i s) (omega arith) in
    sets_splice (get_or s i 0 ∷ []) b (at + i) (omega arith)
    ∙ rw (e, add-one i, take-suc s i 0, splice_splice l (take i s) (get_or s i 0 ∷ []) at (at + i) (omega arith) (omega arith))
