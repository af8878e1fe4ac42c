-- Words and their bytes undo each other, and a list is its bytes one by one.
-- Assumes nothing.
use mathlib.Core.Path.{◌≡◌, refl, sym, ap, ap₂, ◌∙◌}
use mathlib.Core.List.{List, [], ◌∷◌, ◌++◌, append_assoc, append-nil}
use Prim.Native.Nat.{ℕ, zero, suc, ◌+◌, ◌*◌, ◌≤◌, ◌<◌}
use native.Mathlib.Nat.{add-zero, add-suc, add_assoc}
use native.Mathlib.Omega.{arith}
use lib.ListN.{length, get_or, take, drop, length-append, length-drop}
use lib.Seq.{get_or-drop, take-suc, take_all}
use Rattle.wire.specs.Bytes.{AreBytes, be, be_at, word_bytes, words_at}
use Rattle.wire.proofs.Numbers.{be_at_skip, be_at_within, be_back, be_at_below, cells, be_of}

-- WORDS, WRITTEN AND READ

-- a word that stands after xs
word_back : (w : ℕ) (xs p : List ℕ) → w < 4294967296 → be_at 4 (xs ++ (be 4 w ++ p)) (length xs) ≡ w
word_back w xs p h =
    ap (be_at 4 (xs ++ (be 4 w ++ p))) (sym (add-zero (length xs)))
    ∙ be_at_skip 4 xs (be 4 w ++ p) 0
    ∙ be_at_within 4 (be 4 w) p 0 (omega arith)
    ∙ be_back 4 w h

pub words_back : (ws xs : List ℕ) → ((i : ℕ) → get_or ws i 0 < 4294967296) → words_at (length ws) (xs ++ word_bytes ws) (length xs) ≡ ws
unfolding word_bytes words_at
words_back [] xs h = refl
words_back (w ∷ ws) xs h =
    ap₂ (λ (x : ℕ) (l : List ℕ). x ∷ l) (word_back w xs (word_bytes ws) (h 0))
    (ap₂ (λ (l : List ℕ) (at : ℕ). words_at (length ws) l at) (sym (append_assoc xs (be 4 w) (word_bytes ws))) (sym (length-append xs (be 4 w)))
    ∙ words_back ws (xs ++ be 4 w) (λ i. h (suc i)))

-- words read from bytes fit
pub words_fit : (n : ℕ) (p : List ℕ) (at : ℕ) → AreBytes p → (i : ℕ) → get_or (words_at n p at) i 0 < 4294967296
unfolding words_at
words_fit zero p at b i = omega arith
words_fit (suc n) p at b zero = be_at_below 4 p at b
words_fit (suc n) p at b (suc i) = words_fit n p (at + 4) b i

-- BYTES, READ AND WRITTEN

pub cells_append : (m n : ℕ) (p : List ℕ) (at : ℕ) → cells (m + n) p at ≡ cells m p at ++ cells n p (at + m)
cells_append m zero p at = ap (λ (k : ℕ). cells k p at) (add-zero m) ∙ sym (append-nil (cells m p at))
cells_append m (suc n) p at =
    ap (λ (k : ℕ). cells k p at) (add-suc m n)
    ∙ ap₂ (λ (l : List ℕ) (k : ℕ). l ++ (get_or p k 0 ∷ [])) (cells_append m n p at) (sym (add_assoc at m n))
    ∙ append_assoc (cells m p at) (cells n p (at + m)) (get_or p (at + m + n) 0 ∷ [])

pub word_bytes_back : (n : ℕ) (p : List ℕ) (at : ℕ) → AreBytes p → word_bytes (words_at n p at) ≡ cells (4 * n) p at
unfolding word_bytes words_at
word_bytes_back zero p at b = refl
word_bytes_back (suc n) p at b =
    let e : 4 + 4 * n ≡ 4 * suc n = omega arith in
    ap₂ (λ (l m : List ℕ). l ++ m) (be_of 4 p at b) (word_bytes_back n p (at + 4) b)
    ∙ sym (cells_append 4 (4 * n) p at)
    ∙ ap (λ (k : ℕ). cells k p at) e

-- a part of a list is its bytes one by one, and the bytes of the words that stand there
pub cells_part : (n : ℕ) (p : List ℕ) (at : ℕ) → at + n ≤ length p → cells n p at ≡ take n (drop at p)
cells_part zero p at h = refl
cells_part (suc n) p at h =
    let l : n < length (drop at p) = simp length-drop (omega arith) in
    ap₂ (λ (xs : List ℕ) (x : ℕ). xs ++ (x ∷ [])) (cells_part n p at (omega arith)) (sym (get_or-drop at p n 0))
    ∙ sym (take-suc (drop at p) n 0 l)

pub words_part : (n : ℕ) (p : List ℕ) (at : ℕ) → AreBytes p → at + 4 * n ≤ length p → word_bytes (words_at n p at) ≡ take (4 * n) (drop at p)
words_part n p at b h = word_bytes_back n p at b ∙ cells_part (4 * n) p at h

pub cells_whole : (n : ℕ) (p : List ℕ) → length p ≡ n → cells n p 0 ≡ p
cells_whole n p e = cells_part n p 0 (omega arith) ∙ take_all n p (omega arith)
