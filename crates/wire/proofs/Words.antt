-- Laws of words read from bytes: how many there are, and each of them.
-- Assumes nothing.
use mathlib.Core.Path.{◌≡◌, refl, ap, ◌∙◌}
use mathlib.Core.List.{List, [], ◌∷◌, ◌++◌}
use Prim.Native.Nat.{ℕ, zero, suc, ◌+◌, ◌*◌, ◌<◌}
use native.Mathlib.Omega.{arith}
use lib.ListN.{length, get_or}
use Rattle.wire.specs.Bytes.{be_at, words_at}

pub words_at_length : (n : ℕ) (p : List ℕ) (at : ℕ) → length (words_at n p at) ≡ n
unfolding words_at
words_at_length zero p at = refl
words_at_length (suc n) p at = ap suc (words_at_length n p (at + 4))

pub words_at_word : (n : ℕ) (p : List ℕ) (at k : ℕ) → k < n → get_or (words_at n p at) k 0 ≡ be_at 4 p (at + 4 * k)
unfolding words_at
words_at_word zero p at k l = absurd (omega arith)
words_at_word (suc n) p at zero l = let e : at ≡ at + 4 * 0 = omega arith in ap (be_at 4 p) e
words_at_word (suc n) p at (suc k) l =
    let e : at + 4 + 4 * k ≡ at + 4 * suc k = omega arith in words_at_word n p (at + 4) k (omega arith) ∙ ap (be_at 4 p) e

-- one word more at the end
pub words_at_more : (n : ℕ) (p : List ℕ) (at : ℕ) → words_at n p at ++ (be_at 4 p (at + 4 * n) ∷ []) ≡ words_at (suc n) p at
unfolding words_at
words_at_more zero p at = let e : at + 4 * 0 ≡ at = omega arith in ap (λ (k : ℕ). be_at 4 p k ∷ []) e
words_at_more (suc n) p at =
    let e : at + 4 * suc n ≡ at + 4 + 4 * n = omega arith in
    ap (λ (k : ℕ). be_at 4 p at ∷ (words_at n p (at + 4) ++ (be_at 4 p k ∷ []))) e ∙ ap (λ (l : List ℕ). be_at 4 p at ∷ l) (words_at_more n p (at + 4))
