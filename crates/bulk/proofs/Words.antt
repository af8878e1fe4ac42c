-- The first words of a run of words.
-- Assumes nothing.
use mathlib.Core.Path.{◌≡◌, refl, ap}
use mathlib.Core.List.{List, ◌∷◌}
use Prim.Native.Nat.{ℕ, zero, suc, ◌+◌, ◌≤◌}
use native.Mathlib.Omega.{arith}
use lib.ListN.{take}
use Rattle.wire.specs.Bytes.{be_at, words_at}

pub first_words : (n m : ℕ) (p : List ℕ) (at : ℕ) → n ≤ m → take n (words_at m p at) ≡ words_at n p at
unfolding words_at
first_words zero m p at h = refl
first_words (suc n) zero p at h = absurd (omega arith)
first_words (suc n) (suc m) p at h = ap (λ (ws : List ℕ). be_at 4 p at ∷ ws) (first_words n m p (at + 4) (omega arith))
