-- Numbers in bytes: those of a part of a list, and of bytes that are the same.
-- Assumes nothing.
use mathlib.Core.Path.{◌≡◌, refl, sym, ap, ap₂, ◌∙◌}
use mathlib.Core.List.{List}
use mathlib.Core.Logic.{⊎_elim}
use Prim.Native.Nat.{ℕ, zero, suc, ◌+◌, ◌*◌, ◌≤◌, ◌<◌}
use native.Mathlib.Nat.{add_assoc, eq-or-lt_of_le}
use native.Mathlib.Omega.{arith}
use lib.ListN.{get_or, take, drop}
use lib.Seq.{get_or-take, get_or-drop}
use Rattle.wire.specs.Bytes.{AreBytes, be_at}

-- a byte and a number in a part of a list
pub part_byte : (t : List ℕ) (from m k : ℕ) → k < m → get_or (take m (drop from t)) k 0 ≡ get_or t (from + k) 0
part_byte t from m k l = get_or-take m (drop from t) k 0 l ∙ get_or-drop from t k 0

pub part_number : (n : ℕ) (t : List ℕ) (from m at : ℕ) → at + n ≤ m → be_at n (take m (drop from t)) at ≡ be_at n t (from + at)
part_number zero t from m at l = refl
part_number (suc n) t from m at l =
    ap₂ (λ (x y : ℕ). x * 256 + y) (part_number n t from m at (omega arith))
    (part_byte t from m (at + n) (omega arith) ∙ ap (λ (k : ℕ). get_or t k 0) (sym (add_assoc from at n)))

module _ (r s : List ℕ) where
  -- bytes that are the same hold the same number
  pub number_same : (n at : ℕ) → ((k : ℕ) → k < n → get_or r (at + k) 0 ≡ get_or s (at + k) 0) → be_at n r at ≡ be_at n s at
  number_same zero at f = refl
  number_same (suc n) at f = ap₂ (λ (x y : ℕ). x * 256 + y) (number_same n at (λ k l. f k (omega arith))) (f n (omega arith))

  -- and the other way round
  pub bytes_same : AreBytes r → AreBytes s → (n at : ℕ) → be_at n r at ≡ be_at n s at → (k : ℕ) → k < n → get_or r (at + k) 0 ≡ get_or s (at + k) 0
  bytes_same b c zero at e k l = absurd (omega arith)
  bytes_same b c (suc n) at e k l =
      let x = b (at + n) in
      let y = c (at + n) in
      let front : be_at n r at ≡ be_at n s at = omega arith in
      let last : get_or r (at + n) 0 ≡ get_or s (at + n) 0 = omega arith in
      ⊎_elim
      (λ (h : k ≡ n). rw h last)
      (λ (h : k < n). bytes_same b c n at front k h)
      (eq-or-lt_of_le {n = k} {m = n} (omega arith))
