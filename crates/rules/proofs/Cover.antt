-- The pieces of a range, joined, are the range: over the piece size.
-- Assumes nothing.
use mathlib.Core.Path.{◌≡◌, ◌∙◌, sym}
use mathlib.Core.List.{List}
use Prim.Native.Nat.{ℕ, zero, suc, ◌+◌, ◌*◌, ◌-◌, ◌/◌, ◌≤◌, ◌<◌}
use native.Mathlib.Omega.{arith}
use native.Mathlib.Nat.{mul-zero, lt-mul-div-succ, le-div_iff_mul-le, div-eq_of_lt-le}
use lib.ListN.{length, take}
use lib.Seq.{take-add, take_all}
use Rattle.rules.specs.Demand3.{pieces, joined}

module _ (z : ℕ) (some : 0 < z) where
  -- a piece is due if the words before it are fewer than those asked for
  pub due_before : (j n : ℕ) → z * j < n → j < pieces z n
  unfolding pieces
  due_before j n h = (le-div_iff_mul-le {k = z} {x = suc j} {y = n + (z - 1)} some).1 (omega arith)

  -- and the last if no words are left after it
  pub due_last : (j n : ℕ) → z * j < n → n ≤ z * j + z → suc j ≡ pieces z n
  unfolding pieces
  due_last j n h k = sym (div-eq_of_lt-le {k = suc j} z {m = n + (z - 1)} (omega arith) (omega arith))

joined_take : (z : ℕ) (ws : List ℕ) (j : ℕ) → joined z ws j ≡ take (z * j) ws
joined_take z ws zero = rw mul-zero
joined_take z ws (suc j) =
    let q : z * suc j ≡ z * j + z = omega arith in
    rw (q, take-add, joined_take z ws j)

pub pieces_cover : (z n : ℕ) → 0 < z → (ws : List ℕ) → length ws ≡ n → joined z ws (pieces z n) ≡ ws
unfolding pieces
pieces_cover z n some ws h =
    let m = (n + (z - 1)) / z in
    let q : length ws ≤ z * m = omega (arith, lt-mul-div-succ (n + (z - 1)) some) in
    joined_take z ws m ∙ take_all (z * m) ws q
