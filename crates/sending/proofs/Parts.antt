-- A part of a part of a list is a part of the list.
-- Assumes nothing.
use mathlib.Core.Path.{◌≡◌, sym, ◌∙◌}
use mathlib.Core.List.{List, [], ◌∷◌}
use Prim.Native.Nat.{ℕ, zero, suc, ◌+◌, ◌-◌, min}
use native.Mathlib.Nat.{sub-zero, zero-sub, suc-sub-suc, min-eq_left, min-eq_right}
use native.Mathlib.Omega.{arith}
use lib.ListN.{take, drop, length-take}
use lib.Seq.{take-nil, take_all, take-take, drop-drop}
use Rattle.lists.proofs.Tests.{by_lt}

take_of_take : (a b : ℕ) (l : List ℕ) → take a (take b l) ≡ take (min a b) l
take_of_take a b l =
    by_lt b a
    (λ h. take_all a (take b l) (simp length-take (omega arith)) ∙ rw (min-eq_right {n = b} {m = a} (omega arith)))
    (λ h. take-take a b l h ∙ rw (min-eq_left {n = a} {m = b} h))

drop_of_take : (k w : ℕ) (l : List ℕ) → drop k (take w l) ≡ take (w - k) (drop k l)
drop_of_take zero w l = rw sub-zero
drop_of_take (suc k) zero l = rw zero-sub
drop_of_take (suc k) (suc w) [] = sym (take-nil (suc w - suc k))
drop_of_take (suc k) (suc w) (x ∷ xs) = rw suc-sub-suc (drop_of_take k w xs)

-- at most a elements from element k on, of the w elements from element i on
pub part_of_part : (a k w i : ℕ) (l : List ℕ) → take a (drop k (take w (drop i l))) ≡ take (min a (w - k)) (drop (i + k) l)
part_of_part a k w i l = rw (drop_of_take k w (drop i l), drop-drop k i l, take_of_take a (w - k) (drop (i + k) l))
