-- What the call that cuts out words promises, in the words of the decisions.
-- Assumes nothing.
use mathlib.Core.Path.{◌≡◌}
use mathlib.Core.List.{List, []}
use Prim.Native.Nat.{ℕ, ◌+◌, ◌≤◌}
use native.Mathlib.Omega.{arith}
use lib.Dec.{leb}
use lib.ListN.{length, take, drop}
use borrow.Author.Tests.{leb-true, leb-false}
use Rattle.lists.proofs.Tests.{either}
use Rattle.opening.specs.Opening.{words_from}

-- words cut out of the image
pub words_cut : (image : List ℕ) (at n : ℕ) {r : List ℕ}
    → (at + n ≤ length image → r ≡ take n (drop at image)) × ((at + n ≤ length image → ⊥) → r ≡ []) → r ≡ words_from image at n
words_cut image at n h =
    either (leb (at + n) (length image))
    (λ e. rw e (h.0 (leb-true _ _ e)))
    (λ e. let l = leb-false (at + n) (length image) e in rw e (h.1 (λ k. omega arith)))
