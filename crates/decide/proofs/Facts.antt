-- What the calls that write words and replies promise, in the words of the decisions.
-- Assumes nothing.
use mathlib.Core.Path.{◌≡◌}
use mathlib.Core.Bool.{◌&&◌, cond}
use mathlib.Core.List.{List}
use Prim.Native.Nat.{ℕ, ◌+◌, ◌≤◌, ◌<◌}
use native.Mathlib.Omega.{arith}
use lib.Dec.{leb}
use lib.ListN.{length, take}
use borrow.Author.Tests.{leb-true, leb-false}
use Rattle.lists.specs.Splice.{splice}
use Rattle.lists.proofs.Tests.{either}
use Rattle.rules.specs.Packets.{data_words}

-- a load
pub words_stored : (p image : List ℕ) (at n : ℕ) {r : List ℕ}
    → (n ≤ 11 → at + n ≤ length image → r ≡ splice image at (take n (data_words p)))
    × ((n ≤ 11 → at + n ≤ length image → ⊥) → r ≡ image)
    → r ≡ cond (leb n 11 && leb (at + n) (length image)) (splice image at (take n (data_words p))) image
words_stored p image at n h =
    either (leb n 11)
    (λ e. either (leb (at + n) (length image))
    (λ f. rw (e, f) (h.0 (leb-true _ _ e) (leb-true _ _ f)))
    (λ f. let l = leb-false (at + n) (length image) f in rw (e, f) (h.1 (λ j k. omega arith))))
    (λ e. let l = leb-false n 11 e in rw e (h.1 (λ j k. omega arith)))

-- a reply of n bytes
pub reply_put : (n : ℕ) (reply v : List ℕ) {r : List ℕ} → (n ≤ length reply → r ≡ splice reply 0 v) × (length reply < n → r ≡ reply)
    → r ≡ cond (leb n (length reply)) (splice reply 0 v) reply
reply_put n reply v h =
    either (leb n (length reply)) (λ e. rw e (h.0 (leb-true _ _ e))) (λ e. rw e (h.1 (leb-false n (length reply) e)))
