-- Names: two are the same exactly if they have the same length and bytes.
-- Assumes nothing.
use mathlib.Core.Path.{◌≡◌, sym, ap, ◌∙◌}
use mathlib.Core.Logic.{◌↔◌}
use mathlib.Core.Bool.{Bool, true, false}
use mathlib.Core.List.{List}
use Prim.Native.Nat.{ℕ}
use lib.Dec.{eqb}
use lib.ListN.{length, get_or}
use lib.Seq.{ext_get_or}
use borrow.Author.Tests.{eqb-true, eq-eqb}
use Rattle.std.specs.Cmp.Lexicographic.{pointwise, bytes_decides}
use Rattle.lists.specs.Below.{all_below}
use Rattle.lists.proofs.Tests.{either, contra, and_left, and_right, and_both}
use Rattle.lists.proofs.Below.{all_at, all_of}
use Rattle.symbols.specs.Table.{same_name}

abbrev same_bytes : List ℕ → List ℕ → ℕ → Bool
same_bytes a b j = eqb (get_or a j 0) (get_or b j 0)

module _ (a b : List ℕ) where
  pub same_out : same_name a b ≡ true → a ≡ b
  same_out h =
      ext_get_or 0 a b (eqb-true _ _ (and_left (eqb (length a) (length b)) (all_below (same_bytes a b) (length a)) h))
      (λ j l. eqb-true _ _ (all_at (same_bytes a b) (length a) (and_right (eqb (length a) (length b)) (all_below (same_bytes a b) (length a)) h) l))

  pub same_in : a ≡ b → same_name a b ≡ true
  same_in e =
      and_both (eq-eqb (length a) (length b) (ap length e))
      (all_of (same_bytes a b) (length a) (λ j l. eq-eqb _ _ (ap (λ (s : List ℕ). get_or s j 0) e)))

  pub same_name_lem : (same_name a b ≡ true) ↔ (a ≡ b)
  same_name_lem = (same_out, same_in)

  pub apart_name : (a ≡ b → ⊥) → same_name a b ≡ false
  apart_name f = either (same_name a b) (λ h. absurd (f (same_out h))) (λ h. h)

  -- as the library compares them
  pub same_told : pointwise eqb a b ≡ same_name a b
  same_told =
      either (same_name a b)
      (λ h. (bytes_decides a b).1 (same_out h) ∙ sym h)
      (λ h. either (pointwise eqb a b) (λ e. absurd (contra (same_in ((bytes_decides a b).0 e)) h)) (λ e. e ∙ sym h))
