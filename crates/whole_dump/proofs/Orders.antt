-- A list in another order: what holds of all elements, of some, or of each two of the one list holds so of the other.
-- Assumes nothing.
use mathlib.Core.Path.{◌≡◌, refl, ap, subst, ◌∙◌}
use mathlib.Core.Logic.{◌⊎◌, inl, inr}
use mathlib.Core.List.Permᴰ
use mathlib.Core.List.{List, [], ◌∷◌, Permᴰ}
use Prim.Native.Nat.{ℕ, zero, suc, ◌<◌}
use native.Mathlib.Omega.{arith}
use lib.ListN.{length, get_or}

pub perm_length : {A : Type 0} {l₁ l₂ : List A} → Permᴰ l₁ l₂ → length l₁ ≡ length l₂
perm_length Permᴰ.nil = refl
perm_length (Permᴰ.cons e d) = ap suc (perm_length d)
perm_length (Permᴰ.swap e f) = refl
perm_length (Permᴰ.trans d₁ d₂) = perm_length d₁ ∙ perm_length d₂

-- ALL AND SOME

module _ {A : Type 0} (P : A → Type 0) where
  abbrev pub All : List A → Type 0
  All [] = Unit {0}
  All (x ∷ xs) = P x × All xs

  abbrev pub Some : List A → Type 0
  Some [] = ⊥
  Some (x ∷ xs) = P x ⊎ Some xs

  pub all_of : (d : A) (l : List A) → ((i : ℕ) → i < length l → P (get_or l i d)) → All l
  all_of d [] f = tt
  all_of d (x ∷ xs) f = (f 0 (omega arith), all_of d xs (λ i h. f (suc i) (omega arith)))

  pub all_at : (d : A) (l : List A) → All l → (i : ℕ) → i < length l → P (get_or l i d)
  all_at d [] a i h = absurd (omega arith)
  all_at d (x ∷ xs) a zero h = a.0
  all_at d (x ∷ xs) a (suc i) h = all_at d xs a.1 i (omega arith)

  pub some_of : (d : A) (l : List A) (i : ℕ) → i < length l → P (get_or l i d) → Some l
  some_of d [] i h p = absurd (omega arith)
  some_of d (x ∷ xs) zero h p = inl p
  some_of d (x ∷ xs) (suc i) h p = inr (some_of d xs i (omega arith) p)

  pub some_at : (d : A) (l : List A) → Some l → (i : ℕ) × (i < length l) × P (get_or l i d)
  some_at d [] s = absurd s
  some_at d (x ∷ xs) (inl p) = (0, omega arith, p)
  some_at d (x ∷ xs) (inr s) = let (i, h, p) = some_at d xs s in (suc i, omega arith, p)

  pub all_perm : {l₁ l₂ : List A} → Permᴰ l₁ l₂ → All l₁ → All l₂
  all_perm Permᴰ.nil a = a
  all_perm (Permᴰ.cons e d) a = (subst P e a.0, all_perm d a.1)
  all_perm (Permᴰ.swap e f) a = (subst P f a.1.0, (subst P e a.0, a.1.1))
  all_perm (Permᴰ.trans d₁ d₂) a = all_perm d₂ (all_perm d₁ a)

  pub some_perm : {l₁ l₂ : List A} → Permᴰ l₁ l₂ → Some l₁ → Some l₂
  some_perm Permᴰ.nil s = s
  some_perm (Permᴰ.cons e d) (inl p) = inl (subst P e p)
  some_perm (Permᴰ.cons e d) (inr s) = inr (some_perm d s)
  some_perm (Permᴰ.swap e f) (inl p) = inr (inl (subst P e p))
  some_perm (Permᴰ.swap e f) (inr (inl p)) = inl (subst P f p)
  some_perm (Permᴰ.swap e f) (inr (inr s)) = inr (inr s)
  some_perm (Permᴰ.trans d₁ d₂) s = some_perm d₂ (some_perm d₁ s)

  -- such an element can be put first
  pub some_first : (l : List A) → Some l → (x : A) × P x × ((rest : List A) × Permᴰ l (x ∷ rest))
  some_first [] s = absurd s
  some_first (x ∷ xs) (inl p) = (x, p, (xs, Permᴰ.refl (x ∷ xs)))
  some_first (x ∷ xs) (inr s) =
      let (y, p, (rest, d)) = some_first xs s in
      (y, p, (x ∷ rest, Permᴰ.trans (Permᴰ.cons refl d) (Permᴰ.swap refl refl)))

  -- some has it or none
  pub some_or_none : ((x : A) → Dec (P x)) → (l : List A) → Dec (Some l)
  some_or_none dec [] = no (λ s. s)
  some_or_none dec (x ∷ xs) =
      elim (dec x) [
        | yes p ↦ yes (inl p)
        | no n ↦ elim (some_or_none dec xs) [ yes s ↦ yes (inr s) | no m ↦ no (λ s. elim s [ inl p ↦ n p | inr t ↦ m t ]) ]
      ]

-- EACH TWO

module _ {A : Type 0} (R : A → A → Type 0) where
  abbrev pub EachTwo : List A → Type 0
  EachTwo [] = Unit {0}
  EachTwo (x ∷ xs) = All (R x) xs × EachTwo xs

  pub each_two_of : (d : A) (l : List A) → ((i j : ℕ) → i < j → j < length l → R (get_or l i d) (get_or l j d)) → EachTwo l
  each_two_of d [] f = tt
  each_two_of d (x ∷ xs) f = (
    all_of (R x) d xs (λ i h. f 0 (suc i) (omega arith) (omega arith)),
    each_two_of d xs (λ i j h k. f (suc i) (suc j) (omega arith) (omega arith)),
  )

  pub each_two_at : (d : A) (l : List A) → EachTwo l → (i j : ℕ) → i < j → j < length l → R (get_or l i d) (get_or l j d)
  each_two_at d [] t i j h k = absurd (omega arith)
  each_two_at d (x ∷ xs) t i zero h k = absurd (omega arith)
  each_two_at d (x ∷ xs) t zero (suc j) h k = all_at (R x) d xs t.0 j (omega arith)
  each_two_at d (x ∷ xs) t (suc i) (suc j) h k = each_two_at d xs t.1 i j (omega arith) (omega arith)

  module _ (turned : (x y : A) → R x y → R y x) where
    pub each_two_perm : {l₁ l₂ : List A} → Permᴰ l₁ l₂ → EachTwo l₁ → EachTwo l₂
    each_two_perm Permᴰ.nil t = t
    each_two_perm (Permᴰ.cons {l₂ = l₂} e d) t =
        (subst (λ (x : A). All (R x) l₂) e (all_perm (R _) d t.0), each_two_perm d t.1)
    each_two_perm (Permᴰ.swap {a = a} {b = b} {l = l} e f) t = (
      (rw (← e, ← f) (turned a b t.0.0), subst (λ (x : A). All (R x) l) f t.1.0),
      (subst (λ (x : A). All (R x) l) e t.0.1, t.1.1),
    )
    each_two_perm (Permᴰ.trans d₁ d₂) t = each_two_perm d₂ (each_two_perm d₁ t)
