-- Laws of tests.
-- Assumes nothing.
use mathlib.Core.Path.{◌≡◌, refl, sym, ◌∙◌}
use mathlib.Core.Bool.{Bool, true, false, ◌&&◌, ◌||◌, true≢false}
use Prim.Native.Nat.{ℕ, ◌<◌, ◌≤◌}
use native.Mathlib.Decide.{dec_lt}
use native.Mathlib.Omega.{arith}

-- a test is one or the other
pub either {ℓ} : {A : Type ℓ} (b : Bool) → (b ≡ true → A) → (b ≡ false → A) → A
either true f g = f refl
either false f g = g refl

pub contra : {b : Bool} → b ≡ true → b ≡ false → ⊥
contra p q = true≢false (sym p ∙ q)

-- the parts of a conjunction that holds, and of a disjunction that fails
pub and_left : (a b : Bool) → (a && b) ≡ true → a ≡ true
and_left true b h = refl
and_left false b h = h

pub and_right : (a b : Bool) → (a && b) ≡ true → b ≡ true
and_right true b h = h
and_right false b h = absurd (true≢false (sym h))

pub and_both : {a b : Bool} → a ≡ true → b ≡ true → (a && b) ≡ true
and_both p q = rw (p, q)

pub or_left : (a b : Bool) → (a || b) ≡ false → a ≡ false
or_left true b h = h
or_left false b h = refl

pub or_right : (a b : Bool) → (a || b) ≡ false → b ≡ false
or_right true b h = absurd (true≢false h)
or_right false b h = h

-- less, or not; and three ways to compare
pub by_lt {ℓ} : {A : Type ℓ} (x y : ℕ) → (x < y → A) → (y ≤ x → A) → A
by_lt x y f g = elim (dec_lt x y) [ yes p ↦ f p | no p ↦ g (omega arith) ]

pub by_order {ℓ} : {A : Type ℓ} (x y : ℕ) → (x < y → A) → (y < x → A) → (x ≡ y → A) → A
by_order x y f g h = by_lt x y f (λ p. by_lt y x g (λ q. h (omega arith)))
