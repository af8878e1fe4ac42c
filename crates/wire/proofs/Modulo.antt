-- The n bytes of a number are those of the number modulo 256^n.
-- Assumes nothing.
use mathlib.Core.Path.{◌≡◌, refl, ap, ap₂, ◌∙◌}
use mathlib.Core.List.{[], ◌∷◌, ◌++◌}
use Prim.Native.Nat.{ℕ, zero, suc, ◌+◌, ◌*◌, ◌/◌, ◌%◌, ◌^◌, ◌<◌}
use native.Mathlib.Nat.{pow-suc, one-le-pow}
use native.Mathlib.Omega.{arith}
use lib.Arith.{mod-mul}
use Rattle.wire.specs.Bytes.{be}

pub be_modulo : (n x : ℕ) → be n (x % 256 ^ n) ≡ be n x
be_modulo zero x = refl
be_modulo (suc n) x =
    let p : 0 < 256 ^ n = one-le-pow n 256 (omega arith) in
    let e : x % 256 ^ suc n ≡ (x / 256 % 256 ^ n) * 256 + x % 256 = ap (λ (k : ℕ). x % k) (pow-suc 256 n) ∙ mod-mul x p (omega arith) in
    let q : x % 256 ^ suc n / 256 ≡ x / 256 % 256 ^ n = omega arith in
    let r : x % 256 ^ suc n % 256 ≡ x % 256 = omega arith in
    ap₂ (λ (a b : ℕ). be n a ++ (b ∷ [])) q r ∙ ap (λ l. l ++ (x % 256 ∷ [])) (be_modulo n (x / 256))
