-- Numbers in lists of bytes: their length, where they stand, and that writing and reading undo each other, over the width.
-- Assumes nothing.
use mathlib.Core.Path.{◌≡◌, refl, sym, ap, ap₂, ◌∙◌, subst}
use mathlib.Core.List.{List, [], ◌∷◌, ◌++◌}
use Prim.Native.Nat.{ℕ, zero, suc, ◌+◌, ◌*◌, ◌/◌, ◌%◌, ◌^◌, ◌≤◌, ◌<◌}
use native.Mathlib.Nat.{add_assoc, pow-suc}
use native.Mathlib.Omega.{arith}
use lib.ListN.{length, get_or, length-append, get_or-append}
use lib.Seq.{get_or-append-add}
use Rattle.wire.specs.Bytes.{AreBytes, be, be_at}

-- as many bytes as the width says
pub be_length : (n x : ℕ) → length (be n x) ≡ n
be_length zero x = refl
be_length (suc n) x = length-append (be n (x / 256)) (x % 256 ∷ []) ∙ ap (λ (k : ℕ). k + 1) (be_length n (x / 256)) ∙ omega arith

-- a number that stands after xs
pub be_at_skip : (n : ℕ) (xs p : List ℕ) (at : ℕ) → be_at n (xs ++ p) (length xs + at) ≡ be_at n p at
be_at_skip zero xs p at = refl
be_at_skip (suc n) xs p at =
    ap₂ (λ (x y : ℕ). x * 256 + y) (be_at_skip n xs p at)
    (ap (λ (k : ℕ). get_or (xs ++ p) k 0) (add_assoc (length xs) at n) ∙ get_or-append-add xs p (at + n) 0)

-- a number that stands whole in p
pub be_at_within : (n : ℕ) (p q : List ℕ) (at : ℕ) → at + n ≤ length p → be_at n (p ++ q) at ≡ be_at n p at
be_at_within zero p q at h = refl
be_at_within (suc n) p q at h =
    ap₂ (λ (x y : ℕ). x * 256 + y) (be_at_within n p q at (omega arith)) (get_or-append p q 0 (at + n) (omega arith))

-- the bytes of a number that fits hold the number
pub be_back : (n x : ℕ) → x < 256 ^ n → be_at n (be n x) 0 ≡ x
be_back zero x h = omega arith
be_back (suc n) x h =
    let h' : x < 256 ^ n * 256 = subst (λ (k : ℕ). x < k) (pow-suc 256 n) h in
    let e = be_length n (x / 256) in
    ap₂ (λ (a b : ℕ). a * 256 + b)
    (be_at_within n (be n (x / 256)) (x % 256 ∷ []) 0 (omega (arith, e)) ∙ be_back n (x / 256) (omega arith))
    (ap (λ (k : ℕ). get_or (be n (x / 256) ++ (x % 256 ∷ [])) k 0) (omega (arith, e)) ∙ get_or-append-add (be n (x / 256)) (x % 256 ∷ []) 0 0)
    ∙ omega arith

-- a number of n bytes is below 256^n
pub be_at_below : (n : ℕ) (p : List ℕ) (at : ℕ) → AreBytes p → be_at n p at < 256 ^ n
be_at_below zero p at b = omega arith
be_at_below (suc n) p at b =
    let h = be_at_below n p at b in
    let k = b (at + n) in
    subst (λ (m : ℕ). be_at (suc n) p at < m) (sym (pow-suc 256 n)) (omega arith)

-- the n bytes from index `at` on, one by one
abbrev pub cells : ℕ → List ℕ → ℕ → List ℕ
cells zero p at = []
cells (suc n) p at = cells n p at ++ (get_or p (at + n) 0 ∷ [])

-- the number that bytes hold has those bytes
pub be_of : (n : ℕ) (p : List ℕ) (at : ℕ) → AreBytes p → be n (be_at n p at) ≡ cells n p at
be_of zero p at b = refl
be_of (suc n) p at b =
    let h = b (at + n) in
    let q : (be_at n p at * 256 + get_or p (at + n) 0) / 256 ≡ be_at n p at = omega arith in
    let r : (be_at n p at * 256 + get_or p (at + n) 0) % 256 ≡ get_or p (at + n) 0 = omega arith in
    ap₂ (λ (x y : ℕ). be n x ++ (y ∷ [])) q r ∙ ap (λ (l : List ℕ). l ++ (get_or p (at + n) 0 ∷ [])) (be_of n p at b)

-- the bytes of a word are those of its two halfwords
pub two_halves : (x y : ℕ) → y < 65536 → (more : List ℕ) → be 4 (x * 65536 + y) ++ more ≡ be 2 x ++ be 2 y ++ more
two_halves x y h more =
    let low : (x * 65536 + y) % 256 ≡ y % 256 = omega arith in
    let up : (x * 65536 + y) / 256 ≡ x * 256 + y / 256 = omega arith in
    let up-low : (x * 256 + y / 256) % 256 ≡ y / 256 % 256 = omega arith in
    let top : (x * 256 + y / 256) / 256 ≡ x = omega arith in
    rw (low, up, up-low, top)
