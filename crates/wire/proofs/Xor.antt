-- Laws of the exclusive or: those that `lib.Bits` does not have, and those of a whole list.
-- Assumes nothing.
use mathlib.Core.Path.{◌≡◌, refl, sym, ap, ap₂, ◌∙◌}
use mathlib.Core.List.{List, [], ◌∷◌, ◌++◌}
use Prim.Native.Nat.{ℕ, zero, suc, ◌+◌, ◌*◌, ◌/◌, ◌%◌, ◌<◌, ◌≤◌}
use native.Mathlib.Numerals.{add-one}
use native.Mathlib.Omega.{arith}
use lib.Bits.{bit_xor, xor_zero_l, xor_zero_r, xor_comm, xor_self, xor_shr, xor_mod}
pub use lib.Bits.{xor_assoc}
use lib.ListN.{length, get_or, set, take, drop, drop_of_length-le, take-append-drop}
use lib.Seq.{drop-cons, drop-drop}
use Rattle.wire.specs.Bytes.{AreBytes, be, be_at}
use Rattle.wire.specs.Xor.{xor_all}
use Rattle.wire.proofs.Modulo.{be_modulo}
use Rattle.wire.proofs.Numbers.{be_of}
use Rattle.wire.proofs.Undo.{cells_part}

-- NUMBERS

-- what is put in twice is out again
pub xor_twice : (a b : ℕ) → bit_xor a (bit_xor a b) ≡ b
xor_twice a b = sym (xor_assoc a a b) ∙ ap (λ (x : ℕ). bit_xor x b) (xor_self a) ∙ xor_zero_l b

xor_left_comm : (a b c : ℕ) → bit_xor a (bit_xor b c) ≡ bit_xor b (bit_xor a c)
xor_left_comm a b c = sym (xor_assoc a b c) ∙ ap (λ (x : ℕ). bit_xor x c) (xor_comm a b) ∙ xor_assoc b a c

xor_pairs : (a b c d : ℕ) → bit_xor (bit_xor a b) (bit_xor c d) ≡ bit_xor (bit_xor a c) (bit_xor b d)
xor_pairs a b c d = xor_assoc a b (bit_xor c d) ∙ ap (bit_xor a) (xor_left_comm b c d) ∙ sym (xor_assoc a c (bit_xor b d))

-- LISTS

-- a store takes the old byte out and puts the new one in
pub xor_set : (p : List ℕ) (i v : ℕ) → i < length p → xor_all (set p i v) ≡ bit_xor v (bit_xor (get_or p i 0) (xor_all p))
unfolding xor_all
xor_set [] i v h = absurd (omega arith)
xor_set (x ∷ xs) zero v h = ap (bit_xor v) (sym (xor_twice x (xor_all xs)))
xor_set (x ∷ xs) (suc i) v h =
    ap (bit_xor x) (xor_set xs i v (omega arith))
    ∙ xor_left_comm x v _
    ∙ ap (bit_xor v) (xor_left_comm x (get_or xs i 0) (xor_all xs))

-- one turn of a loop that goes through a list, and its end
pub xor_turn : (s : List ℕ) (i x : ℕ) → i < length s → bit_xor (bit_xor x (get_or s i 0)) (xor_all (drop (i + 1) s)) ≡ bit_xor x (xor_all (drop i s))
unfolding xor_all
xor_turn s i x h = rw (add-one, drop-cons s i 0) (xor_assoc x (get_or s i 0) (xor_all (drop (suc i) s)))

pub xor_end : (s : List ℕ) (i x : ℕ) → length s ≤ i → bit_xor x (xor_all (drop i s)) ≡ x
unfolding xor_all
xor_end s i x h = rw (drop_of_length-le s h) (xor_zero_r x)

pub xor_joined : (u v : List ℕ) → xor_all (u ++ v) ≡ bit_xor (xor_all u) (xor_all v)
unfolding xor_all
xor_joined [] v = sym (xor_zero_l (xor_all v))
xor_joined (b ∷ u) v = ap (bit_xor b) (xor_joined u v) ∙ sym (xor_assoc b (xor_all u) (xor_all v))

pub four_joined : (a b c d : ℕ) → bit_xor (bit_xor (bit_xor a b) c) d ≡ xor_all (a ∷ b ∷ c ∷ d ∷ [])
unfolding xor_all
four_joined a b c d = rw (xor_zero_r d) (xor_assoc (bit_xor a b) c d ∙ xor_assoc a b (bit_xor c d))

-- BYTES OF A NUMBER

-- the lowest byte is last
xor_last : (n x : ℕ) → xor_all (be (suc n) x) ≡ bit_xor (xor_all (be n (x / 256))) (x % 256)
unfolding xor_all
xor_last n x = xor_joined (be n (x / 256)) (x % 256 ∷ []) ∙ ap (bit_xor (xor_all (be n (x / 256)))) (xor_zero_r (x % 256))

-- of the exclusive or of two numbers, over the width
pub xor_be : (n a b : ℕ) → xor_all (be n (bit_xor a b)) ≡ bit_xor (xor_all (be n a)) (xor_all (be n b))
unfolding xor_all
xor_be zero a b = refl
xor_be (suc n) a b =
    xor_last n (bit_xor a b)
    ∙ ap₂ (λ (x y : ℕ). bit_xor (xor_all (be n x)) y) (xor_shr a b 8) (xor_mod a b 8)
    ∙ ap (λ (x : ℕ). bit_xor x (bit_xor (a % 256) (b % 256))) (xor_be n (a / 256) (b / 256))
    ∙ xor_pairs (xor_all (be n (a / 256))) (xor_all (be n (b / 256))) (a % 256) (b % 256)
    ∙ sym (ap₂ (λ (x y : ℕ). bit_xor x y) (xor_last n a) (xor_last n b))

-- of eight bytes: that of the two words in them
pub xor_halves : (x : ℕ) → xor_all (be 4 (bit_xor (x / 4294967296) (x % 4294967296))) ≡ xor_all (be 8 x)
xor_halves x =
    let up : x / 256 / 256 / 256 / 256 ≡ x / 4294967296 = omega arith in
    let eight : be 8 x ≡ be 4 (x / 4294967296) ++ be 4 x = rw up in
    xor_be 4 (x / 4294967296) (x % 4294967296)
    ∙ ap (λ (l : List ℕ). bit_xor (xor_all (be 4 (x / 4294967296))) (xor_all l)) (be_modulo 4 x)
    ∙ sym (xor_joined (be 4 (x / 4294967296)) (be 4 x))
    ∙ ap xor_all (sym eight)

-- one turn of a loop that takes eight bytes at a time as one number
pub eight_turn : (s : List ℕ) → AreBytes s → (i x : ℕ) → 8 * i + 8 ≤ length s
    → bit_xor (xor_all (be 8 (bit_xor x (be_at 8 s (8 * i))))) (xor_all (drop (8 * (i + 1)) s)) ≡ bit_xor (xor_all (be 8 x)) (xor_all (drop (8 * i) s))
eight_turn s b i x h =
    let next : 8 * i + 8 ≡ 8 * (i + 1) = omega arith in
    let here = take 8 (drop (8 * i) s) in
    let bytes : be 8 (be_at 8 s (8 * i)) ≡ here = be_of 8 s (8 * i) b ∙ cells_part 8 s (8 * i) h in
    let rest : drop 8 (drop (8 * i) s) ≡ drop (8 * (i + 1)) s = drop-drop 8 (8 * i) s ∙ ap (λ (k : ℕ). drop k s) next in
    ap (λ (y : ℕ). bit_xor y (xor_all (drop (8 * (i + 1)) s))) (xor_be 8 x (be_at 8 s (8 * i)))
    ∙ xor_assoc (xor_all (be 8 x)) (xor_all (be 8 (be_at 8 s (8 * i)))) (xor_all (drop (8 * (i + 1)) s))
    ∙ ap (bit_xor (xor_all (be 8 x)))
    (ap₂ (λ (u v : List ℕ). bit_xor (xor_all u) (xor_all v)) bytes (sym rest)
    ∙ sym (xor_joined here (drop 8 (drop (8 * i) s)))
    ∙ ap xor_all (take-append-drop 8 (drop (8 * i) s)))
