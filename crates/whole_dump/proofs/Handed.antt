-- Packets handed over back to back with the list of their lengths: each is found where it lies, and every list of lengths that fits the bytes is of some packets.
-- Assumes nothing.
use mathlib.Core.Path.{◌≡◌, refl, sym, ap, ap₂, ◌∙◌}
use mathlib.Core.List.{List, [], ◌∷◌, ◌++◌, append_assoc}
use Prim.Native.Nat.{ℕ, zero, suc, ◌+◌, ◌*◌, ◌/◌, ◌%◌, ◌≤◌}
use native.Mathlib.Omega.{arith}
use lib.ListN.{length, get_or, take, drop, length-append, length-drop, take-append-drop}
use lib.Seq.{length-take-le, take-append_seam, drop-append_seam}
use Rattle.wire.specs.Bytes.{AreBytes}
use Rattle.wire.specs.ByByte.{two}
use Rattle.wire.proofs.ByByte.{at_two}
use Rattle.whole_dump.specs.Check.{packet_at}
use Rattle.whole_dump.specs.Numbers.{bytes_of}
use Rattle.whole_dump.specs.Whole.{back_to_back, lengths_of}
use Rattle.whole_dump.proofs.Tests.{before_is}

-- FROM PACKETS

pub lengths_two_each : (ps : List (List ℕ)) → length (lengths_of ps) ≡ 2 * length ps
lengths_two_each [] = refl
lengths_two_each (p ∷ ps) = let e = lengths_two_each ps in omega arith

-- the lengths after the first
two_later : (a b : ℕ) (l : List ℕ) (i : ℕ) → two (a ∷ b ∷ l) (2 * suc i) ≡ two l (2 * i)
two_later a b l i =
    let e : 2 * suc i ≡ suc (suc (2 * i)) = omega arith in
    let f : 2 * suc i + 1 ≡ suc (suc (2 * i + 1)) = omega arith in
    ap₂ (λ (x y : ℕ). x * 256 + y) (ap (λ (k : ℕ). get_or (a ∷ b ∷ l) k 0) e) (ap (λ (k : ℕ). get_or (a ∷ b ∷ l) k 0) f)

pub length_is : (ps : List (List ℕ)) (i : ℕ) → two (lengths_of ps) (2 * i) ≡ length (get_or ps i [])
length_is [] i = refl
length_is (p ∷ ps) zero = omega arith
length_is (p ∷ ps) (suc i) = two_later (length p / 256) (length p % 256) (lengths_of ps) i ∙ length_is ps i

pub back_to_back_append : (ps qs : List (List ℕ)) → back_to_back (ps ++ qs) ≡ back_to_back ps ++ back_to_back qs
back_to_back_append [] qs = refl
back_to_back_append (p ∷ ps) qs = rw (back_to_back_append ps qs, append_assoc)

-- the packets before packet i, and those from it on
module _ (ps : List (List ℕ)) (i : ℕ) where
  parted : back_to_back ps ≡ back_to_back (take i ps) ++ back_to_back (drop i ps)
  parted = ap back_to_back (sym (take-append-drop i ps)) ∙ back_to_back_append (take i ps) (drop i ps)

  pub before_within : length (back_to_back (take i ps)) ≤ length (back_to_back ps)
  before_within = let e = ap length parted ∙ length-append (back_to_back (take i ps)) (back_to_back (drop i ps)) in omega arith

one_more : (ps : List (List ℕ)) (i : ℕ) → length (back_to_back (take (suc i) ps)) ≡ length (back_to_back (take i ps)) + length (get_or ps i [])
one_more [] zero = refl
one_more [] (suc i) = refl
one_more (p ∷ ps) zero = simp length-append (omega arith)
one_more (p ∷ ps) (suc i) = let e = one_more ps i in simp length-append (omega arith)

pub bytes_of_is : (ps : List (List ℕ)) (i : ℕ) → bytes_of (lengths_of ps) i ≡ length (back_to_back (take i ps))
bytes_of_is ps zero = refl
bytes_of_is ps (suc i) = ap₂ (λ (x y : ℕ). x + y) (bytes_of_is ps i) (length_is ps i) ∙ sym (one_more ps i)

first_of : (ps : List (List ℕ)) (i : ℕ) → take (length (get_or ps i [])) (back_to_back (drop i ps)) ≡ get_or ps i []
first_of [] i = refl
first_of (p ∷ ps) zero = take-append_seam p (back_to_back ps)
first_of (p ∷ ps) (suc i) = first_of ps i

pub packet_is : (ps : List (List ℕ)) (i : ℕ) → packet_at (back_to_back ps) (lengths_of ps) i ≡ get_or ps i []
unfolding packet_at
packet_is ps i =
    ap₂ (λ (n k : ℕ). take n (drop k (back_to_back ps))) (at_two (lengths_of ps) (2 * i) ∙ length_is ps i) (before_is (lengths_of ps) i ∙ bytes_of_is ps i)
    ∙ ap (λ (l : List ℕ). take (length (get_or ps i [])) (drop (length (back_to_back (take i ps))) l)) (parted ps i)
    ∙ ap (take (length (get_or ps i []))) (drop-append_seam (back_to_back (take i ps)) (back_to_back (drop i ps)))
    ∙ first_of ps i

-- TO PACKETS

bytes_of_later : (a b : ℕ) (l : List ℕ) (n : ℕ) → bytes_of (a ∷ b ∷ l) (suc n) ≡ a * 256 + b + bytes_of l n
bytes_of_later a b l zero = omega arith
bytes_of_later a b l (suc n) = let e = bytes_of_later a b l n in let f = two_later a b l n in omega arith

pub packets_of : (n : ℕ) (bytes lengths : List ℕ) → AreBytes lengths → length lengths ≡ 2 * n → length bytes ≡ bytes_of lengths n
    → (ps : List (List ℕ)) × (bytes ≡ back_to_back ps) × (lengths ≡ lengths_of ps)
packets_of zero [] [] ok e f = ([], refl, refl)
packets_of zero (x ∷ bytes) [] ok e f = absurd (omega arith)
packets_of zero bytes (a ∷ ls) ok e f = absurd (omega arith)
packets_of (suc n) bytes [] ok e f = absurd (omega arith)
packets_of (suc n) bytes (a ∷ []) ok e f = absurd (omega arith)
packets_of (suc n) bytes (a ∷ b ∷ ls) ok e f =
    let k : ℕ = a * 256 + b in
    let l = bytes_of_later a b ls n in
    let room : k ≤ length bytes = omega arith in
    let rest : length (drop k bytes) ≡ bytes_of ls n = simp length-drop (omega arith) in
    let (ps, d, g) = packets_of n (drop k bytes) ls (λ i. ok (suc (suc i))) (omega arith) rest in
    let size : length (take k bytes) ≡ k = length-take-le k bytes room in
    let low-a = ok 0 in
    let low-b = ok 1 in
    let is-a : length (take k bytes) / 256 ≡ a = omega arith in
    let is_b : length (take k bytes) % 256 ≡ b = omega arith in
    (take k bytes ∷ ps, rw (← d) (sym (take-append-drop k bytes)), rw (is-a, is_b, ← g))
