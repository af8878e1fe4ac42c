-- Words written into a buffer one after the other.
-- Assumes nothing.
use mathlib.Core.Path.{◌≡◌, refl, sym}
use mathlib.Core.List.{List, [], ◌∷◌, ◌++◌, append_assoc}
use Prim.Native.Nat.{ℕ, ◌+◌, ◌-◌, ◌*◌, ◌/◌, ◌%◌, ◌≤◌, ◌<◌}
use native.Mathlib.Numerals.{add-one}
use native.Mathlib.Omega.{arith}
use lib.ListN.{length, take, get_or}
use lib.Seq.{length-take-le, take-suc, drop-drop}
use borrow.Rule.Slice.PartMut.{put_mid}
use Rattle.lists.specs.Splice.{splice}
use Rattle.lists.proofs.Runs.{splice_splice}
use Rattle.wire.specs.Bytes.{be, word_bytes}
use Rattle.wire.proofs.Lengths.{word_bytes_length}

pub word_bytes_append : (u v : List ℕ) → word_bytes (u ++ v) ≡ word_bytes u ++ word_bytes v
unfolding word_bytes
word_bytes_append [] v = refl
word_bytes_append (w ∷ u) v = rw (word_bytes_append u v) (sym (append_assoc (be 4 w) (word_bytes u) (word_bytes v)))

-- one word more at the end
pub word_bytes_more : (ws : List ℕ) (i : ℕ) → i < length ws → word_bytes (take (i + 1) ws) ≡ word_bytes (take i ws) ++ be 4 (get_or ws i 0)
unfolding word_bytes
word_bytes_more ws i h = rw (add-one i, take-suc ws i 0) (word_bytes_append (take i ws) (get_or ws i 0 ∷ []))

-- one turn of a loop that writes words: b holds the first i, and the next goes right after them
pub word_turn : (l b b' ws : List ℕ) (at i : ℕ) → i < length ws → at + 4 * length ws ≤ length l → b ≡ splice l at (word_bytes (take i ws))
    → b' ≡ splice b (at + 4 * i) (be 4 (get_or ws i 0)) → b' ≡ splice l at (word_bytes (take (i + 1) ws))
word_turn l b b' ws at i h room e e' =
    let n : i ≤ length ws = omega arith in
    let k : length (word_bytes (take i ws)) ≡ 4 * i = rw (word_bytes_length, length-take-le) in
    rw (e', e, word_bytes_more ws i h) (splice_splice l (word_bytes (take i ws)) (be 4 (get_or ws i 0)) at (at + 4 * i) (omega arith) (omega arith))

-- the bytes of a word as the library has them, and put in the place of four
pub four_bytes : (x : ℕ) → x / 16777216 % 256 ∷ x / 65536 % 256 ∷ x / 256 % 256 ∷ x % 256 ∷ [] ≡ be 4 x
four_bytes x =
    let second : x / 65536 ≡ x / 256 / 256 = omega arith in
    let first : x / 16777216 ≡ x / 256 / 256 / 256 = omega arith in
    rw (first, second)

pub word_put : (l u : List ℕ) (at x : ℕ) → u ≡ be 4 x → put_mid at (at + 4 - at) l u ≡ splice l at (be 4 x)
unfolding splice
word_put l u at x e =
    let four : at + 4 - at ≡ 4 = omega arith in
    rw (four, e, drop-drop)
