-- The definitions of this crate, byte by byte.
-- Assumes nothing.
use mathlib.Core.Path.{◌≡◌, refl, sym, ap, ◌∙◌}
use mathlib.Core.List.{List, [], ◌∷◌, ◌++◌}
use Prim.Native.Nat.{ℕ, zero, suc, ◌+◌, ◌*◌, ◌<◌}
use native.Mathlib.Nat.{add-zero}
use native.Mathlib.Omega.{arith}
use lib.Bits.{xor_zero_r}
use lib.ListN.{length, get_or, drop}
use lib.Seq.{get_or-append-add}
use Rattle.wire.specs.Bytes.{be, be_at, word_bytes}
use Rattle.wire.specs.Xor.{xor_all}
use Rattle.wire.specs.ByByte.{two, four, ByByte}
use Rattle.wire.proofs.Lengths.{word_bytes_length}
use Rattle.wire.proofs.Words.{words_at_length, words_at_word}
use Rattle.wire.proofs.Xor.{xor_joined}

pub at_two : (p : List ℕ) (at : ℕ) → be_at 2 p at ≡ two p at
at_two p at = let e = ap (λ (i : ℕ). get_or p i 0) (add-zero at) in omega (arith, e)

pub at_four : (p : List ℕ) (at : ℕ) → be_at 4 p at ≡ four p at
at_four p at = let e = ap (λ (i : ℕ). get_or p i 0) (add-zero at) in omega (arith, e)

-- a number that four bytes hold, and two
pub in_four : (p : List ℕ) (at x : ℕ) → be_at 4 p at ≡ x → four p at ≡ x
in_four p at x e = sym (at_four p at) ∙ e

-- byte j of word k
pub word_byte : (ws : List ℕ) (k j : ℕ) → k < length ws → get_or (word_bytes ws) (4 * k + j) 0 ≡ get_or (be 4 (get_or ws k 0) ++ word_bytes (drop (suc k) ws)) j 0
unfolding word_bytes
word_byte [] k j h = absurd (omega arith)
word_byte (w ∷ ws) zero j h = let e : 4 * 0 + j ≡ j = omega arith in ap (λ (i : ℕ). get_or (be 4 w ++ word_bytes ws) i 0) e
word_byte (w ∷ ws) (suc k) j h =
    let e : 4 * suc k + j ≡ 4 + (4 * k + j) = omega arith in
    ap (λ (i : ℕ). get_or (be 4 w ++ word_bytes ws) i 0) e ∙ get_or-append-add (be 4 w) (word_bytes ws) (4 * k + j) 0 ∙ word_byte ws k j (omega arith)

pub by_byte : ByByte
by_byte =
    record {
      be_two = λ x. refl;
      be_four = λ x. refl;
      at_two = at_two;
      at_four = at_four;
      words = λ ws. record {
        bytes_four = word_bytes_length ws;
        first = λ k h. (let e : 4 * k ≡ 4 * k + 0 = omega arith in ap (λ (i : ℕ). get_or (word_bytes ws) i 0) e ∙ word_byte ws k 0 h);
        second = λ k h. word_byte ws k 1 h;
        third = λ k h. word_byte ws k 2 h;
        fourth = λ k h. word_byte ws k 3 h;
      };
      words_at_lem = λ n p at. record { count = words_at_length n p at; word = λ k h. words_at_word n p at k h ∙ at_four p (at + 4 * k) };
      xor_none = unfold xor_all in refl;
      xor_one = λ b. unfold xor_all in xor_zero_r b;
      xor_joined = xor_joined;
    }
