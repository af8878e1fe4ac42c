-- What the definitions of this crate say, byte by byte; and a packet's bytes as plain numbers, which only statements use.
use Rattle.std.specs.Prelude.{◌≡◌, List, [], ◌∷◌, ◌++◌, ℕ, ◌+◌, ◌*◌, ◌/◌, ◌%◌, ◌<◌, length, get_or}
use Rattle.std.specs.Int.Bits.{bit_xor}
use Rattle.wire.specs.Bytes.{be, be_at, word_bytes, words_at}
use Rattle.wire.specs.Xor.{xor_all}

-- the byte at index i, and the number in two and in four bytes from index i on
abbrev pub byte : List ℕ → ℕ → ℕ
byte p i = get_or p i 0

abbrev pub two : List ℕ → ℕ → ℕ
two p i = byte p i * 256 + byte p (i + 1)

abbrev pub four : List ℕ → ℕ → ℕ
four p i = ((byte p i * 256 + byte p (i + 1)) * 256 + byte p (i + 2)) * 256 + byte p (i + 3)

-- these words as bytes: four for each word, the highest first
pub record FourEach (ws bytes : List ℕ) : Type 0 where
  pub bytes_four : length bytes ≡ 4 * length ws
  pub first : (k : ℕ) → k < length ws → byte bytes (4 * k) ≡ get_or ws k 0 / 256 / 256 / 256 % 256
  pub second : (k : ℕ) → k < length ws → byte bytes (4 * k + 1) ≡ get_or ws k 0 / 256 / 256 % 256
  pub third : (k : ℕ) → k < length ws → byte bytes (4 * k + 2) ≡ get_or ws k 0 / 256 % 256
  pub fourth : (k : ℕ) → k < length ws → byte bytes (4 * k + 3) ≡ get_or ws k 0 % 256

-- these n words are those in the bytes of p from index `at` on
pub record WordsFrom (n : ℕ) (p : List ℕ) (at : ℕ) (ws : List ℕ) : Type 0 where
  pub count : length ws ≡ n
  pub word : (k : ℕ) → k < n → get_or ws k 0 ≡ four p (at + 4 * k)

pub record ByByte : Type 0 where
  pub be_two : (x : ℕ) → be 2 x ≡ x / 256 % 256 ∷ x % 256 ∷ []
  pub be_four : (x : ℕ) → be 4 x ≡ x / 256 / 256 / 256 % 256 ∷ x / 256 / 256 % 256 ∷ x / 256 % 256 ∷ x % 256 ∷ []
  pub at_two : (p : List ℕ) (at : ℕ) → be_at 2 p at ≡ two p at
  pub at_four : (p : List ℕ) (at : ℕ) → be_at 4 p at ≡ four p at
  pub words : (ws : List ℕ) → FourEach ws (word_bytes ws)
  pub words_at_lem : (n : ℕ) (p : List ℕ) (at : ℕ) → WordsFrom n p at (words_at n p at)
  -- the exclusive or: of no byte, of one, and of two lists joined, so that no byte is left out
  pub xor_none : xor_all [] ≡ 0
  pub xor_one : (b : ℕ) → xor_all (b ∷ []) ≡ b
  pub xor_joined : (u v : List ℕ) → xor_all (u ++ v) ≡ bit_xor (xor_all u) (xor_all v)
