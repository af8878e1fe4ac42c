-- Big-endian numbers in lists of bytes: one definition for every width.
use Rattle.std.specs.Prelude.{ℕ, zero, suc, ◌+◌, ◌*◌, ◌/◌, ◌%◌, ◌<◌, List, [], ◌∷◌, ◌++◌, get_or}

-- what a slice of bytes holds: a list here is of any numbers
abbrev pub AreBytes : List ℕ → Type 0
AreBytes p = (i : ℕ) → get_or p i 0 < 256

-- the n bytes of x, the highest first
abbrev pub be : ℕ → ℕ → List ℕ
be zero x = []
be (suc n) x = be n (x / 256) ++ (x % 256 ∷ [])

-- the number in the n bytes of p from index `at` on, the highest first; a byte past the end counts as 0
abbrev pub be_at : ℕ → List ℕ → ℕ → ℕ
be_at zero p at = 0
be_at (suc n) p at = be_at n p at * 256 + get_or p (at + n) 0

-- words of 32 bits as bytes, in order
unfoldable pub word_bytes : List ℕ → List ℕ
word_bytes [] = []
word_bytes (w ∷ ws) = be 4 w ++ word_bytes ws

-- the n words of 32 bits in the bytes of p from index `at` on
unfoldable pub words_at : ℕ → List ℕ → ℕ → List ℕ
words_at zero p at = []
words_at (suc n) p at = be_at 4 p at ∷ words_at n p (at + 4)
