-- The bytes of the reply that tells a value, word by word.
-- Assumes nothing.
use mathlib.Core.Path.{◌≡◌, ap, ◌∙◌}
use mathlib.Core.List.{List, [], ◌∷◌, ◌++◌}
use Prim.Native.Nat.{ℕ, ◌+◌, ◌*◌, ◌%◌}
use native.Mathlib.Omega.{arith}
use Rattle.wire.specs.Bytes.{be, word_bytes}
use Rattle.wire.proofs.Numbers.{two_halves}
use Rattle.rules.specs.Values.{value_bytes}

-- the three words of a reply, each number cut to its field
pub value_as_words : (count unit transaction value : ℕ) {a b c : ℕ}
    → a ≡ 786 * 65536 + (49152 + count % 16384) → b ≡ 5 * 65536 + (4096 * (unit % 16) + transaction % 4096) → c ≡ value
    → word_bytes (a ∷ b ∷ c ∷ []) ≡ value_bytes (count % 16384) (unit % 16) (transaction % 4096) value
unfolding word_bytes value_bytes
value_as_words count unit transaction value {b = b} ea eb ec =
    rw (ea, ec)
    (two_halves 786 (49152 + count % 16384) (omega arith) (word_bytes (b ∷ value ∷ []))
    ∙ rw eb (ap (λ (l : List ℕ). be 2 786 ++ be 2 (49152 + count % 16384) ++ l) (two_halves 5 (4096 * (unit % 16) + transaction % 4096) (omega arith) (be 4 value))))
