-- The bytes of the reply: over blocks as over their figures, and word by word.
-- Assumes nothing.
use mathlib.Core.Path.{◌≡◌, refl, ap, ap₂, ◌∙◌}
use mathlib.Core.List.{List, [], ◌∷◌, ◌++◌}
use Prim.Native.Nat.{ℕ, ◌+◌, ◌*◌, ◌%◌, ◌≤◌, ◌<◌}
use native.Mathlib.Omega.{arith}
use Rattle.lists.specs.Splice.{splice}
use Rattle.wire.specs.Bytes.{be, word_bytes}
use Rattle.wire.proofs.Modulo.{be_modulo}
use Rattle.wire.proofs.Numbers.{two_halves}
use Rattle.rules.specs.Pools.{Block, reply_bytes}
use Rattle.pool.specs.declared.Figures.{Figures}
use Rattle.pool.specs.Answers.{figures_of, figure_bytes}

pub reply_bytes_lem : (count unit transaction pool : ℕ) (bs : List Block)
    → reply_bytes count unit transaction pool bs ≡ figure_bytes count unit transaction pool (figures_of bs)
unfolding reply_bytes figure_bytes
reply_bytes_lem count unit transaction pool bs = refl

-- THE REPLY AS WORDS

-- the low 32 bits of each
abbrev lows : List ℕ → List ℕ
lows [] = []
lows (x ∷ xs) = (x % 4294967296) ∷ lows xs

low_words : (xs : List ℕ) → word_bytes (lows xs) ≡ word_bytes xs
unfolding word_bytes
low_words [] = refl
low_words (x ∷ xs) = ap₂ (λ (l m : List ℕ). l ++ m) (be_modulo 4 x) (low_words xs)

module _ (count unit transaction pool : ℕ) (f : Figures) (sequence : 49152 + count < 65536) (who : 4096 * unit + transaction < 65536) where
  abbrev figures : List ℕ
  figures = f.free ∷ f.freeblocks ∷ f.usable ∷ f.used ∷ f.usedblocks ∷ []

  pub reply_as_words : word_bytes ((785 * 65536 + (49152 + count)) ∷ (25 * 65536 + (4096 * unit + transaction)) ∷ (pool * 65536) ∷ lows figures)
      ≡ figure_bytes count unit transaction pool f
  unfolding word_bytes figure_bytes
  reply_as_words =
      let third : pool * 65536 ≡ pool * 65536 + 0 = omega arith in
      two_halves 785 (49152 + count) sequence (word_bytes ((25 * 65536 + (4096 * unit + transaction)) ∷ (pool * 65536) ∷ lows figures))
      ∙ ap (λ (l : List ℕ). be 2 785 ++ be 2 (49152 + count) ++ l)
      (two_halves 25 (4096 * unit + transaction) who (word_bytes ((pool * 65536) ∷ lows figures))
      ∙ ap (λ (l : List ℕ). be 2 25 ++ be 2 (4096 * unit + transaction) ++ l)
      (ap₂ (λ (x : ℕ) (l : List ℕ). be 4 x ++ l) third (low_words figures) ∙ two_halves pool 0 (omega arith) (word_bytes figures)))

-- where each number fits its field
pub reply_fits : (l : List ℕ) {n : List ℕ} (count unit transaction pool : ℕ) (f : Figures)
    → n ≡ splice l 0 (figure_bytes (count % 16384) (unit % 16) (transaction % 4096) pool f) → count ≤ 16383 → unit ≤ 15 → transaction ≤ 4095
    → n ≡ splice l 0 (figure_bytes count unit transaction pool f)
reply_fits l count unit transaction pool f e c u t =
    let ec : count % 16384 ≡ count = omega arith in
    let eu : unit % 16 ≡ unit = omega arith in
    let et : transaction % 4096 ≡ transaction = omega arith in
    rw (ec, eu, et) at e
