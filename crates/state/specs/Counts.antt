-- How a call changes the words of a state's block.
use Rattle.std.specs.Prelude.{List, ℕ, ◌+◌, ◌%◌, set}
use Rattle.block.specs.Blocks.{word}
use Rattle.lent_places.specs.Writing.{placed}
use Rattle.state.specs.Changes.{Changes}

-- one more in word i, modulo n
abbrev pub raised : List ℕ → ℕ → ℕ → List ℕ
raised b i n = set b i ((word b i + 1) % n)

abbrev pub block_changes : Changes (List ℕ)
block_changes =
    record {
      place = placed;
      accepted = λ b. raised b 77 65536;
      refused = λ b. raised b 78 65536;
      reply = λ b. raised b 75 16384;
      value = λ b. raised b 79 16384;
      served = λ b i c. raised (set (placed b i c) 74 i) 76 16384;
    }
