-- What the contracts of `src/` cite: the record of an item, and a lent list whose first records are written.
-- Assumes nothing.
use Rattle.std.specs.Prelude.{ℕ, zero, suc, List, get_or, set}
use Rattle.answers.specs.declared.ItemAnswer.{ItemAnswer}
use Rattle.answers.specs.declared.Answered.{Answered}

-- answers with these numbers and lengths, of which only the records are looked at
abbrev pub answers_of : List ℕ → List ℕ → Answered
answers_of numbers lengths = record { number = 0; numbers = numbers; lengths = lengths; filled = 0 }

-- record i: its number and its length, and zeros past the 64
abbrev pub record_at : Answered → ℕ → ItemAnswer
record_at a i = record { number = get_or a.numbers i 0; length = get_or a.lengths i 0 }

-- l, whose first k records are a's; past the end of l nothing is written
abbrev pub put_records : List ItemAnswer → Answered → ℕ → List ItemAnswer
put_records l a zero = l
put_records l a (suc k) = set (put_records l a k) k (record_at a k)
