-- Every write to a lent buffer or image: a run of elements put in the place of as many.
use Rattle.std.specs.Prelude.{List, ◌++◌, ℕ, ◌+◌, length, take, drop}

-- l with v in the place of the elements from index `at` on
unfoldable pub splice : List ℕ → ℕ → List ℕ → List ℕ
splice l at v = take at l ++ (v ++ drop (at + length v) l)
