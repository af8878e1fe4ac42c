-- Lists put one after the other.
use Rattle.std.specs.Prelude.{List, [], ◌++◌, ℕ, zero, suc}

-- f 0, f 1 and so on: n lists
unfoldable pub runs : {A : Type 0} → (ℕ → List A) → ℕ → List A
runs f zero = []
runs f (suc n) = runs f n ++ f n
