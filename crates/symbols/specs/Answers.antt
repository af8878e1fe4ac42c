-- What the lookup of a name answers.
use Rattle.std.specs.Prelude.{◌≡◌, ◌↔◌, cond, List, ℕ, Result, Ok, Err}
use Rattle.symbols.specs.Table.{symbol_table, has_name, value_of, IsTable, Named}
use Rattle.symbols.specs.declared.Unresolved.{Unresolved}
use Rattle.symbols.specs.declared.Unresolved.TheVariants.{NoTable, Unknown}

-- in a table
unfoldable pub found_in : List ℕ → List ℕ → Result ℕ Unresolved
found_in t name = cond (has_name t name) (Ok (value_of t name)) (Err Unknown)

unfoldable pub symbol_of : List ℕ → List ℕ → Result ℕ Unresolved
symbol_of t name = cond (symbol_table t) (found_in t name) (Err NoTable)

-- THE NUMBERS (paper 02, A2): 17 where the table is none, 18 where it has no such name, and 0 with the value that the name resolves to
abbrev pub symbol_number : Result ℕ Unresolved → ℕ
symbol_number (Err NoTable) = 17
symbol_number (Err Unknown) = 18
symbol_number (Ok v) = 0

-- each exactly in its case: what a lookup answers
pub record SymbolNumbers (t name : List ℕ) (r : Result ℕ Unresolved) : Type 0 where
  pub no_table : (symbol_number r ≡ 17) ↔ (IsTable t → ⊥)
  pub unknown : (symbol_number r ≡ 18) ↔ (IsTable t × ((v : ℕ) → Named t name v → ⊥))
  pub value : (v : ℕ) → (r ≡ Ok v) ↔ (IsTable t × Named t name v)
