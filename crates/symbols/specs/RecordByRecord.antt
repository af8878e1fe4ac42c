-- A TABLE RECORD BY RECORD: what a table with one record more is. It fixes `symbol_table`, `has_name` and `value_of` for every table without the
-- definitions of Table.antt in logic.
use Rattle.std.specs.Prelude.{◌≡◌, ◌≢◌, ◌↔◌, true, false, List, [], ◌++◌, ℕ, ◌+◌, ◌*◌, ◌%◌, ◌≤◌, ◌<◌, length, take, drop}
use Rattle.wire.specs.ByByte.{byte, four}
use Rattle.symbols.specs.Table.{symbol_table, has_name, value_of}

-- what is asked of the 56 bytes of record n
pub record OwnRules (n : ℕ) (r : List ℕ) : Type 0 where
  pub kind : byte r 0 ≤ 1
  pub some : 1 ≤ byte r 1
  pub most : byte r 1 ≤ 48
  pub zeros : (byte r 2 ≡ 0) × (byte r 3 ≡ 0)
  pub padding : (j : ℕ) → byte r 1 ≤ j → j < 48 → byte r (4 + j) ≡ 0
  -- an alias names a lower-numbered record
  pub lower : byte r 0 ≡ 1 → four r 52 < n

-- the name in the bytes of a record, and that of record k of a table
abbrev pub own_name : List ℕ → List ℕ
own_name r = take (byte r 1) (drop 4 r)

abbrev pub name_of_record : List ℕ → ℕ → List ℕ
name_of_record t k = take (byte t (56 * k + 1)) (drop (56 * k + 4) t)

-- n records, and the 56 bytes of one more
pub record OneMore (t r : List ℕ) (n : ℕ) : Type 0 where
  pub bytes : length t ≡ 56 * n
  pub own : length r ≡ 56

pub record RecordByRecord : Type 0 where
  -- no records; bytes that are no whole records; over 256
  pub none : symbol_table [] ≡ true
  pub odd : (t : List ℕ) → length t % 56 ≢ 0 → symbol_table t ≡ false
  pub over : (t : List ℕ) → 14336 < length t → symbol_table t ≡ false
  -- one record more, up to 256: by its own rules, and with a name that is not there yet
  pub more : (t r : List ℕ) (n : ℕ) → OneMore t r n → n < 256 → symbol_table t ≡ true
      → (symbol_table (t ++ r) ≡ true) ↔ (OwnRules n r × (has_name t (own_name r) ≡ false))
  pub before : (t r : List ℕ) (n : ℕ) → OneMore t r n → symbol_table (t ++ r) ≡ true → symbol_table t ≡ true
  -- its names: those before it, and its own
  pub no_name : (name : List ℕ) → has_name [] name ≡ false
  pub old_name : (t r name : List ℕ) (n : ℕ) → OneMore t r n → symbol_table (t ++ r) ≡ true → name ≢ own_name r → has_name (t ++ r) name ≡ has_name t name
  pub own_name_lem : (t r : List ℕ) (n : ℕ) → OneMore t r n → symbol_table (t ++ r) ≡ true → has_name (t ++ r) (own_name r) ≡ true
  -- their values: those before it keep theirs; its own is its number, or the value of the record that it names
  pub old_value : (t r name : List ℕ) (n : ℕ) → OneMore t r n → symbol_table (t ++ r) ≡ true → has_name t name ≡ true → value_of (t ++ r) name ≡ value_of t name
  pub own_value : (t r : List ℕ) (n : ℕ) → OneMore t r n → symbol_table (t ++ r) ≡ true → byte r 0 ≡ 0 → value_of (t ++ r) (own_name r) ≡ four r 52
  pub alias_value : (t r : List ℕ) (n : ℕ) → OneMore t r n → symbol_table (t ++ r) ≡ true → byte r 0 ≡ 1
      → value_of (t ++ r) (own_name r) ≡ value_of t (name_of_record t (four r 52))
