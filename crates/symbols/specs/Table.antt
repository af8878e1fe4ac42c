-- Paper 02, A2: the symbol table lent to a command call, names, and what a symbol resolves to.
use Rattle.std.specs.Prelude.{◌≡◌, ◌≢◌, Bool, not, ◌&&◌, ◌||◌, cond, List, ℕ, zero, suc, ◌+◌, ◌*◌, ◌/◌, ◌%◌, ◌≤◌, ◌<◌, leb, ltb, eqb, length, get_or, take, drop}
use Rattle.lists.specs.Below.{all_below, any_below, first_below}
use Rattle.wire.specs.Bytes.{be_at}
use Rattle.wire.specs.ByByte.{byte, four}

-- NAMES: lists of bytes, told apart by their length and their bytes

abbrev pub same_name : List ℕ → List ℕ → Bool
same_name a b = eqb (length a) (length b) && all_below (λ j. eqb (get_or a j 0) (get_or b j 0)) (length a)

-- THE TABLE: records of 56 bytes, numbered from 0: kind, name length, two zero bytes, the name padded with zeros to 48 bytes, a number

abbrev pub record_bytes : ℕ
record_bytes = 56

abbrev pub symbols_in : List ℕ → ℕ
symbols_in t = length t / record_bytes

abbrev pub kind_at : List ℕ → ℕ → ℕ
kind_at t i = get_or t (record_bytes * i) 0

abbrev pub name_length_at : List ℕ → ℕ → ℕ
name_length_at t i = get_or t (record_bytes * i + 1) 0

abbrev pub name_at : List ℕ → ℕ → List ℕ
name_at t i = take (name_length_at t i) (drop (record_bytes * i + 4) t)

abbrev pub number_at : List ℕ → ℕ → ℕ
number_at t i = be_at 4 t (record_bytes * i + 52)

-- the bytes of a name field past the name are zero
abbrev pub padded : List ℕ → ℕ → Bool
padded t i = all_below (λ j. ltb j (name_length_at t i) || eqb (get_or t (record_bytes * i + 4 + j) 0) 0) 48

-- record i: a value (kind 0), or an alias (kind 1) of a lower-numbered record; a name of 1 to 48 bytes that no record before it has
abbrev pub symbol_rules : List ℕ → ℕ → Bool
symbol_rules t i =
    leb (kind_at t i) 1 && leb 1 (name_length_at t i) && leb (name_length_at t i) 48 && eqb (be_at 2 t (record_bytes * i + 2)) 0 && padded t i
    && (eqb (kind_at t i) 0 || ltb (number_at t i) i)
    && all_below (λ j. not (same_name (name_at t i) (name_at t j))) i

-- whole records, at most 256, each by the rules
unfoldable pub symbol_table : List ℕ → Bool
symbol_table t = eqb (length t % record_bytes) 0 && leb (symbols_in t) 256 && all_below (symbol_rules t) (symbols_in t)

-- RESOLVING

-- the value of record i, through at most n records: the number of a value record; an alias is resolved through the record that it names
unfoldable pub resolved_by : ℕ → List ℕ → ℕ → ℕ
resolved_by zero t i = 0
resolved_by (suc n) t i = cond (eqb (kind_at t i) 0) (number_at t i) (resolved_by n t (number_at t i))

-- in a table the numbers fall, so that i records after the first are enough
abbrev pub value_at : List ℕ → ℕ → ℕ
value_at t i = resolved_by (suc i) t i

-- the table has the name, the record that has it, and its value
unfoldable pub has_name : List ℕ → List ℕ → Bool
has_name t name = any_below (λ i. same_name (name_at t i) name) (symbols_in t)

unfoldable pub record_of : List ℕ → List ℕ → ℕ
record_of t name = first_below (λ i. same_name (name_at t i) name) (symbols_in t)

unfoldable pub value_of : List ℕ → List ℕ → ℕ
value_of t name = value_at t (record_of t name)

-- THE SAME IN LOGIC, by byte offset

-- the name of record i
abbrev pub name_of : List ℕ → ℕ → List ℕ
name_of t i = take (byte t (56 * i + 1)) (drop (56 * i + 4) t)

pub record IsSymbol (t : List ℕ) (i : ℕ) : Type 0 where
  pub kind : byte t (56 * i) ≤ 1
  pub some : 1 ≤ byte t (56 * i + 1)
  pub most : byte t (56 * i + 1) ≤ 48
  pub zeros : (byte t (56 * i + 2) ≡ 0) × (byte t (56 * i + 3) ≡ 0)
  pub padding : (j : ℕ) → byte t (56 * i + 1) ≤ j → j < 48 → byte t (56 * i + 4 + j) ≡ 0
  -- an alias names a lower-numbered record
  pub lower : byte t (56 * i) ≡ 1 → four t (56 * i + 52) < i

-- n records of 56 bytes, at most 256 (none is a table too), no two of one name
pub record IsTable (t : List ℕ) : Type 0 where
  pub n : ℕ
  pub bytes : length t ≡ 56 * n
  pub most : n ≤ 256
  pub symbols : (i : ℕ) → i < n → IsSymbol t i
  pub apart : (i j : ℕ) → i < n → j < n → i ≢ j → name_of t i ≢ name_of t j

-- record i resolves to v: a value record to its number, an alias to what the lower-numbered record resolves to that it names
pub data Resolves (t : List ℕ) : ℕ → ℕ → Type 0 where
  value : (i : ℕ) → byte t (56 * i) ≡ 0 → Resolves t i (four t (56 * i + 52))
  alias : (i v : ℕ) → byte t (56 * i) ≡ 1 → four t (56 * i + 52) < i → Resolves t (four t (56 * i + 52)) v → Resolves t i v

-- the name is that of a record, which resolves to v
pub record Named (t name : List ℕ) (v : ℕ) : Type 0 where
  pub i : ℕ
  pub inside : 56 * i < length t
  pub own : name_of t i ≡ name
  pub resolves : Resolves t i v
