-- What is asked of a record by itself, apart from the names before it.
use Rattle.std.specs.Prelude.{◌≡◌, Bool, ◌&&◌, ◌||◌, List, ℕ, ◌+◌, ◌*◌, ◌≤◌, ◌<◌, leb, ltb, eqb, get_or}
use Rattle.wire.specs.Bytes.{be_at}
use Rattle.symbols.specs.Table.{record_bytes, kind_at, name_length_at, number_at, padded}

-- what `symbol_rules` asks of record i by itself
abbrev pub record_rules : List ℕ → ℕ → Bool
record_rules t i =
    leb (kind_at t i) 1 && leb 1 (name_length_at t i) && leb (name_length_at t i) 48 && eqb (be_at 2 t (record_bytes * i + 2)) 0 && padded t i
    && (eqb (kind_at t i) 0 || ltb (number_at t i) i)

-- the same of its bytes, which are a table of one record
abbrev pub own_rules : List ℕ → ℕ → Bool
own_rules r i =
    leb (kind_at r 0) 1 && leb 1 (name_length_at r 0) && leb (name_length_at r 0) 48 && eqb (be_at 2 r 2) 0 && padded r 0
    && (eqb (kind_at r 0) 0 || ltb (number_at r 0) i)

-- its name field holds a name of 1 to 48 bytes, padded with zeros
pub record HoldsName (r : List ℕ) : Type 0 where
  pub some : 1 ≤ name_length_at r 0
  pub most : name_length_at r 0 ≤ 48
  pub padding : (k : ℕ) → name_length_at r 0 ≤ k → k < 48 → get_or r (4 + k) 0 ≡ 0
