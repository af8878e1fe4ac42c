-- What the code's steps show: a symbol of a table by its rules, and the ends of the loops over the table.
-- Assumes nothing.
use mathlib.Core.Path.{◌≡◌, sym, ap, ◌∙◌}
use mathlib.Core.Bool.{Bool, true, false}
use mathlib.Core.List.{List, []}
use Prim.Native.Nat.{ℕ, ◌+◌, ◌*◌, ◌/◌, ◌%◌, ◌≤◌, ◌<◌}
use native.Mathlib.Omega.{arith}
use Rattle.std.specs.Prelude.{Ok, Err}
use lib.ListN.{length, get_or, take, drop}
use borrow.Author.Tests.{le-leb, eq-eqb, ne_eqb}
use Rattle.lists.specs.Below.{all_below, any_below}
use Rattle.lists.proofs.Tests.{either, contra, and_left, and_both}
use Rattle.std.specs.List.{All, concat, list_all}
use Rattle.std.specs.Simd.{first_chunks}
use Rattle.lists.proofs.Below.{all_at, all_same, any_of, none_at, first_is}
use Rattle.wire.specs.Bytes.{AreBytes, be_at}
use Rattle.wire.proofs.ByByte.{at_four}
use Rattle.symbols.specs.Table.{same_name, symbols_in, kind_at, name_at, number_at, symbol_rules, symbol_table, value_at, has_name, record_of, value_of, IsSymbol, IsTable}
use Rattle.symbols.specs.Answers.{found_in}
use Rattle.symbols.specs.declared.Unresolved.TheVariants.{Unknown}
use Rattle.symbols.specs.Record.{record_rules, own_rules, HoldsName}
use Rattle.symbols.proofs.Listed.{record_kind, record_number, rules_same, name_same, name_held, bytes_held, SymbolsOf, front, all_front, concat_whole}
use Rattle.symbols.proofs.Words.{new_name}
use Rattle.symbols.proofs.Records.{record_out}
use Rattle.symbols.proofs.Logic.{is_new, is_named, table_rules, table_out, table_count, alias_of, value_own, value_alias}

-- one that fails makes a test of all fail
pub all_not : (p : ℕ → Bool) (n : ℕ) {i : ℕ} → i < n → p i ≡ false → false ≡ all_below p n
all_not p n l f = either (all_below p n) (λ h. absurd (contra (all_at p n h l) f)) (λ h. sym h)

-- THE TABLE

-- a record before record i, where those are by the rules
pub rules_below : (t : List ℕ) (i : ℕ) {j : ℕ} → all_below (symbol_rules t) i ≡ true → j < i → record_rules t j ≡ true
rules_below t i {j} h l = and_left (record_rules t j) (all_below (is_new t j) j) (all_at (symbol_rules t) i h l)

-- symbol i of those of a table
module _ (t : List ℕ) (rs : List (List ℕ)) (s : SymbolsOf t rs) where
  pub counted : symbols_in t ≡ length rs
  counted = let b = s.bytes in omega arith

  pub inside_table : (i : ℕ) → i < length rs → i < symbols_in t
  inside_table i l = let c = counted in omega arith

  -- by its own rules
  pub own_out : (i : ℕ) → i < length rs → own_rules (get_or rs i []) i ≡ true → IsSymbol t i
  own_out i l h = record_out t i (sym (rules_same t i (get_or rs i []) (s.each i l)) ∙ h)

  -- with those before it by the rules
  module _ (i : ℕ) (l : i < length rs) (h : all_below (symbol_rules t) i ≡ true) where
    before_out : (j : ℕ) → j < i → IsSymbol t j
    before_out j k = record_out t j (rules_below t i h k)

    pub held_before : All HoldsName (take i rs)
    held_before = front rs i (omega arith) HoldsName (λ j k. name_held t j (get_or rs j []) (s.each j (omega arith)) (before_out j k))

    pub bytes_before : AreBytes t → All AreBytes (take i rs)
    bytes_before b = front rs i (omega arith) AreBytes (λ j k. bytes_held t j (get_or rs j []) (s.each j (omega arith)) b)

    pub new_same : own_rules (get_or rs i []) i ≡ true → list_all (new_name (get_or rs i [])) (take i rs) ≡ all_below (is_new t i) i
    new_same own =
        let mine = name_same t i (get_or rs i []) (s.each i l) (own_out i l own) in
        all_front (new_name (get_or rs i [])) rs i (omega arith)
        ∙ all_same (λ j. new_name (get_or rs i []) (get_or rs j [])) (is_new t i) i
        (λ j k. rw (mine, name_same t j (get_or rs j []) (s.each j (omega arith)) (before_out j k)))

-- no table: it breaks a rule that a table keeps, or record i does
pub table_not : (t : List ℕ) → (IsTable t → ⊥) → false ≡ symbol_table t
table_not t f = either (symbol_table t) (λ h. absurd (f (table_out t h))) (λ h. sym h)

pub table_broken : (t : List ℕ) {i : ℕ} → i < symbols_in t → symbol_rules t i ≡ false → false ≡ symbol_table t
table_broken t l f = either (symbol_table t) (λ h. absurd (contra (table_rules t h l) f)) (λ h. sym h)

pub table_kept : (t : List ℕ) → length t % 56 ≡ 0 → symbols_in t ≤ 256 → all_below (symbol_rules t) (symbols_in t) ≡ true → true ≡ symbol_table t
unfolding symbol_table
table_kept t whole most h = sym (and_both (and_both (eq-eqb (length t % 56) 0 whole) (le-leb (symbols_in t) 256 most)) h)

-- the bytes of all symbols of a table
pub table_bytes : (t : List ℕ) → symbol_table t ≡ true → (rs : List (List ℕ)) → rs ≡ first_chunks 56 (length t / 56) t → concat rs ≡ t
table_bytes t ok rs e = concat_whole t rs e (let b = (table_out t ok).bytes in omega arith)

module _ (t : List ℕ) (ok : symbol_table t ≡ true) (i : ℕ) (l : i < symbols_in t) where
  inside : i < (table_out t ok).n
  inside = let c = table_count t (table_out t ok) in omega arith

  pub table_symbol : IsSymbol t i
  table_symbol = (table_out t ok).symbols i inside

  -- VALUES: the number of record i, read from its bytes
  module _ (r : List ℕ) (e : r ≡ take 56 (drop (56 * i) t)) (n : ℕ) (en : n ≡ be_at 4 r 52) where
    number_is : n ≡ number_at t i
    number_is = en ∙ record_number t i r e 4 52 (omega arith)

    pub number_own : get_or r 0 0 ≡ 0 → n ≡ value_at t i
    number_own z = number_is ∙ sym (value_own t (table_out t ok) i (sym (record_kind t i r e) ∙ z))

    pub number_lower : (get_or r 0 0 ≡ 0 → ⊥) → n < i
    number_lower z =
        let a = alias_of t (table_out t ok) i inside (ne_eqb (kind_at t i) 0 (λ k. z (record_kind t i r e ∙ k))) in
        let f = at_four t (56 * i + 52) in
        let m = number_is in
        omega arith

    pub number_alias : (get_or r 0 0 ≡ 0 → ⊥) → (v : ℕ) → v ≡ value_at t n → v ≡ value_at t i
    number_alias z v h = h ∙ ap (value_at t) number_is ∙ sym (value_alias t (table_out t ok) i inside (λ k. z (record_kind t i r e ∙ k)))

  -- NAMES: the first record that has the name
  pub found_at : (name : List ℕ) → any_below (is_named t name) i ≡ false → same_name (name_at t i) name ≡ true → (v : ℕ) → v ≡ value_at t i
      → Ok v ≡ found_in t name
  unfolding found_in has_name record_of value_of
  found_at name none one v e =
      let k : record_of t name ≡ i = first_is (is_named t name) (symbols_in t) l one (λ j q. none_at (is_named t name) i none q) in
      rw (any_of (is_named t name) (symbols_in t) l one, k, e)

pub found_none : (t name : List ℕ) → any_below (is_named t name) (symbols_in t) ≡ false → Err Unknown ≡ found_in t name
unfolding found_in has_name
found_none t name none = rw none
