-- A table and what its names resolve to, in logic.
-- Assumes nothing.
use mathlib.Core.Path.{◌≡◌, sym, ap, ◌∙◌, subst}
use mathlib.Core.Logic.{◌↔◌, ◌≢◌}
use mathlib.Core.Bool.{Bool, true, false, not, ◌&&◌}
use mathlib.Core.List.{List}
use Prim.Native.Nat.{ℕ, zero, suc, ◌+◌, ◌*◌, ◌%◌, ◌<◌}
use native.Mathlib.Omega.{arith}
use lib.Dec.{leb, eqb}
use lib.ListN.{length}
use borrow.Author.Tests.{leb-true, eqb-true, eqb-false, le-leb, eq-eqb, ne_eqb, not-true}
use Rattle.lists.specs.Below.{all_below}
use Rattle.lists.proofs.Tests.{either, contra, and_left, and_right, and_both, by_order}
use Rattle.lists.proofs.Below.{all_at, all_of, any_of, first_found}
use Rattle.wire.specs.Bytes.{AreBytes}
use Rattle.wire.specs.ByByte.{four}
use Rattle.wire.proofs.Numbers.{be_at_below}
use Rattle.wire.proofs.ByByte.{at_four}
use Rattle.symbols.specs.Table.{same_name, symbols_in, kind_at, name_at, number_at, symbol_rules, symbol_table, resolved_by, value_at, has_name, record_of, value_of, IsSymbol, IsTable, Resolves, Named}
use Rattle.symbols.specs.Table.Resolves.{value, alias}
use Rattle.symbols.specs.Record.{record_rules}
use Rattle.symbols.proofs.Names.{same_out, same_in, apart_name}
use Rattle.symbols.proofs.Records.{record_out, record_in, one_of}

-- THE TABLE

-- no record before record i has its name
abbrev pub is_new : List ℕ → ℕ → ℕ → Bool
is_new t i j = not (same_name (name_at t i) (name_at t j))

abbrev whole_rule : List ℕ → Bool
whole_rule t = eqb (length t % 56) 0

abbrev count_rule : List ℕ → Bool
count_rule t = whole_rule t && leb (symbols_in t) 256

module _ (t : List ℕ) where
  -- record i by the rules
  pub symbol_out : {i : ℕ} → symbol_rules t i ≡ true → IsSymbol t i
  symbol_out {i} h = record_out t i (and_left (record_rules t i) (all_below (is_new t i) i) h)

  new_out : (i j : ℕ) → symbol_rules t i ≡ true → j < i → name_at t i ≢ name_at t j
  new_out i j h l e =
      contra (same_in (name_at t i) (name_at t j) e)
      (not-true _ (all_at (is_new t i) i (and_right (record_rules t i) (all_below (is_new t i) i) h) l))

  pub table_rules : symbol_table t ≡ true → {i : ℕ} → i < symbols_in t → symbol_rules t i ≡ true
  unfolding symbol_table
  table_rules h l = all_at (symbol_rules t) (symbols_in t) (and_right (count_rule t) (all_below (symbol_rules t) (symbols_in t)) h) l

  pub table_out : symbol_table t ≡ true → IsTable t
  unfolding symbol_table
  table_out h =
      let count : count_rule t ≡ true = and_left (count_rule t) (all_below (symbol_rules t) (symbols_in t)) h in
      let whole : length t % 56 ≡ 0 = eqb-true _ _ (and_left (whole_rule t) (leb (symbols_in t) 256) count) in
      record {
        n = symbols_in t;
        bytes = omega arith;
        most = leb-true _ _ (and_right (whole_rule t) (leb (symbols_in t) 256) count);
        symbols = λ i l. symbol_out (table_rules h l);
        apart = λ i j li lj ne. by_order i j
            (λ l e. new_out j i (table_rules h lj) l (sym e))
            (λ l. new_out i j (table_rules h li) l)
            (λ e. absurd (ne e));
      }

  module _ (s : IsTable t) where
    pub table_count : symbols_in t ≡ s.n
    table_count = let b = s.bytes in omega arith

    pub table_in : symbol_table t ≡ true
    unfolding symbol_table
    table_in =
        let b = s.bytes in
        let m = s.most in
        let c = table_count in
        and_both (and_both (eq-eqb (length t % 56) 0 (omega arith)) (le-leb (symbols_in t) 256 (omega arith))) (all_of (symbol_rules t) (symbols_in t) rules)
      where
        rules : (i : ℕ) → i < symbols_in t → symbol_rules t i ≡ true
        rules i l =
            let c = table_count in
            and_both (record_in t i (s.symbols i (omega arith)))
            (all_of (is_new t i) i (λ j k. rw (apart_name (name_at t i) (name_at t j) (s.apart i j (omega arith) (omega arith) (λ e. omega arith)))))

pub table_when : (t : List ℕ) → (symbol_table t ≡ true) ↔ IsTable t
table_when t = (table_out t, table_in t)

-- VALUES

-- the value of a record that resolves, through as many records as one likes that are enough
pub resolves_to : {t : List ℕ} {i v : ℕ} → Resolves t i v → (d : ℕ) → i < d → resolved_by d t i ≡ v
unfolding resolved_by
resolves_to (value i z) zero l = absurd (omega arith)
resolves_to {t} (value i z) (suc d) l = rw (eq-eqb (kind_at t i) 0 z) (at_four t (56 * i + 52))
resolves_to (alias i v one low r) zero l = absurd (omega arith)
resolves_to {t} (alias i v one low r) (suc d) l =
    rw (ne_eqb (kind_at t i) 0 (λ e. omega arith)) (ap (resolved_by d t) (at_four t (56 * i + 52)) ∙ resolves_to r d (omega arith))

module _ (t : List ℕ) (s : IsTable t) where
  -- an alias names a lower-numbered record
  pub alias_of : (i : ℕ) → i < s.n → eqb (kind_at t i) 0 ≡ false → (kind_at t i ≡ 1) × (four t (56 * i + 52) < i)
  alias_of i l k =
      let q = s.symbols i l in
      let one : kind_at t i ≡ 1 = one_of q.kind (eqb-false (kind_at t i) 0 k) in
      (one, q.lower one)

  pub resolves : (d i : ℕ) → i < d → i < s.n → Resolves t i (resolved_by d t i)
  unfolding resolved_by
  resolves zero i l h = absurd (omega arith)
  resolves (suc d) i l h =
      let f = at_four t (56 * i + 52) in
      either (eqb (kind_at t i) 0)
      (λ k. rw k (subst (Resolves t i) (sym f) (value i (eqb-true (kind_at t i) 0 k))))
      (λ k. let a = alias_of i h k in
      rw k (alias i _ a.0 a.1 (subst (λ j. Resolves t j (resolved_by d t (number_at t i))) f (resolves d (number_at t i) (omega arith) (omega arith)))))

  -- the value of a value record, and of an alias
  pub value_own : (i : ℕ) → kind_at t i ≡ 0 → value_at t i ≡ number_at t i
  unfolding resolved_by
  value_own i k = rw (eq-eqb (kind_at t i) 0 k)

  pub value_alias : (i : ℕ) → i < s.n → kind_at t i ≢ 0 → value_at t i ≡ value_at t (number_at t i)
  value_alias i l k =
      let a = alias_of i l (ne_eqb (kind_at t i) 0 k) in
      let f = at_four t (56 * i + 52) in
      let r = resolves (suc (number_at t i)) (number_at t i) (omega arith) (omega arith) in
      resolves_to (alias i _ a.0 a.1 (subst (λ j. Resolves t j (value_at t (number_at t i))) f r)) (suc i) (omega arith)

-- NAMES

abbrev pub is_named : List ℕ → List ℕ → ℕ → Bool
is_named t name i = same_name (name_at t i) name

module _ (t name : List ℕ) (v : ℕ) (s : IsTable t) where
  pub named_out : Named t name v → (has_name t name ≡ true) × (value_of t name ≡ v)
  unfolding has_name record_of value_of
  named_out m =
      let c = table_count t s in
      let b = s.bytes in
      let inside = m.inside in
      let has = any_of (is_named t name) (symbols_in t) {i = m.i} (omega arith) (same_in (name_at t m.i) name m.own) in
      let r = first_found (is_named t name) (symbols_in t) has in
      let one : name_at t (record_of t name) ≡ name_at t m.i = same_out _ name r.1 ∙ sym m.own in
      let e : record_of t name ≡ m.i = by_order (record_of t name) m.i
      (λ l. absurd (s.apart (record_of t name) m.i (omega arith) (omega arith) (λ e. omega arith) one))
      (λ l. absurd (s.apart (record_of t name) m.i (omega arith) (omega arith) (λ e. omega arith) one))
      (λ e. e)
      in
      (has, ap (value_at t) e ∙ resolves_to m.resolves (suc m.i) (omega arith))

  pub named_in : (has_name t name ≡ true) × (value_of t name ≡ v) → Named t name v
  unfolding has_name record_of value_of
  named_in h =
      let c = table_count t s in
      let b = s.bytes in
      let r = first_found (is_named t name) (symbols_in t) h.0 in
      record {
        i = record_of t name;
        inside = omega arith;
        own = same_out (name_at t (record_of t name)) name r.1;
        resolves = subst (Resolves t (record_of t name)) h.1 (resolves t s (suc (record_of t name)) (record_of t name) (omega arith) (omega arith));
      }

pub resolves_when : (t name : List ℕ) (v : ℕ) → IsTable t → Named t name v ↔ ((has_name t name ≡ true) × (value_of t name ≡ v))
resolves_when t name v s = (named_out t name v s, named_in t name v s)

pub named_one : (t name : List ℕ) (v w : ℕ) → IsTable t → Named t name v → Named t name w → v ≡ w
named_one t name v w s m n = sym (named_out t name v s m).1 ∙ (named_out t name w s n).1

-- a value fits in 32 bits, also of bytes that are no table
resolved_fits : (t : List ℕ) → AreBytes t → (d i : ℕ) → resolved_by d t i < 4294967296
unfolding resolved_by
resolved_fits t b zero i = omega arith
resolved_fits t b (suc d) i =
    either (eqb (kind_at t i) 0) (λ k. rw k (be_at_below 4 t (56 * i + 52) b)) (λ k. rw k (resolved_fits t b d (number_at t i)))

pub value_fits : (t name : List ℕ) → AreBytes t → value_of t name < 4294967296
unfolding value_of
value_fits t name b = resolved_fits t b (suc (record_of t name)) (record_of t name)
