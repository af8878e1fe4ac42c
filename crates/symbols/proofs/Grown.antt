-- A table with one record more.
-- Assumes nothing.
use mathlib.Core.Path.{◌≡◌, refl, sym, ap, ap₂, ◌∙◌, subst}
use mathlib.Core.Logic.{◌≢◌}
use mathlib.Core.Bool.{Bool, true, false}
use mathlib.Core.List.{List, [], ◌++◌}
use Prim.Native.Nat.{ℕ, suc, ◌+◌, ◌*◌, ◌≤◌, ◌<◌}
use native.Mathlib.Omega.{arith}
use lib.ListN.{length, get_or, take, drop, length-append, length-drop, get_or-append}
use lib.Seq.{take-append-le, drop-append-le, drop-append-add, get_or-append-add}
use Rattle.lists.proofs.Tests.{either, contra, by_order}
use Rattle.wire.specs.ByByte.{byte, four}
use Rattle.symbols.specs.Table.{symbol_table, has_name, value_of, value_at, name_of, IsSymbol, IsTable, Resolves, Named}
use Rattle.symbols.specs.Table.Resolves.{value, alias}
use Rattle.symbols.specs.RecordByRecord.{OwnRules, own_name, name_of_record, OneMore, RecordByRecord}
use Rattle.symbols.proofs.Logic.{table_out, table_in, named_out, named_in, resolves}

not_so : (b : Bool) → (b ≡ true → ⊥) → b ≡ false
not_so b f = either b (λ e. absurd (f e)) (λ e. e)

module _ (t r : List ℕ) (n : ℕ) (m : OneMore t r n) where
  -- THE BYTES
  all_bytes : length (t ++ r) ≡ 56 * (n + 1)
  all_bytes = let a = m.bytes in let b = m.own in length-append t r ∙ omega arith

  byte_old : (x : ℕ) → x < 56 * n → byte (t ++ r) x ≡ byte t x
  byte_old x l = let a = m.bytes in get_or-append t r 0 x (omega arith)

  byte_new : (x k : ℕ) → x ≡ 56 * n + k → byte (t ++ r) x ≡ byte r k
  byte_new x k e =
      let a = m.bytes in
      let f : x ≡ length t + k = omega arith in
      ap (λ (y : ℕ). get_or (t ++ r) y 0) f ∙ get_or-append-add t r k 0

  four_old : (x : ℕ) → x + 4 ≤ 56 * n → four (t ++ r) x ≡ four t x
  four_old x l =
      let a = byte_old x (omega arith) in
      let b = byte_old (x + 1) (omega arith) in
      let c = byte_old (x + 2) (omega arith) in
      let d = byte_old (x + 3) (omega arith) in
      omega arith

  four_new : (x k : ℕ) → x ≡ 56 * n + k → four (t ++ r) x ≡ four r k
  four_new x k e =
      let a = byte_new x k e in
      let b = byte_new (x + 1) (k + 1) (omega arith) in
      let c = byte_new (x + 2) (k + 2) (omega arith) in
      let d = byte_new (x + 3) (k + 3) (omega arith) in
      omega arith

  -- NAMES
  name_old : (i : ℕ) → i < n → byte t (56 * i + 1) ≤ 48 → name_of (t ++ r) i ≡ name_of t i
  name_old i l h =
      let a = m.bytes in
      let e : byte (t ++ r) (56 * i + 1) ≡ byte t (56 * i + 1) = byte_old (56 * i + 1) (omega arith) in
      let d : drop (56 * i + 4) (t ++ r) ≡ drop (56 * i + 4) t ++ r = drop-append-le (56 * i + 4) t r (omega arith) in
      let long : byte t (56 * i + 1) ≤ length (drop (56 * i + 4) t) = simp length-drop (omega arith) in
      ap₂ (λ (k : ℕ) (l : List ℕ). take k l) e d ∙ take-append-le (byte t (56 * i + 1)) (drop (56 * i + 4) t) r long

  name_new : name_of (t ++ r) n ≡ own_name r
  name_new =
      let a = m.bytes in
      let f : 56 * n + 4 ≡ length t + 4 = omega arith in
      ap₂ (λ (k : ℕ) (l : List ℕ). take k l) (byte_new (56 * n + 1) 1 refl) (ap (λ (y : ℕ). drop y (t ++ r)) f ∙ drop-append-add t r 4)

  -- RECORDS
  symbol_old : (i : ℕ) → i < n → IsSymbol t i → IsSymbol (t ++ r) i
  symbol_old i l s =
      let b0 = byte_old (56 * i) (omega arith) in
      let b1 = byte_old (56 * i + 1) (omega arith) in
      let b2 = byte_old (56 * i + 2) (omega arith) in
      let b3 = byte_old (56 * i + 3) (omega arith) in
      let f = four_old (56 * i + 52) (omega arith) in
      record {
        kind = let q = s.kind in omega arith;
        some = let q = s.some in omega arith;
        most = let q = s.most in omega arith;
        zeros = (b2 ∙ s.zeros.0, b3 ∙ s.zeros.1);
        padding = λ j h k. byte_old (56 * i + 4 + j) (omega arith) ∙ s.padding j (omega arith) k;
        lower = λ e. let q = s.lower (sym b0 ∙ e) in omega arith;
      }

  symbol_back : (i : ℕ) → i < n → IsSymbol (t ++ r) i → IsSymbol t i
  symbol_back i l s =
      let b0 = byte_old (56 * i) (omega arith) in
      let b1 = byte_old (56 * i + 1) (omega arith) in
      let b2 = byte_old (56 * i + 2) (omega arith) in
      let b3 = byte_old (56 * i + 3) (omega arith) in
      let f = four_old (56 * i + 52) (omega arith) in
      record {
        kind = let q = s.kind in omega arith;
        some = let q = s.some in omega arith;
        most = let q = s.most in omega arith;
        zeros = (sym b2 ∙ s.zeros.0, sym b3 ∙ s.zeros.1);
        padding = λ j h k. sym (byte_old (56 * i + 4 + j) (omega arith)) ∙ s.padding j (omega arith) k;
        lower = λ e. let q = s.lower (b0 ∙ e) in omega arith;
      }

  symbol_new : OwnRules n r → IsSymbol (t ++ r) n
  symbol_new s =
      let b0 = byte_new (56 * n) 0 (omega arith) in
      let b1 = byte_new (56 * n + 1) 1 refl in
      let f = four_new (56 * n + 52) 52 refl in
      record {
        kind = let q = s.kind in omega arith;
        some = let q = s.some in omega arith;
        most = let q = s.most in omega arith;
        zeros = (byte_new (56 * n + 2) 2 refl ∙ s.zeros.0, byte_new (56 * n + 3) 3 refl ∙ s.zeros.1);
        padding = λ j h k. byte_new (56 * n + 4 + j) (4 + j) (omega arith) ∙ s.padding j (omega arith) k;
        lower = λ e. let q = s.lower (sym b0 ∙ e) in omega arith;
      }

  symbol_own : IsSymbol (t ++ r) n → OwnRules n r
  symbol_own s =
      let b0 = byte_new (56 * n) 0 (omega arith) in
      let b1 = byte_new (56 * n + 1) 1 refl in
      let f = four_new (56 * n + 52) 52 refl in
      record {
        kind = let q = s.kind in omega arith;
        some = let q = s.some in omega arith;
        most = let q = s.most in omega arith;
        zeros = (sym (byte_new (56 * n + 2) 2 refl) ∙ s.zeros.0, sym (byte_new (56 * n + 3) 3 refl) ∙ s.zeros.1);
        padding = λ j h k. sym (byte_new (56 * n + 4 + j) (4 + j) (omega arith)) ∙ s.padding j (omega arith) k;
        lower = λ e. let q = s.lower (b0 ∙ e) in omega arith;
      }

  -- a value of a record stays
  resolves_old : {i v : ℕ} → i < n → Resolves t i v → Resolves (t ++ r) i v
  resolves_old l (value i z) =
      subst (Resolves (t ++ r) i) (four_old (56 * i + 52) (omega arith)) (value i (byte_old (56 * i) (omega arith) ∙ z))
  resolves_old l (alias i v one low q) =
      let f = four_old (56 * i + 52) (omega arith) in
      alias i v (byte_old (56 * i) (omega arith) ∙ one) (omega arith) (subst (λ (j : ℕ). Resolves (t ++ r) j v) (sym f) (resolves_old (omega arith) q))

  -- THE TABLE
  module _ (s : IsTable t) where
    count_old : s.n ≡ n
    count_old = let a = m.bytes in let b = s.bytes in omega arith

    most_of : (i : ℕ) → i < n → byte t (56 * i + 1) ≤ 48
    most_of i l = let c = count_old in (s.symbols i (omega arith)).most

    old_apart : (i : ℕ) → i < n → has_name t (own_name r) ≡ false → name_of (t ++ r) i ≢ name_of (t ++ r) n
    old_apart i l none e =
        let c = count_old in
        let a = m.bytes in
        let own : name_of t i ≡ own_name r = sym (name_old i l (most_of i l)) ∙ e ∙ name_new in
        contra
        (named_out t (own_name r) (value_at t i) s
        (record { i = i; inside = omega arith; own = own; resolves = resolves t s (suc i) i (omega arith) (omega arith) })).0
        none

    grown : n < 256 → OwnRules n r → has_name t (own_name r) ≡ false → IsTable (t ++ r)
    grown few o none =
        record {
          n = n + 1;
          bytes = all_bytes;
          most = omega arith;
          symbols = λ i l. let c = count_old in by_order i n
              (λ h. symbol_old i h (s.symbols i (omega arith)))
              (λ h. absurd (omega arith))
              (λ e. subst (IsSymbol (t ++ r)) (sym e) (symbol_new o));
          apart = λ i j li lj ne. let c = count_old in by_order i n
              (λ hi. by_order j n
              (λ hj e. s.apart i j (omega arith) (omega arith) ne (sym (name_old i hi (most_of i hi)) ∙ e ∙ name_old j hj (most_of j hj)))
              (λ hj. absurd (omega arith))
              (λ ej e. old_apart i hi none (e ∙ ap (name_of (t ++ r)) ej)))
              (λ hi. absurd (omega arith))
              (λ ei. by_order j n
              (λ hj e. old_apart j hj none (sym e ∙ ap (name_of (t ++ r)) ei))
              (λ hj. absurd (omega arith))
              (λ ej. absurd (ne (ei ∙ sym ej))));
        }

  module _ (s : IsTable (t ++ r)) where
    count_new : s.n ≡ n + 1
    count_new = let a = all_bytes in let b = s.bytes in omega arith

    own_rules : OwnRules n r
    own_rules = let c = count_new in symbol_own (s.symbols n (omega arith))

    fewer : IsTable t
    fewer =
        let c = count_new in
        let most = s.most in
        record {
          n = n;
          bytes = m.bytes;
          most = omega arith;
          symbols = λ i l. symbol_back i l (s.symbols i (omega arith));
          apart = λ i j li lj ne e. s.apart i j (omega arith) (omega arith) ne
              (name_old i li (symbol_back i li (s.symbols i (omega arith))).most ∙ e ∙ sym (name_old j lj (symbol_back j lj (s.symbols j (omega arith))).most));
        }

    -- the names before it
    named_old : (name : List ℕ) (v : ℕ) → Named t name v → Named (t ++ r) name v
    named_old name v q =
        let c = count_old fewer in
        let a = m.bytes in
        let b = all_bytes in
        let w = q.inside in
        let l : q.i < n = omega arith in
        record { i = q.i; inside = omega arith; own = name_old q.i l (most_of fewer q.i l) ∙ q.own; resolves = resolves_old l q.resolves }

    kept_name : (name : List ℕ) → has_name t name ≡ true → (has_name (t ++ r) name ≡ true) × (value_of (t ++ r) name ≡ value_of t name)
    kept_name name h = named_out (t ++ r) name (value_of t name) s (named_old name (value_of t name) (named_in t name (value_of t name) fewer (h, refl)))

    only_name : (name : List ℕ) → name ≢ own_name r → has_name (t ++ r) name ≡ true → has_name t name ≡ true
    unfolding fewer
    only_name name ne h =
        let q = named_in (t ++ r) name (value_of (t ++ r) name) s (h, refl) in
        let b = all_bytes in
        let a = m.bytes in
        let w = q.inside in
        by_order q.i n
        (λ l. (named_out t name (value_at t q.i) fewer
        (record {
          i = q.i;
          inside = omega arith;
          own = sym (name_old q.i l (most_of fewer q.i l)) ∙ q.own;
          resolves = resolves t fewer (suc q.i) q.i (omega arith) l;
        })).0)
        (λ l. absurd (omega arith))
        (λ e. absurd (ne (sym q.own ∙ ap (name_of (t ++ r)) e ∙ name_new)))

    -- its own
    own_is : (v : ℕ) → Resolves (t ++ r) n v → (has_name (t ++ r) (own_name r) ≡ true) × (value_of (t ++ r) (own_name r) ≡ v)
    own_is v q = let b = all_bytes in named_out (t ++ r) (own_name r) v s (record { i = n; inside = omega arith; own = name_new; resolves = q })

    own_there : has_name (t ++ r) (own_name r) ≡ true
    own_there = let c = count_new in (own_is (value_at (t ++ r) n) (resolves (t ++ r) s (suc n) n (omega arith) (omega arith))).0

    own_number : byte r 0 ≡ 0 → value_of (t ++ r) (own_name r) ≡ four r 52
    own_number z =
        (own_is (four r 52)
        (subst (Resolves (t ++ r) n) (four_new (56 * n + 52) 52 refl) (value n (byte_new (56 * n) 0 (omega arith) ∙ z)))).1

    own_alias : byte r 0 ≡ 1 → value_of (t ++ r) (own_name r) ≡ value_of t (name_of_record t (four r 52))
    unfolding fewer
    own_alias one =
        let low = own_rules.lower one in
        let a = m.bytes in
        let f = four_new (56 * n + 52) 52 refl in
        let q : Resolves t (four r 52) (value_at t (four r 52)) = resolves t fewer (suc (four r 52)) (four r 52) (omega arith) low in
        let named : value_of t (name_of_record t (four r 52)) ≡ value_at t (four r 52) = (named_out t (name_of_record t (four r 52)) (value_at t (four r 52)) fewer
        (record { i = four r 52; inside = omega arith; own = refl; resolves = q })).1 in
        (own_is (value_at t (four r 52))
        (alias n (value_at t (four r 52)) (byte_new (56 * n) 0 (omega arith) ∙ one) (omega arith)
        (subst (λ (j : ℕ). Resolves (t ++ r) j (value_at t (four r 52))) (sym f) (resolves_old low q)))).1
        ∙ sym named

pub record_by_record : RecordByRecord
record_by_record =
    record {
      none = table_in [] (record { n = 0; bytes = refl; most = omega arith; symbols = λ i l. absurd (omega arith); apart = λ i j l. absurd (omega arith) });
      odd = λ t h. not_so (symbol_table t) (λ e. let s = table_out t e in let b = s.bytes in h (omega arith));
      over = λ t h. not_so (symbol_table t) (λ e. let s = table_out t e in let b = s.bytes in let q = s.most in omega arith);
      more = λ t r n m few e. (
        (λ g. let s = table_out (t ++ r) g in
            (own_rules t r n m s, not_so (has_name t (own_name r)) (λ h. twice t r n m s h))),
        (λ o. table_in (t ++ r) (grown t r n m (table_out t e) few o.0 o.1)),
      );
      before = λ t r n m g. table_in t (fewer t r n m (table_out (t ++ r) g));
      no_name = λ name. unfold has_name in refl;
      old_name = λ t r name n m g ne. same (has_name (t ++ r) name) (has_name t name)
          (only_name t r n m (table_out (t ++ r) g) name ne)
          (λ h. (kept_name t r n m (table_out (t ++ r) g) name h).0);
      own_name_lem = λ t r n m g. own_there t r n m (table_out (t ++ r) g);
      old_value = λ t r name n m g h. (kept_name t r n m (table_out (t ++ r) g) name h).1;
      own_value = λ t r n m g. own_number t r n m (table_out (t ++ r) g);
      alias_value = λ t r n m g. own_alias t r n m (table_out (t ++ r) g);
    }
  where
    same : (a b : Bool) → (a ≡ true → b ≡ true) → (b ≡ true → a ≡ true) → a ≡ b
    same a b f g = either a (λ e. e ∙ sym (f e)) (λ e. e ∙ sym (not_so b (λ h. contra (g h) e)))

    twice : (t r : List ℕ) (n : ℕ) (m : OneMore t r n) (s : IsTable (t ++ r)) → has_name t (own_name r) ≡ true → ⊥
    twice t r n m s h =
        let q = named_in t (own_name r) (value_of t (own_name r)) (fewer t r n m s) (h, refl) in
        let a = m.bytes in
        let c = count_new t r n m s in
        let w = q.inside in
        let l : q.i < n = omega arith in
        s.apart q.i n (omega arith) (omega arith) (λ e. omega arith)
        (name_old t r n m q.i l (most_of t r n m (fewer t r n m s) q.i l) ∙ q.own ∙ sym (name_new t r n m))
