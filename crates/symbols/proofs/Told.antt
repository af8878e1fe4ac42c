-- Each number of a name's lookup exactly in its case.
-- Assumes nothing.
use mathlib.Core.Path.{◌≡◌, refl, ap}
use mathlib.Core.Bool.{true, false}
use mathlib.Core.List.{List}
use Rattle.std.specs.Prelude.{Result, Ok, Err}
use Prim.Native.Nat.{ℕ}
use native.Mathlib.Omega.{arith}
use Rattle.lists.proofs.Tests.{either, contra}
use Rattle.symbols.specs.Answers.{found_in, symbol_of, SymbolNumbers}
use Rattle.symbols.specs.Table.{symbol_table, has_name, value_of}
use Rattle.symbols.specs.declared.Unresolved.{Unresolved}
use Rattle.symbols.specs.declared.Unresolved.TheVariants.{NoTable, Unknown}
use Rattle.symbols.proofs.Logic.{table_when, resolves_when}

module _ (t name : List ℕ) where
  none_there : symbol_table t ≡ false → symbol_of t name ≡ Err NoTable
  unfolding symbol_of
  none_there e = rw e

  not_there : symbol_table t ≡ true → has_name t name ≡ false → symbol_of t name ≡ Err Unknown
  unfolding symbol_of found_in
  not_there e h = rw (e, h)

  there : symbol_table t ≡ true → has_name t name ≡ true → symbol_of t name ≡ Ok (value_of t name)
  unfolding symbol_of found_in
  there e h = rw (e, h)

  apart : {v : ℕ} {e : Unresolved} → Err e ≡ Ok v → ⊥
  apart e = let z : ◌≡◌ {A = ℕ} 0 1 = cc in omega arith

  same_value : {v w : ℕ} → ◌≡◌ {A = Result ℕ Unresolved} (Ok v) (Ok w) → v ≡ w
  same_value e = cc

  with_none : symbol_table t ≡ false → SymbolNumbers t name (symbol_of t name)
  with_none e =
      rw (none_there e)
      (record {
        no_table = (λ z i. contra ((table_when t).1 i) e, λ n. refl);
        unknown = (λ z. absurd (omega arith), λ (i, n). absurd (contra ((table_when t).1 i) e));
        value = λ v. (λ z. absurd (apart z), λ (i, n). absurd (contra ((table_when t).1 i) e));
      })

  with_table : symbol_table t ≡ true → SymbolNumbers t name (symbol_of t name)
  with_table e =
      let i = (table_when t).0 e in
      either (has_name t name)
      (λ h.
      rw (there e h)
      (record {
        no_table = (λ z. absurd (omega arith), λ n. absurd (n i));
        unknown = (λ z. absurd (omega arith), λ (j, n). absurd (n (value_of t name) ((resolves_when t name (value_of t name) i).1 (h, refl))));
        value = λ v. (λ z. (i, (resolves_when t name v i).1 (h, same_value z)), λ (j, n). ap (λ (x : ℕ). Ok x) ((resolves_when t name v i).0 n).1);
      }))
      (λ h.
      rw (not_there e h)
      (record {
        no_table = (λ z. absurd (omega arith), λ n. absurd (n i));
        unknown = (λ z. (i, λ v n. contra ((resolves_when t name v i).0 n).0 h), λ n. refl);
        value = λ v. (λ z. absurd (apart z), λ (j, n). absurd (contra ((resolves_when t name v i).0 n).0 h));
      }))

  pub symbol_numbers : SymbolNumbers t name (symbol_of t name)
  symbol_numbers = either (symbol_table t) with_table with_none
