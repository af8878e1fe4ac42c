-- The steps from a command to its task give what the chain of its tests gives.
-- Assumes nothing.
use Rattle.std.specs.Prelude.{Some, Result, Ok, Err}
use mathlib.Core.Path.{◌≡◌, refl, sym, ◌∙◌}
use mathlib.Core.Logic.{◌≢◌}
use mathlib.Core.Bool.{Bool, true, false, cond, not, ◌&&◌}
use mathlib.Core.List.{List, []}
use Prim.Native.Nat.{ℕ, ◌+◌, ◌-◌, ◌%◌, ◌≤◌, ◌<◌}
use native.Mathlib.Omega.{arith}
use lib.Dec.{leb, eqb}
use lib.ListN.{length, get_or, take, drop, length-drop, drop_of_length-le}
use lib.Seq.{take_all, take-nil}
use borrow.Author.Tests.{ne_eqb, lt-ltb, le-ltb, lt-leb, le-leb}
use Rattle.lists.proofs.Tests.{either}
use Rattle.wire.specs.Bytes.{be_at}
use Rattle.symbols.specs.Table.{symbol_table, has_name, value_of}
use Rattle.symbols.specs.Answers.{found_in, symbol_of}
use Rattle.symbols.specs.declared.Unresolved.TheVariants as unresolved
use Rattle.rules.specs.Packets.{name_fits, zero_rules, name_in}
use Rattle.rules.specs.Regions.{aligned}
use Rattle.rules.specs.Values.{moved_up, address_fits}
use Rattle.rules.specs.Commands.{range_by, task_of, wrong_range}
use Rattle.rules.specs.declared.Command.TheVariants.{SymbolValue, DumpSymbol}
use Rattle.rules.specs.declared.SymbolRequest.{SymbolRequest}
use Rattle.rules.specs.declared.Refusal.TheVariants.{BadTable, BadField, UnknownSymbol}
use Rattle.rules.specs.declared.Task.TheVariants.{DumpRange, TellValue}
use Rattle.tasks.specs.Asked.{asked_of, named_by, named_if, dump_from}
use Rattle.rules.specs.declared.Refusal.{Refusal}
use Rattle.rules.specs.declared.Task.{Task}
use Rattle.symbols.specs.declared.Unresolved.{Unresolved}

-- THE NAME IN A PACKET: as many bytes as its size says, or as there are

module _ (p : List ℕ) where
  pub name_none : length p < 12 → [] ≡ name_in p
  unfolding name_in
  name_none h = let k : length p ≤ 12 = omega arith in rw (drop_of_length-le p k, take-nil)

  pub name_cut : length p < 12 + get_or p 10 0 → take (length p - 12) (drop 12 p) ≡ name_in p
  unfolding name_in
  name_cut h =
      let l = length-drop 12 p in
      take_all (length p - 12) (drop 12 p) (omega arith) ∙ sym (take_all (get_or p 10 0) (drop 12 p) (omega arith))

  pub name_whole : take (12 + get_or p 10 0 - 12) (drop 12 p) ≡ name_in p
  unfolding name_in
  name_whole = let e : 12 + get_or p 10 0 - 12 ≡ get_or p 10 0 = omega arith in rw e

-- THE DUMP FROM AN ADDRESS, which has 2^32 added

module _ (moved size : ℕ) where
  pub below_0 : moved < 4294967296 → Err BadField ≡ dump_from moved size
  below_0 h = rw (lt-leb 4294967296 moved h)

  pub too_high : 8589934592 ≤ moved → Err BadField ≡ dump_from moved size
  too_high h = let l : 4294967296 ≤ moved = omega arith in rw (le-leb 4294967296 moved l, le-ltb moved 8589934592 h)

  module _ (low : 4294967296 ≤ moved) (high : moved < 8589934592) where
    pub not_aligned : (moved - 4294967296) % 4 ≢ 0 → Err BadField ≡ dump_from moved size
    not_aligned n = rw (le-leb 4294967296 moved low, lt-ltb moved 8589934592 high, ne_eqb ((moved - 4294967296) % 4) 0 n)

    module _ (aligned : (moved - 4294967296) % 4 ≡ 0) where
      pub no_words : size ≡ 0 → Err BadField ≡ dump_from moved size
      no_words e = rw (e, le-leb 4294967296 moved low, lt-ltb moved 8589934592 high, aligned)

      pub some_words : 1 ≤ size → (a n : ℕ) → a ≡ moved - 4294967296 → n ≡ size
          → Ok (DumpRange (record { start = record { 0 = a }; words = n })) ≡ dump_from moved size
      some_words h a n e w = rw (e, w, le-leb 4294967296 moved low, lt-ltb moved 8589934592 high, aligned, le-leb 1 size h)

-- THE LOOKUP

-- what a lookup's answer comes to, in a packet whose layout is right or not
abbrev pub answered : Result ℕ Unresolved → Bool → Result ℕ Refusal
answered (Err unresolved.NoTable) right = Err BadTable
answered (Err unresolved.Unknown) right = named_if right (Err UnknownSymbol)
answered (Ok v) right = named_if right (Ok v)

module _ (t name : List ℕ) (right : Bool) where
  symbol_is : answered (symbol_of t name) right ≡ named_by t name right
  unfolding symbol_of found_in
  symbol_is =
      either (symbol_table t)
      (λ e. rw e (either (has_name t name) (λ h. rw h) (λ h. rw h)))
      (λ e. rw e)

  pub answered_as : {n : List ℕ} {s found : (Result ℕ Unresolved)} → n ≡ name → s ≡ symbol_of t n → s ≡ found → answered found right ≡ named_by t name right
  answered_as e l f = rw (← symbol_is, ← e, ← l, f)

-- THE TASK OF A COMMAND THAT NAMES A SYMBOL

-- 17, 9 or 18, or what is made of the value
abbrev pub sought_by : Result ℕ Refusal → (ℕ → Result Task Refusal) → Result Task Refusal
sought_by (Err r) f = Err r
sought_by (Ok v) f = f v

turned : {A : Type 0} (b : Bool) (x y : A) → cond b x y ≡ cond (not b) y x
turned true x y = refl
turned false x y = refl

range_is : (symbols name : List ℕ) (q : SymbolRequest)
    → dump_from (moved_up (value_of symbols name) q.offset) q.size
    ≡ cond (wrong_range symbols name (Some (DumpSymbol q))) (Err BadField) (Ok (task_of symbols name (Some (DumpSymbol q))))
range_is symbols name q = turned (address_fits (value_of symbols name) q.offset && aligned (range_by symbols name q) && leb 1 q.size) _ _

module _ (symbols p : List ℕ) where
  value_is : (n : ℕ) → sought_by (named_by symbols (name_in p) (name_fits n && zero_rules p (SymbolValue n))) (λ v. Ok (TellValue v)) ≡ asked_of symbols p (SymbolValue n)
  unfolding asked_of
  value_is n =
      either (symbol_table symbols)
      (λ t. rw t (either (name_fits n && zero_rules p (SymbolValue n))
      (λ l. rw l (either (has_name symbols (name_in p)) (λ h. rw h) (λ h. rw h)))
      (λ l. rw l)))
      (λ t. rw t)

  dump_is : (q : SymbolRequest)
      → sought_by (named_by symbols (name_in p) (name_fits q.name && zero_rules p (DumpSymbol q))) (λ v. dump_from (moved_up v q.offset) q.size)
      ≡ asked_of symbols p (DumpSymbol q)
  unfolding asked_of
  dump_is q =
      either (symbol_table symbols)
      (λ t. rw t (either (name_fits q.name && zero_rules p (DumpSymbol q))
      (λ l. rw l (either (has_name symbols (name_in p)) (λ h. rw h (range_is symbols (name_in p) q)) (λ h. rw h)))
      (λ l. rw l)))
      (λ t. rw t)

  module _ {fits zeros : Bool} {got found : (Result ℕ Refusal)} (g : got ≡ named_by symbols (name_in p) (fits && zeros)) (f : got ≡ found) where
    pub value_as : (n : ℕ) → fits ≡ name_fits n → zeros ≡ zero_rules p (SymbolValue n)
        → sought_by found (λ v. Ok (TellValue v)) ≡ asked_of symbols p (SymbolValue n)
    value_as n e z = rw (← value_is n, ← e, ← z, ← g, f)

    pub dump_as : (q : SymbolRequest) → fits ≡ name_fits q.name → zeros ≡ zero_rules p (DumpSymbol q)
        → sought_by found (λ v. dump_from (moved_up v q.offset) q.size) ≡ asked_of symbols p (DumpSymbol q)
    dump_as q e z = rw (← dump_is q, ← e, ← z, ← g, f)

-- the bits of a dump by name that hold no field
pub zeros_of : (p : List ℕ) (q : SymbolRequest) {a b : Bool} → a ≡ eqb (get_or p 11 0) 0 → b ≡ eqb (be_at 2 p 66) 0 → (a && b) ≡ zero_rules p (DumpSymbol q)
unfolding zero_rules
zeros_of p q e f = rw (e, f)
