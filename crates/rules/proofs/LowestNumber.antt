-- The result numbers: the first row that applies, and that where the rows ascend in some order its number is the lowest in it that applies.
-- Assumes nothing.
use Rattle.std.specs.Prelude.{Result, Ok, Err}
use mathlib.Core.Path.{◌≡◌, refl, sym, ap, subst⁻¹, ◌∙◌}
use mathlib.Core.Bool.{Bool, true, false, ◌&&◌, ◌||◌, cond}
use mathlib.Core.List.{List, [], ◌∷◌}
use Prim.Native.Nat.{ℕ, zero, suc, ◌≤◌, ◌<◌}
use native.Mathlib.Omega.{arith}
use lib.Dec.{ltb, eqb}
use lib.ListN.{get_or}
use borrow.Author.Tests.{ltb-true, eq-eqb, ne_eqb}
use Rattle.lists.proofs.Tests.{either, contra, and_left, and_right, by_order}
use Rattle.rules.specs.Results.{number, verdict_number, Row, lowest}
use Rattle.rules.specs.Demand1.{numbers_of, LowestBy, FirstAt, First}
use Rattle.rules.specs.Cases.{applies, applies_at}
use Rattle.rules.specs.declared.Refusal.{Refusal}
use Rattle.rules.specs.declared.Refusal.TheVariants.{BadState, ImageLength, BufferLength, Malformed, OtherApid, UnknownCode, PacketLength, OtherUnit, BadField, OutsideRegions, NoRight, TransactionBusy, PlacesBusy, NotBusy, PoolDamaged, NothingToSend, BadTable, UnknownSymbol, RunsOut}

-- EACH REFUSAL

some : (r : Refusal) → ltb 0 (number r) ≡ true
some BadState = refl
some ImageLength = refl
some BufferLength = refl
some Malformed = refl
some OtherApid = refl
some UnknownCode = refl
some PacketLength = refl
some OtherUnit = refl
some BadField = refl
some OutsideRegions = refl
some NoRight = refl
some TransactionBusy = refl
some PlacesBusy = refl
some NotBusy = refl
some PoolDamaged = refl
some NothingToSend = refl
some BadTable = refl
some UnknownSymbol = refl
some RunsOut = refl

-- its number is not 0
pub number_some : (r : Refusal) → 0 < number r
number_some r = ltb-true 0 (number r) (some r)

-- a row that does not apply adds nothing
applies_after : (r : Row) (rs : List Row) → r.applies ≡ false → (i : ℕ) → applies i (r ∷ rs) ≡ applies i rs
applies_after r rs a i = either (eqb (number r.refusal) i) (λ e. rw (e, a)) (λ e. rw e)

-- a row that applies gives its refusal, and one that does not is passed over
lowest_here : (r : Row) (rs : List Row) → r.applies ≡ true → lowest (r ∷ rs) ≡ Err r.refusal
unfolding lowest
lowest_here r rs a = rw a

lowest_after : (r : Row) (rs : List Row) → r.applies ≡ false → lowest (r ∷ rs) ≡ lowest rs
unfolding lowest
lowest_after r rs a = rw a

-- ROWS WHOSE NUMBERS ASCEND, in an order in which no two numbers are alike

module _ (order : ℕ → ℕ) (apart : (i j : ℕ) → order i ≡ order j → i ≡ j) where
  -- numbers that ascend strictly, all above m
  abbrev pub ascends : ℕ → List ℕ → Bool
  ascends m [] = true
  ascends m (x ∷ xs) = ltb m (order x) && ascends (order x) xs

  -- a number that is not above m applies in none of them
  none_below : (m : ℕ) (rows : List Row) → ascends m (numbers_of rows) ≡ true → (i : ℕ) → order i ≤ m → applies i rows ≡ false
  none_below m [] h i l = refl
  none_below m (r ∷ rs) h i l =
      let n : ℕ = number r.refusal in
      let a : m < order n = ltb-true m (order n) (and_left (ltb m (order n)) (ascends (order n) (numbers_of rs)) h) in
      rw (ne_eqb n i (λ e. let o : order n ≡ order i = ap order e in omega arith))
      (none_below (order n) rs (and_right (ltb m (order n)) (ascends (order n) (numbers_of rs)) h) i (omega arith))

  -- what a verdict that is the lowest number says of the rows
  abbrev Says : List Row → Result (Unit {0}) Refusal → Type 0
  Says rows (Ok tt) = (i : ℕ) → applies i rows ≡ false
  Says rows (Err r) = (applies (number r) rows ≡ true) × ((i : ℕ) → order i < order (number r) → applies i rows ≡ false)

  says_after : (r : Row) (rs : List Row) → r.applies ≡ false → (v : Result (Unit {0}) Refusal) → Says rs v → Says (r ∷ rs) v
  says_after r rs a (Ok tt) f = λ i. applies_after r rs a i ∙ f i
  says_after r rs a (Err x) f = (applies_after r rs a (number x) ∙ f.0, λ i l. applies_after r rs a i ∙ f.1 i l)

  says_here : (r : Row) (rs : List Row) → r.applies ≡ true → ascends (order (number r.refusal)) (numbers_of rs) ≡ true
      → Says (r ∷ rs) (Err r.refusal)
  says_here r rs a h =
      let n : ℕ = number r.refusal in (
        rw (eq-eqb n n refl, a),
        λ i l. rw (ne_eqb n i (λ e. let o : order n ≡ order i = ap order e in omega arith)) (none_below (order n) rs h i (omega arith)),
      )

  lowest_says : (m : ℕ) (rows : List Row) → ascends m (numbers_of rows) ≡ true → Says rows (lowest rows)
  unfolding lowest
  lowest_says m [] h = λ i. refl
  lowest_says m (r ∷ rs) h =
      let n : ℕ = order (number r.refusal) in
      let k : ascends n (numbers_of rs) ≡ true = and_right (ltb m n) (ascends n (numbers_of rs)) h in
      either r.applies
      (λ a. subst⁻¹ (Says (r ∷ rs)) (lowest_here r rs a) (says_here r rs a k))
      (λ a. subst⁻¹ (Says (r ∷ rs)) (lowest_after r rs a) (says_after r rs a (lowest rs) (lowest_says n rs k)))

  lowest_of : (rows : List Row) (v : Result (Unit {0}) Refusal) → Says rows v → LowestBy order rows (verdict_number v)
  lowest_of rows (Ok tt) f =
      record { refused = λ j l. (λ e. absurd (omega arith), λ h. absurd (contra h.0 (f j))); done = (λ e. f, λ g. refl) }
  lowest_of rows (Err r) f =
      record {
        refused = λ j l. (
          λ e. rw e at f,
          λ h.
              by_order (order (number r)) (order j)
              (λ k. absurd (contra f.0 (h.1 (number r) k)))
              (λ k. absurd (contra h.0 (f.1 j k)))
              (λ e. apart (number r) j e),
        );
        done = (λ e. let z : 0 < number r = number_some r in absurd (omega arith), λ g. absurd (contra f.0 (g (number r))));
      }

  -- the first row that applies gives the lowest number that does
  pub lowest_number : (rows : List Row) → ascends 0 (numbers_of rows) ≡ true → (v : Result (Unit {0}) Refusal) → lowest rows ≡ v → LowestBy order rows (verdict_number v)
  lowest_number rows up v e = lowest_of rows v (rw e at (lowest_says 0 rows up))

-- A ROW THAT DOES NOT APPLY can be left out

-- the rows but the one at place n
abbrev pub without : ℕ → List Row → List Row
without n [] = []
without zero (r ∷ rs) = rs
without (suc n) (r ∷ rs) = r ∷ without n rs

without_applies : (n : ℕ) (rows : List Row) → applies_at n rows ≡ false → (i : ℕ) → applies i rows ≡ applies i (without n rows)
without_applies n [] h i = refl
without_applies zero (r ∷ rs) h i = applies_after r rs h i
without_applies (suc n) (r ∷ rs) h i = ap (λ (b : Bool). (eqb (number r.refusal) i && r.applies) || b) (without_applies n rs h i)

without_lowest : (n : ℕ) (rows : List Row) → applies_at n rows ≡ false → lowest rows ≡ lowest (without n rows)
unfolding lowest
without_lowest n [] h = refl
without_lowest zero (r ∷ rs) h = lowest_after r rs h
without_lowest (suc n) (r ∷ rs) h = ap (cond r.applies (Err r.refusal)) (without_lowest n rs h)

-- the first row that applies has the lowest number if it has without that row
pub lowest_without : {order : ℕ → ℕ} (n : ℕ) (rows : List Row) → applies_at n rows ≡ false
    → LowestBy order (without n rows) (verdict_number (lowest (without n rows))) → LowestBy order rows (verdict_number (lowest rows))
lowest_without n rows h l =
    rw (without_lowest n rows h)
    (record {
      refused = λ j p. let w = l.refused j p in (
        λ e. let x = w.0 e in (without_applies n rows h j ∙ x.0, λ i q. without_applies n rows h i ∙ x.1 i q),
        λ x. w.1 (sym (without_applies n rows h j) ∙ x.0, λ i q. sym (without_applies n rows h i) ∙ x.1 i q),
      );
      done = (λ e i. without_applies n rows h i ∙ l.done.0 e i, λ f. l.done.1 (λ i. sym (without_applies n rows h i) ∙ f i));
    })

-- THE FIRST ROW, whatever the order of the numbers

-- what a verdict says of the places of the rows
abbrev SaysAt : List Row → Result (Unit {0}) Refusal → Type 0
SaysAt rows (Ok tt) = (i : ℕ) → applies_at i rows ≡ false
SaysAt rows (Err r) = (i : ℕ) × FirstAt rows i (number r)

-- where neither a row nor the first i rows after it apply, none does up to there
none_to : (r : Row) (rs : List Row) → r.applies ≡ false → (i : ℕ) → ((j : ℕ) → j < i → applies_at j rs ≡ false)
    → (j : ℕ) → j < suc i → applies_at j (r ∷ rs) ≡ false
none_to r rs a i f zero l = a
none_to r rs a i f (suc j) l = f j (omega arith)

says_at_after : (r : Row) (rs : List Row) → r.applies ≡ false → (v : Result (Unit {0}) Refusal) → SaysAt rs v → SaysAt (r ∷ rs) v
says_at_after r rs a (Ok tt) f = λ i. none_to r rs a i (λ j l. f j) i (omega arith)
says_at_after r rs a (Err x) (i, f) =
    (suc i, record { number = f.number; there = f.there; none_before = none_to r rs a i f.none_before })

first_says : (rows : List Row) → SaysAt rows (lowest rows)
unfolding lowest
first_says [] = λ i. refl
first_says (r ∷ rs) =
    either r.applies
    (λ a. subst⁻¹ (SaysAt (r ∷ rs)) (lowest_here r rs a) (0, record { number = refl; there = a; none_before = λ j l. absurd (omega arith) }))
    (λ a. subst⁻¹ (SaysAt (r ∷ rs)) (lowest_after r rs a) (says_at_after r rs a (lowest rs) (first_says rs)))

-- no two places are the first
first_one : (rows : List Row) (i j m n : ℕ) → FirstAt rows i m → FirstAt rows j n → m ≡ n
first_one rows i j m n f g =
    by_order i j
    (λ l. absurd (contra f.there (g.none_before i l)))
    (λ l. absurd (contra g.there (f.none_before j l)))
    (λ e. sym f.number ∙ ap (λ (k : ℕ). get_or (numbers_of rows) k 0) e ∙ g.number)

first_of : (rows : List Row) (v : Result (Unit {0}) Refusal) → SaysAt rows v → First rows (verdict_number v)
first_of rows (Ok tt) f =
    record { refused = λ j l. (λ e. absurd (omega arith), λ h. absurd (contra h.1.there (f h.0))); done = (λ e. f, λ g. refl) }
first_of rows (Err r) f =
    record {
      refused = λ j l. (λ e. rw e at f, λ h. first_one rows f.0 h.0 (number r) j f.1 h.1);
      done = (λ e. let z : 0 < number r = number_some r in absurd (omega arith), λ g. absurd (contra f.1.there (g f.0)));
    }

pub first_number : (rows : List Row) (v : Result (Unit {0}) Refusal) → lowest rows ≡ v → First rows (verdict_number v)
first_number rows v e = first_of rows v (rw e at (first_says rows))

-- ROWS OF WHICH NONE APPLIES

-- the test of number k
abbrev pub test_of : ℕ → List Row → Bool
test_of k [] = false
test_of k (r ∷ rs) = cond (eqb (number r.refusal) k) r.applies (test_of k rs)

-- where none applies each test says so
pub test_passed : (rows : List Row) → lowest rows ≡ (Ok tt) → (k : ℕ) → test_of k rows ≡ false
test_passed [] e k = refl
test_passed (r ∷ rs) e k =
    either r.applies
    (λ a. let q = lowest_here r rs a in let z : ◌≡◌ {A = ℕ} 0 1 = cc in absurd (omega arith))
    (λ a.
    let i : test_of k rs ≡ false = test_passed rs (sym (lowest_after r rs a) ∙ e) k in
    either (eqb (number r.refusal) k) (λ q. rw (q, a)) (λ q. rw q i))
