-- The whole batch, from its verdict, and its answers by value: for every single call.
-- Assumes nothing.
use Rattle.std.specs.Prelude.{Result, Ok, Err}
use mathlib.Core.Path.{◌≡◌, refl, sym, ap, ◌∙◌}
use mathlib.Core.Bool.{Bool, true, false, cond}
use mathlib.Core.List.{List, ◌++◌, append_assoc}
use mathlib.Core.Logic.{◌≢◌}
use Prim.Native.Nat.{ℕ, min}
use native.Mathlib.Omega.{arith}
use lib.ListN.{length, take, drop}
use lib.Seq.{length-take-le}
use Rattle.lists.proofs.Tests.{either}
use Rattle.rules.specs.Commands.{CommandArgs}
use Rattle.rules.specs.Results.{verdict_number}
use Rattle.rules.specs.declared.Refusal.{Refusal}
use Rattle.rules.specs.declared.Refusal.TheVariants.{BufferLength}
use Rattle.answers.specs.declared.Answered.{Answered}
use Rattle.batches.specs.Batch.{BatchArgs, Single, items_of, unfit_by, unfit, Batch, left_by, batch, LeftAs, filled, numbers_of, lengths_of, Answers}
use Rattle.batches.proofs.Records.{same_batch, count, gives}

abbrev verdict_of : Bool → Result (Unit {0}) Refusal
verdict_of b = cond b (Err BufferLength) (Ok tt)

accepts : (b : Bool) (v : Result (Unit {0}) Refusal) → v ≡ verdict_of b → v ≡ (Ok tt) → b ≡ false
accepts true v e h = let z : ◌≡◌ {A = ℕ} 0 1 = cc in absurd (omega arith)
accepts false v e h = refl

rejects : (b : Bool) (v : Result (Unit {0}) Refusal) (r : Refusal) → v ≡ verdict_of b → v ≡ Err r → b ≡ true
rejects true v r e h = refl
rejects false v r e h = let z : ◌≡◌ {A = ℕ} 0 1 = cc in absurd (omega arith)

pub verdict_is : {S : Type 0} (call : S → CommandArgs → Single S) (s : S) (a : BatchArgs) (records : ℕ)
    → (batch call s a records).verdict ≡ verdict_of (unfit_by (items_of a) (length a.lengths) records (length a.replies))
unfolding batch unfit
verdict_is call s a records = either (unfit_by (items_of a) (length a.lengths) records (length a.replies)) (λ e. rw e) (λ e. rw e)

-- what the function that fills the two lists says
module _ {S : Type 0} (call : S → CommandArgs → Single S) (s : S) (a : BatchArgs) (numbers sizes : List ℕ) where
  abbrev both : Batch S
  both = batch call s a (min (length numbers) (length sizes))

  abbrev Said : Result (Unit {0}) Refusal → S → (image replies ns ls : List ℕ) → Type 0
  Said v state image replies ns ls =
      (v ≡ both.verdict)
      × LeftAs both state image replies
      × (ns ≡ filled numbers (numbers_of both.left.answers))
      × (ls ≡ filled sizes (lengths_of both.left.answers))

module _ {S : Type 0} (call : S → CommandArgs → Single S) (s : S) (a : BatchArgs) (numbers sizes : List ℕ) {v : (Result (Unit {0}) Refusal)} {records : ℕ} (records_is : records ≡ min (length numbers) (length sizes))
    (v-is : v ≡ verdict_of (unfit_by (items_of a) (length a.lengths) records (length a.replies))) where
  abbrev test : Bool
  test = unfit_by (items_of a) (length a.lengths) (min (length numbers) (length sizes)) (length a.replies)

  v_by : v ≡ verdict_of test
  v_by = rw records_is at v-is

  pub fits : v ≡ (Ok tt) → test ≡ false
  fits h = accepts test v v_by h

  pub refused : {r : Refusal} → v ≡ Err r → Said call s a numbers sizes v s a.image a.replies numbers sizes
  unfolding batch unfit left_by
  refused {r} h = let t : test ≡ true = rejects test v r v_by h in rw (t, v_by, t) (refl, (refl, refl, refl), refl, refl)

  pub accepted : v ≡ (Ok tt) → {state : S} {image replies ns ls : List ℕ}
      → (state ≡ (left_by call a s (items_of a)).state)
      × (image ≡ (left_by call a s (items_of a)).image)
      × (replies ≡ (left_by call a s (items_of a)).replies)
      × (ns ≡ filled numbers (numbers_of (left_by call a s (items_of a)).answers))
      × (ls ≡ filled sizes (lengths_of (left_by call a s (items_of a)).answers))
      → Said call s a numbers sizes v state image replies ns ls
  unfolding batch unfit
  accepted h e = rw (fits h) (h, (e.0, e.1, e.2), e.3, e.4)

-- THE ANSWERS BY VALUE: z is a list of 64 numbers, of which the first are lent

module _ (records : ℕ) {room : ℕ} (room-is : room ≡ min records 64) (z : List ℕ) (long : length z ≡ 64) where
  pub room_long : room ≡ length (take room z)
  room_long = sym (length-take-le room z (omega arith))

  -- a list whose first numbers were lent and filled
  abbrev rest : List ℕ → List ℕ
  rest each = drop (length each) (take room z) ++ drop room z

  whole_list : (each l : List ℕ) → l ≡ filled (take room z) each → l ++ drop room z ≡ each ++ rest each
  whole_list each l e = ap (λ (m : List ℕ). m ++ drop room z) e ∙ append_assoc each (drop (length each) (take room z)) (drop room z)

  module _ {S : Type 0} (call : S → CommandArgs → Single S) (s : S) (a : BatchArgs) {v : (Result (Unit {0}) Refusal)} {state : S} {image replies ns ls : List ℕ}
      (said : Said call s a (take room z) (take room z) v state image replies ns ls) where
    abbrev o : Batch S
    o = batch call s a records

    told : (v ≡ o.verdict)
        × LeftAs o state image replies
        × (ns ≡ filled (take room z) (numbers_of o.left.answers))
        × (ls ≡ filled (take room z) (lengths_of o.left.answers))
    told =
        let e : min (length (take room z)) (length (take room z)) ≡ min records 64 = omega (arith, room_long) in
        rw (e, same_batch call s a records) at said

    module _ {number : ℕ} (n : ℕ) (number_is : number ≡ verdict_number v) where
      abbrev answers : Answered
      answers = record { number = number; numbers = ns ++ drop room z; lengths = ls ++ drop room z; filled = n }

      abbrev Given : Type 0
      Given = (v ≡ o.verdict) × Answers answers records o.left.answers × LeftAs o state image replies

      by_count : n ≡ length o.left.answers → Given
      by_count e = (
        told.0,
        gives answers o.left.answers (rest (numbers_of o.left.answers)) (rest (lengths_of o.left.answers))
            (whole_list (numbers_of o.left.answers) ns told.2) (whole_list (lengths_of o.left.answers) ls told.3) e records (count call s a records).few,
        told.1,
      )

      pub given : number ≡ 0 → n ≡ items_of a → Given
      given h e = by_count (e ∙ (count call s a records).done (rw (← told.0, ← number_is) h))

      pub not_given : number ≢ 0 → n ≡ 0 → Given
      not_given h e = by_count (e ∙ (count call s a records).refused (rw (← told.0, ← number_is) h))
