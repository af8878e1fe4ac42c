-- The answers of a batch as two lists of numbers, and as records in a lent list. No store stands here.
-- Assumes nothing.
use mathlib.Core.Path.{◌≡◌, refl, sym, ap, ◌∙◌}
use mathlib.Core.Bool.{false}
use mathlib.Core.Logic.{◌≢◌}
use mathlib.Core.List.{List, [], ◌∷◌, ◌++◌, map, map-append}
use Prim.Native.Nat.{ℕ, zero, suc, ◌≤◌, ◌<◌, min}
use native.Mathlib.Nat.{min-eq_left}
use native.Mathlib.Numerals.{add-one}
use native.Mathlib.Omega.{arith}
use lib.Dec.{ltb}
use lib.ListN.{length, get_or, set, take, drop, length-append, length-map, get_or-append, get_or-map}
use lib.Seq.{length-take-le, take-length, take-suc, drop-cons, set_at, append_snoc}
use borrow.Author.Tests.{ltb-false, lt-ltb, le-ltb}
use Rattle.lists.proofs.Splice.{fill_turn}
use Rattle.lists.proofs.Tests.{either, by_lt}
use Rattle.rules.specs.Commands.{CommandArgs}
use Rattle.rules.specs.Results.{verdict_number}
use Rattle.answers.specs.Records.{record_at, put_records}
use Rattle.answers.specs.declared.Answered.{Answered}
use Rattle.answers.specs.declared.ItemAnswer.{ItemAnswer}
use Rattle.batches.specs.Batch.{BatchArgs, Single, items_of, unfit, left_by, Batch, batch, filled, numbers_of, lengths_of, Answers}
use Rattle.batches.proofs.InPlain.{fits_out}

-- A FIELD OF EACH RECORD

pub numbers_map : (xs : List ItemAnswer) → numbers_of xs ≡ map (λ r. r.number) xs
numbers_map [] = refl
numbers_map (r ∷ rs) = rw (numbers_map rs)

pub lengths_map : (xs : List ItemAnswer) → lengths_of xs ≡ map (λ r. r.length) xs
lengths_map [] = refl
lengths_map (r ∷ rs) = rw (lengths_map rs)

-- one store of a loop that fills a lent list with a field of each record
field_more : (f : ItemAnswer → ℕ) (l : List ℕ) (xs : List ItemAnswer) (r : ItemAnswer) (i : ℕ) → length xs ≡ i → i < length l
    → set (filled l (map f xs)) i (f r) ≡ filled l (map f (xs ++ (r ∷ [])))
field_more f l xs r i e h =
    rw (map-append f xs (r ∷ []), length-append (map f xs) (f r ∷ []), length-map xs f, e)
    (fill_turn (map f xs) l i (f r) (length-map xs f ∙ e) h)

module _ (l : List ℕ) (xs : List ItemAnswer) (r : ItemAnswer) (i : ℕ) (e : length xs ≡ i) (h : i < length l) where
  pub numbers_more : set (filled l (numbers_of xs)) i r.number ≡ filled l (numbers_of (xs ++ (r ∷ [])))
  numbers_more = rw (numbers_map xs, numbers_map (xs ++ (r ∷ []))) (field_more (λ r. r.number) l xs r i e h)

  pub lengths_more : set (filled l (lengths_of xs)) i r.length ≡ filled l (lengths_of (xs ++ (r ∷ [])))
  lengths_more = rw (lengths_map xs, lengths_map (xs ++ (r ∷ []))) (field_more (λ r. r.length) l xs r i e h)

-- an answer for each item
pub answers_length : {S : Type 0} (call : S → CommandArgs → Single S) (a : BatchArgs) (s : S) (k : ℕ) → length (left_by call a s k).answers ≡ k
unfolding left_by
answers_length call a s zero = refl
answers_length call a s (suc k) = length-append (left_by call a s k).answers _ ∙ rw (answers_length call a s k, add-one)

-- HOW MANY ANSWERS

module _ (a : BatchArgs) (records : ℕ) where
  same_test : ltb 64 (items_of a) ≡ false → ltb (min records 64) (items_of a) ≡ ltb records (items_of a)
  same_test e =
      let few : items_of a ≤ 64 = ltb-false 64 (items_of a) e in
      by_lt records (items_of a)
      (λ h. rw (lt-ltb records (items_of a) h, lt-ltb (min records 64) (items_of a) (omega arith)))
      (λ h. rw (le-ltb records (items_of a) h, le-ltb (min records 64) (items_of a) (omega arith)))

  same_unfit : unfit a (min records 64) ≡ unfit a records
  unfolding unfit
  same_unfit = either (ltb 64 (items_of a)) (λ e. rw e) (λ e. rw (e, same_test e))

module _ {S : Type 0} (call : S → CommandArgs → Single S) (s : S) (a : BatchArgs) (records : ℕ) where
  -- more than 64 answer records are no better than 64
  pub same_batch : batch call s a (min records 64) ≡ batch call s a records
  unfolding batch
  same_batch = rw (same_unfit a records)

  -- an answer for each item, or none
  pub record Count (o : Batch S) : Type 0 where
    pub done : verdict_number o.verdict ≡ 0 → items_of a ≡ length o.left.answers
    pub refused : verdict_number o.verdict ≢ 0 → 0 ≡ length o.left.answers
    pub few : length o.left.answers ≤ records

  pub count : Count (batch call s a records)
  unfolding batch left_by
  count =
      either (unfit a records)
      (λ e. rw e record { done = λ h. absurd (omega arith); refused = λ h. refl; few = omega arith })
      (λ e.
      let long : length (left_by call a s (items_of a)).answers ≡ items_of a = answers_length call a s (items_of a) in
      rw e record { done = λ h. sym long; refused = λ h. absurd (h refl); few = rw long (fits_out a records e).room })

-- ANSWERS BY VALUE

abbrev none : ItemAnswer
none = record { number = 0; length = 0 }

-- whose numbers and lengths begin with those of these records
module _ (a : Answered) (each : List ItemAnswer) (ns ls : List ℕ) (numbers : a.numbers ≡ numbers_of each ++ ns) (lengths : a.lengths ≡ lengths_of each ++ ls) where
  field_at : (f : ItemAnswer → ℕ) (rest : List ℕ) (k : ℕ) → k < length each → get_or (map f each ++ rest) k (f none) ≡ f (get_or each k none)
  field_at f rest k h = get_or-append (map f each) rest (f none) k (rw length-map h) ∙ get_or-map f each k none

  record_is : (k : ℕ) → k < length each → record_at a k ≡ get_or each k none
  record_is k h =
      let n : get_or a.numbers k 0 ≡ (get_or each k none).number = rw (numbers, numbers_map each) (field_at (λ r. r.number) ns k h) in
      let l : get_or a.lengths k 0 ≡ (get_or each k none).length = rw (lengths, lengths_map each) (field_at (λ r. r.length) ls k h) in
      rw (n, l)

  module _ (lent : List ItemAnswer) where
    put_first : (k : ℕ) → k ≤ length each → k ≤ length lent → put_records lent a k ≡ take k each ++ drop k lent
    put_first zero h g = refl
    put_first (suc k) h g =
        rw (put_first k (omega arith) (omega arith), record_is k (omega arith), drop-cons lent k none (omega arith), take-suc each k none (omega arith))
        (set_at (take k each) _ _ _ k (length-take-le k each (omega arith)) ∙ sym (append_snoc (take k each) _ _))

  -- they give these records to every lent list that has room for them
  pub gives : a.filled ≡ length each → (records : ℕ) → length each ≤ records → Answers a records each
  gives e records h lent long =
      let few : length each ≤ length lent = omega arith in
      ap (λ (n : ℕ). put_records lent a (min n (length lent))) e ∙ rw (min-eq_left few, put_first lent (length each) (omega arith) few, take-length)
