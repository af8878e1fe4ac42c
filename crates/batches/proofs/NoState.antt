-- A batch of single calls that refuse whatever they are given with 1 and leave all as it is: each item gets 1 and no bytes, and nothing else changes.
-- Assumes nothing.
use Rattle.std.specs.Prelude.{Result, Ok, Err}
use mathlib.Core.Path.{◌≡◌, refl, sym, ap, ◌∙◌}
use mathlib.Core.Bool.{false, cond, not, ◌||◌}
use mathlib.Core.List.{List, [], ◌∷◌, ◌++◌}
use Prim.Native.Nat.{ℕ, zero, suc, ◌+◌, ◌*◌, ◌-◌, ◌≤◌}
use native.Mathlib.Numerals.{add-one}
use native.Mathlib.Omega.{arith}
use lib.Dec.{ltb, eqb}
use lib.ListN.{length, replicate, take, drop, length-drop}
use lib.Seq.{length-take-le, drop-drop}
use borrow.Author.Tests.{ltb-false}
use Rattle.std.proofs.lemmas.List.{replicate_more, take-append-drop, length-replicate, take-replicate, drop-replicate}
use Rattle.lists.specs.Splice.{splice}
use Rattle.lists.proofs.Tests.{either, or_left, or_right}
use Rattle.rules.specs.Commands.{CommandArgs}
use Rattle.rules.specs.Results.{verdict_number}
use Rattle.rules.specs.declared.Refusal.{Refusal}
use Rattle.rules.specs.declared.Refusal.TheVariants.{BufferLength}
use Rattle.answers.specs.declared.Answered.{Answered}
use Rattle.answers.specs.declared.ItemAnswer.{ItemAnswer}
use Rattle.batches.specs.Batch.{BatchArgs, Single, items_of, unfit_by, unfit, Left, left_by, batch, numbers_of, lengths_of, Answers}
use Rattle.batches.proofs.Records.{gives}
use Rattle.batches.proofs.Turns.{fits}

-- a part written where it stands
own_part : (l : List ℕ) (at n : ℕ) → at + n ≤ length l → splice l at (take n (drop at l)) ≡ l
unfolding splice
own_part l at n h =
    let e : length (take n (drop at l)) ≡ n = length-take-le n (drop at l) (simp length-drop (omega arith)) in
    rw (e, ← drop-drop n at l, take-append-drop n (drop at l)) (take-append-drop at l)

abbrev pub refused : ItemAnswer
refused = record { number = 1; length = 0 }

pub refused_numbers : (k : ℕ) → numbers_of (replicate k refused) ≡ replicate k 1
refused_numbers zero = refl
refused_numbers (suc k) = ap (λ (l : List ℕ). 1 ∷ l) (refused_numbers k)

pub refused_lengths : (k : ℕ) → lengths_of (replicate k refused) ≡ replicate k 0
refused_lengths zero = refl
refused_lengths (suc k) = ap (λ (l : List ℕ). 0 ∷ l) (refused_lengths k)

module _ {S : Type 0} (call : S → CommandArgs → Single S) (s : S)
    (refuses : (c : CommandArgs) → call s c ≡ record { number = 1; length = 0; state = s; image = c.image; reply = c.reply }) (a : BatchArgs) where
  abbrev pub nothing_left : ℕ → Left S
  nothing_left k = record { state = s; image = a.image; replies = a.replies; answers = replicate k refused }

  left_as_it_was : (k : ℕ) → 32 * k ≤ length a.replies → left_by call a s k ≡ nothing_left k
  unfolding left_by
  left_as_it_was zero h = refl
  left_as_it_was (suc k) h =
      let e = left_as_it_was k (omega arith) in
      let own = own_part a.replies (32 * k) 32 (omega arith) in
      let more : replicate k refused ++ (refused ∷ []) ≡ replicate (suc k) refused = replicate_more k refused ∙ ap (λ (n : ℕ). replicate n refused) (add-one k) in
      rw (e, refuses _, own, more)

  pub batch_refused : (records : ℕ) → (batch call s a records).left ≡ nothing_left (cond (unfit_by (items_of a) (length a.lengths) records (length a.replies)) 0 (items_of a))
  unfolding batch unfit
  batch_refused records =
      either (unfit_by (items_of a) (length a.lengths) records (length a.replies))
      (λ e. rw e (left_as_it_was 0 (omega arith)))
      (λ e. rw e (left_as_it_was (items_of a) (fits a records e).bytes))

-- THE ANSWERS BY VALUE: lists of 64 ones and 64 zeros

in_two : (v k n : ℕ) → k ≤ n → {l : List ℕ} → l ≡ replicate k v → replicate n v ≡ l ++ replicate (n - k) v
in_two v k n h e = rw (e, ← drop-replicate k n v, ← take-replicate k n v h) (sym (take-append-drop k (replicate n v)))

module _ (starts lengths records replies : ℕ) {v : Result (Unit {0}) Refusal} (v_is : v ≡ cond (unfit_by starts lengths records replies) (Err BufferLength) (Ok tt))
    {number : ℕ} (number_is : number ≡ verdict_number v) where
  abbrev none_of : ℕ → Answered
  none_of n = record { number = number; numbers = replicate 64 1; lengths = replicate 64 0; filled = n }

  abbrev Refused : ℕ → Type 0
  Refused n = (number ≡ verdict_number (cond (unfit_by starts lengths records replies) (Err BufferLength) (Ok tt))) × Answers (none_of n) records (replicate (cond (unfit_by starts lengths records replies) 0 starts) refused)

  pub each_given : number ≡ 0 → Refused starts
  each_given z = either (unfit_by starts lengths records replies) (λ e. absurd (let q : number ≡ 3 = number_is ∙ rw (v_is, e) in omega arith)) given
    where
      given : unfit_by starts lengths records replies ≡ false → Refused starts
      given e =
          let few = ltb 64 starts in
          let unequal = not (eqb lengths starts) in
          let room = ltb records starts in
          let three = or_left (few || unequal || room) (ltb replies (32 * starts)) e in
          let most = ltb-false 64 starts (or_left few unequal (or_left (few || unequal) room three)) in
          let fit = ltb-false records starts (or_right (few || unequal) room three) in
          let long = length-replicate starts refused in
          let ones : replicate 64 1 ≡ numbers_of (replicate starts refused) ++ replicate (64 - starts) 1 = in_two 1 starts 64 most (refused_numbers starts) in
          let zeros : replicate 64 0 ≡ lengths_of (replicate starts refused) ++ replicate (64 - starts) 0 = in_two 0 starts 64 most (refused_lengths starts) in
          rw e (z, gives (none_of starts) (replicate starts refused) (replicate (64 - starts) 1) (replicate (64 - starts) 0) ones zeros (sym long) records (omega arith))
