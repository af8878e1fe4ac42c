-- A1's promises for the command call on a State, from demand 1.
-- Assumes nothing.
use Rattle.std.specs.Prelude.{Err}
use mathlib.Core.Path.{◌≡◌, refl, ap, subst, ◌∙◌}
use mathlib.Core.Bool.{false}
use mathlib.Core.List.{List, [], ◌∷◌}
use Prim.Native.Nat.{ℕ, zero, suc, ◌+◌, ◌-◌, ◌≤◌}
use native.Mathlib.Omega.{arith}
use lib.ListN.{length, get_or, drop, length-append, length-drop, get_or-append}
use lib.Seq.{get_or-append-add, get_or-drop}
use Rattle.rules.specs.Commands.{CommandArgs, command_rows, command_call}
use Rattle.rules.specs.Results.{lowest, lent_rows}
use Rattle.rules.specs.States.{good_state}
use Rattle.rules.specs.declared.Refusal.TheVariants.{BadState}
use Rattle.rules.specs.declared.State.{State}
use Rattle.rules.proofs.Refusals.{demand_1}
use Rattle.answers.specs.declared.ItemAnswer.{ItemAnswer}
use Rattle.batches.specs.Batch.{on_state, filled, numbers_of, lengths_of}
use Rattle.batches.specs.InOrder.{InOrder, FilledIs, no_answer, LentLists, Promises}
use Rattle.batches.proofs.InPlain.{in_plain}
use Rattle.batches.proofs.InOrder.{in_order_lem, all_refused}
use Rattle.batches.proofs.Unwritten.{unwritten, beyond}

-- the command call leaves its reply buffer as long as it was
pub reply_kept : (s : State) (c : CommandArgs) → length (on_state s c).reply ≡ length c.reply
reply_kept s c = (demand_1.command s c).lent.1

pub command_in_order : InOrder on_state
command_in_order = in_order_lem on_state reply_kept

module _ (s : State) (bad : good_state s ≡ false) where
  bad_call : (c : CommandArgs) → command_call s c ≡ record { answer = Err BadState; state = s; image = c.image; buffer = c.reply }
  unfolding command_call command_rows lent_rows lowest
  bad_call c = rw bad

  bad_single : (c : CommandArgs) → on_state s c ≡ record { number = 1; length = 0; state = s; image = c.image; reply = c.reply }
  bad_single c = rw (bad_call c)

-- THE LENT LISTS

module _ {A : Type 0} (lent each : List A) (fits : length each ≤ length lent) where
  filled_is : FilledIs lent each (filled lent each)
  filled_is =
      record {
        as_long = simp (length-append, length-drop) (omega arith);
        written = λ k d h. get_or-append each (drop (length each) lent) d k h;
        stays = λ k d h.
            let j : ℕ = k - length each in
            let e : length each + j ≡ k = omega arith in
            subst (λ (x : ℕ). get_or (filled lent each) x d ≡ get_or lent x d) e (get_or-append-add each (drop (length each) lent) j d ∙ get_or-drop (length each) lent j d);
      }

numbers_are : (rs : List ItemAnswer) (k : ℕ) → (length (numbers_of rs) ≡ length rs) × (get_or (numbers_of rs) k 0 ≡ (get_or rs k no_answer).number)
numbers_are [] k = (refl, refl)
numbers_are (r ∷ rs) zero = (ap suc (numbers_are rs 0).0, refl)
numbers_are (r ∷ rs) (suc k) = (ap suc (numbers_are rs k).0, (numbers_are rs k).1)

lengths_are : (rs : List ItemAnswer) (k : ℕ) → (length (lengths_of rs) ≡ length rs) × (get_or (lengths_of rs) k 0 ≡ (get_or rs k no_answer).length)
lengths_are [] k = (refl, refl)
lengths_are (r ∷ rs) zero = (ap suc (lengths_are rs 0).0, refl)
lengths_are (r ∷ rs) (suc k) = (ap suc (lengths_are rs k).0, (lengths_are rs k).1)

lists : LentLists
lists = record { records = filled_is; fills = filled_is; numbers = numbers_are; lengths = lengths_are }

pub promises : Promises
promises =
    record {
      in_order_lem = command_in_order;
      in_plain = in_plain;
      lists = lists;
      one_command = command_in_order.one;
      left_as = λ o s image replies h. h;
      unwritten = unwritten command_in_order;
      beyond = beyond command_in_order;
      not_good = λ s a records bad. all_refused on_state s reply_kept (bad_single s bad) a records;
    }
