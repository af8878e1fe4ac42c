-- The command call on what keeps a state as a single call of a batch: its parts, and what it leaves where that is no good state.
-- Assumes nothing.
use Rattle.std.specs.Prelude.{Result, Ok, Err}
use mathlib.Core.Path.{◌≡◌, refl, ap, ◌∙◌}
use mathlib.Core.Bool.{Bool, false, cond}
use mathlib.Core.List.{List}
use Prim.Native.Nat.{ℕ}
use native.Mathlib.Omega.{arith}
use lib.Dec.{leb, lit<}
use lib.ListN.{length}
use borrow.Author.Tests.{leb-true}
use Rattle.lists.specs.Splice.{splice}
use Rattle.lists.proofs.Splice.{splice_length}
use Rattle.lists.proofs.Tests.{either}
use Rattle.rules.specs.Commands.{CommandArgs}
use Rattle.rules.specs.Results.{number_of, answer_length}
use Rattle.rules.specs.Values.{value_bytes}
use Rattle.rules.specs.declared.Refusal.{Refusal}
use Rattle.rules.specs.declared.State.{State}
use Rattle.rules.specs.declared.Written.{Written}
use Rattle.pool.specs.Answers.{figure_bytes}
use Rattle.state.specs.Changes.{Changes}
use Rattle.decide.specs.Decisions.{answer_of, image_after, reply_after}
use Rattle.decide.specs.declared.Decision.{Decision}
use Rattle.decide.specs.declared.Decision.TheVariants.{Dump, Cancel, Load, Reply, Tell}
use Rattle.command.specs.OnStore.{decision_in, after}
use Rattle.batches.proofs.Items.{Within}
use Rattle.batches.proofs.Kept.{refusal_small}
use Rattle.batch.specs.OnStore.{single_by, single_in}

-- a reply is written only where there is room for it
put_long : (n : ℕ) (reply v : List ℕ) → length v ≡ n → length (cond (leb n (length reply)) (splice reply 0 v) reply) ≡ length reply
put_long n reply v e =
    either (leb n (length reply))
    (λ h. let l = leb-true n (length reply) h in rw h (splice_length reply 0 v (omega arith)))
    (λ h. rw h)

module _ {S : Type 0} (good : S → Bool) (state : S → State) (changes : Changes S) (s : S) (c : CommandArgs) where
  within_by : (d : Result Decision Refusal) → Within c (single_by good state changes s c d)
  unfolding value_bytes figure_bytes
  within_by (Err r) = record { reply_long = refl; number_low = refusal_small r; length_low = lit< tt }
  within_by (Ok (Dump x)) = record { reply_long = refl; number_low = lit< tt; length_low = lit< tt }
  within_by (Ok (Cancel x)) = record { reply_long = refl; number_low = lit< tt; length_low = lit< tt }
  within_by (Ok (Load x)) = record { reply_long = refl; number_low = lit< tt; length_low = lit< tt }
  within_by (Ok (Reply x)) = record { reply_long = put_long 32 c.reply _ refl; number_low = lit< tt; length_low = lit< tt }
  within_by (Ok (Tell x)) = record { reply_long = put_long 12 c.reply _ refl; number_low = lit< tt; length_low = lit< tt }

  pub within : Within c (single_in good state changes s c)
  unfolding single_in
  within = within_by (decision_in (good s) (state s) c)

  -- from what the call says, and its answer's number and length
  pub called : {a : Result Written Refusal} {left : S} {image part : List ℕ} {number size : ℕ}
      → (a ≡ answer_of (decision_in (good s) (state s) c))
      × (left ≡ after changes s (decision_in (good s) (state s) c))
      × (image ≡ image_after (decision_in (good s) (state s) c) c.packet c.image)
      × (part ≡ reply_after (decision_in (good s) (state s) c) c.reply)
      → number ≡ number_of a → size ≡ answer_length a
      → (left ≡ (single_in good state changes s c).state)
      × (image ≡ (single_in good state changes s c).image)
      × (part ≡ (single_in good state changes s c).reply)
      × (number ≡ (single_in good state changes s c).number)
      × (size ≡ (single_in good state changes s c).length)
  unfolding single_in
  called said n l = (said.1, said.2, said.3, n ∙ ap number_of said.0, l ∙ ap answer_length said.0)

  -- what is no good state stays as it was
  pub not_good : good s ≡ false → single_in good state changes s c ≡ record { number = 1; length = 0; state = s; image = c.image; reply = c.reply }
  unfolding single_in decision_in
  not_good g = rw g
