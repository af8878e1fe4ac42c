-- The command call on a block: the decision is that on its state, and the words that change are those of the state after.
-- Assumes nothing.
use Rattle.std.specs.Prelude.{Result, Ok, Err}
use mathlib.Core.Path.{◌≡◌, sym, ap, subst⁻¹, ◌∙◌}
use mathlib.Core.Bool.{true, false, ◌&&◌}
use mathlib.Core.List.{List}
use Prim.Native.Nat.{ℕ, ◌<◌}
use native.Mathlib.Omega.{arith}
use Rattle.lists.proofs.Tests.{either}
use Rattle.rules.specs.Commands.{CommandArgs, Outcome, command_call}
use Rattle.rules.specs.Results.{answer_number, answer_length}
use Rattle.rules.specs.States.{good_state}
use Rattle.rules.specs.declared.Refusal.TheVariants.{BadState}
use Rattle.block.specs.Blocks.{word, is_block, state_of, block_over}
use Rattle.block.specs.Calls.{on_state, lg_command}
use Rattle.opening.specs.Opening.{opened_by, words_from, find, index}
use Rattle.decide.specs.Decisions.{decision, answer_of, image_after, reply_after, carried_out}
use Rattle.opening.specs.Opening as opening
use Rattle.decide.specs.declared.Decision.{Decision}
use Rattle.decide.specs.declared.Decision.TheVariants.{Dump, Cancel, Load, Reply, Tell}
use Rattle.decide.proofs.Commands.{decided}
use Rattle.state.specs.Counts.{block_changes}
use Rattle.command.specs.OnStore.{decision_in, after}
use Rattle.command.proofs.OnBlock.{Low, low, words_after}
use Rattle.rules.specs.declared.Refusal.{Refusal}
use Rattle.rules.specs.declared.Written.{Written}

module _ (b : List ℕ) (fits : (i : ℕ) → word b i < 4294967296) (args : CommandArgs) where
  abbrev Left : ℕ → List ℕ → List ℕ → List ℕ → ℕ → Type 0
  Left n words image left bytes =
      (n ≡ (lg_command b args).number) × (words ≡ (lg_command b args).state) × (image ≡ (lg_command b args).image)
      × (left ≡ (lg_command b args).buffer) × (bytes ≡ (lg_command b args).bytes)

  module _ {d : Result Decision Refusal} (e : d ≡ decision_in (is_block b && good_state (state_of b)) (state_of b) args) {words image left : List ℕ} {a : Result Written Refusal} (w : words ≡ after block_changes b d)
      (o : (image ≡ image_after d args.packet args.image) × (left ≡ reply_after d args.reply)) (s : a ≡ answer_of d) where
    on_block_lem : is_block b ≡ true → Left (answer_number a) words image left (answer_length a)
    unfolding on_state decision_in decision opening.good_words
    on_block_lem k =
        let f : d ≡ decision (state_of b) args = rw k at e in
        let l : Low d = subst⁻¹ Low f (low (state_of b) args) in
        let c : carried_out (state_of b) args d ≡ command_call (state_of b) args = ap (carried_out (state_of b) args) f ∙ sym (decided (state_of b) args) in
        rw k (
          ap answer_number s ∙ ap (λ (y : Outcome). answer_number y.answer) c,
          w ∙ words_after b (fits 0) k d l ∙ ap (λ (y : Outcome). block_over b y.state) c,
          o.0 ∙ ap (λ (y : Outcome). y.image) c,
          o.1 ∙ ap (λ (y : Outcome). y.buffer) c,
          ap answer_length s ∙ ap (λ (y : Outcome). answer_length y.answer) c,
        )

    off_block : is_block b ≡ false → Left (answer_number a) words image left (answer_length a)
    unfolding on_state decision_in
    off_block k =
        let f : d ≡ Err BadState = rw k at e in
        rw k (
          ap answer_number (s ∙ ap answer_of f),
          w ∙ ap (after block_changes b) f,
          o.0 ∙ ap (λ (y : Result Decision Refusal). image_after y args.packet args.image) f,
          o.1 ∙ ap (λ (y : Result Decision Refusal). reply_after y args.reply) f,
          ap answer_length (s ∙ ap answer_of f),
        )

    pub command_left : Left (answer_number a) words image left (answer_length a)
    command_left = either (is_block b) on_block_lem off_block

-- the length of a reply fits in a word of the caller's
short : (d : Result Decision Refusal) → answer_length (answer_of d) < 4294967296
short (Err r) = omega arith
short (Ok (Dump x)) = omega arith
short (Ok (Cancel x)) = omega arith
short (Ok (Load x)) = omega arith
short (Ok (Reply x)) = omega arith
short (Ok (Tell x)) = omega arith

pub reply_short : (b : List ℕ) (args : CommandArgs) → (lg_command b args).bytes < 4294967296
unfolding on_state
reply_short b args =
    either (is_block b)
    (λ k. rw (k, decided (state_of b) args) (short (decision (state_of b) args)))
    (λ k. rw k (omega arith))
