-- The slot call on a block: the decision is that on its state, and the words that change are those of the state after.
-- Assumes nothing.
use Rattle.std.specs.Prelude.{Result, Ok, Err}
use mathlib.Core.Path.{◌≡◌, sym, ap, subst⁻¹, ◌∙◌}
use mathlib.Core.Bool.{true, false, ◌&&◌}
use mathlib.Core.List.{List}
use Prim.Native.Nat.{ℕ, ◌+◌, ◌*◌, ◌%◌, ◌<◌}
use native.Mathlib.Omega.{arith}
use lib.ListN.{length, set}
use lib.Seq.{get_or-set_other}
use Rattle.lists.specs.Splice.{splice}
use Rattle.lists.proofs.Splice.{splice_above}
use Rattle.lists.proofs.Tests.{either}
use Rattle.rules.specs.Commands.{Outcome}
use Rattle.rules.specs.Results.{answer_number, answer_length}
use Rattle.rules.specs.Slots.{SlotArgs, slot_call, next_place}
use Rattle.rules.specs.States.{context_at, good_state}
use Rattle.rules.specs.declared.Context.{Context}
use Rattle.rules.specs.declared.Context.TheVariants.{Idle, Busy}
use Rattle.rules.specs.declared.Refusal.TheVariants.{BadState}
use Rattle.rules.specs.declared.State.{State}
use Rattle.rules.specs.declared.WordIndex.{WordIndex}
use Rattle.rules.proofs.Round.{next_in_four}
use Rattle.places.specs.Turns.{turn_of, next_turn}
use Rattle.places.specs.declared.Seat.{Seat}
use Rattle.block.specs.Blocks.{word, context_words, is_block, state_of, block_over}
use Rattle.block.specs.Calls.{on_state, lg_slot}
use Rattle.block.proofs.Bounds.{block_out}
use Rattle.block.proofs.Changes.{laws}
use Rattle.block.proofs.Forth.{block_forth}
use Rattle.block.proofs.Lengths.{context_words_length}
use Rattle.opening.specs.Opening.{lent_by, find, index}
use Rattle.opening.specs.Opening as opening
use Rattle.sending.specs.Sendings.{decide_send, by_turn, sending_as, sending, send_answer, buffer_after, state_sent, sent_out, PlaceFits}
use Rattle.sending.proofs.Slots.{slot_decided}
use Rattle.lent_places.proofs.Answers.{placed_is}
use Rattle.state.specs.Counts.{block_changes}
use Rattle.slot.specs.OnStore.{sending_in, sent}
use Rattle.rules.specs.declared.Refusal.{Refusal}
use Rattle.rules.specs.declared.Written.{Written}
use Rattle.regions.specs.declared.Spot.{Spot}
use Rattle.regions.specs.declared.Miss.{Miss}
use Rattle.sending.specs.declared.Piece.{Piece}
use Rattle.regions.specs.declared.Miss.TheVariants.{StartsOutside, EndsOutside}

-- WHAT IS LEFT

-- a place that is served is one of four, and a packet's length fits in a word
abbrev pub Low : Result Piece Refusal → Type 0
Low (Err r) = Unit {0}
Low (Ok x) = (x.place < 4) × (28 + 4 * x.packet.words < 4294967296)

module _ (s : State) (tick : ℕ) where
  low_found : (x : Seat) (f : Result Spot Miss) (at : WordIndex) → x.place < 4 → Low (decide_send x f at s.packets s.unit tick)
  low_found x (Err StartsOutside) at l = tt
  low_found x (Err EndsOutside) at l = tt
  low_found x (Ok spot) at l = (l, omega arith)

  low_turn : (p : ℕ) (a : Context) → p < 4 → Low (by_turn s tick (turn_of p a))
  low_turn p Idle l = tt
  low_turn p (Busy d) l = low_found (record { place = p; dump = d }) (find s d.range) (index s d.range) l

  low_lent : (v : Result (Unit {0}) Refusal) → Low (sending_as s tick v)
  unfolding next_turn
  low_lent (Err r) = tt
  low_lent (Ok tt) = low_turn (next_place s.places s.last) (context_at s.places (next_place s.places s.last)) (next_in_four s.places s.last)

low : (s : State) (c : SlotArgs) → Low (sending s c)
unfolding sending
low s c = low_lent s c.tick (lent_by (opening.good_words s) (length c.image) 4092 (length c.buffer))

place_fits : (d : Result Piece Refusal) → Low d → PlaceFits d
place_fits (Err r) l = tt
place_fits (Ok x) l = l.0

module _ (b : List ℕ) (fits : (i : ℕ) → word b i < 4294967296) (block : is_block b ≡ true) where
  -- the words after a decision are those of the state after it, and of entries not in use those before
  sent_is_over : (d : Result Piece Refusal) → Low d → sent block_changes b d ≡ block_over b (state_sent (state_of b) d)
  unfolding state_of
  sent_is_over (Err r) l = sym (block_forth b fits block)
  sent_is_over (Ok x) l =
      let p = x.place in
      let n : length b ≡ 80 = (block_out b block).words in
      let e = placed_is b p x.after n l.0 in
      let k = context_words_length x.after in
      let q : word (set (splice b (54 + 5 * p) (context_words x.after)) 74 p) 76 ≡ word b 76 =
      get_or-set_other (splice b (54 + 5 * p) (context_words x.after)) 74 76 p 0 (λ h. absurd (omega arith))
      ∙ splice_above b (54 + 5 * p) (context_words x.after) (omega (arith, l.0)) 76 (omega (arith, l.0)) in
      rw (e, q) (sym ((laws.calls b fits block).slot p x.after p ((word b 76 + 1) % 16384) l.0))

module _ (b : List ℕ) (fits : (i : ℕ) → word b i < 4294967296) (tick : ℕ) (image buffer : List ℕ) where
  abbrev args : SlotArgs
  args = record { tick = tick; image = image; buffer = buffer }

  abbrev Left : ℕ → List ℕ → List ℕ → ℕ → Type 0
  Left n words left bytes =
      (n ≡ (lg_slot b tick image buffer).number) × (words ≡ (lg_slot b tick image buffer).state) × (left ≡ (lg_slot b tick image buffer).buffer)
      × (bytes ≡ (lg_slot b tick image buffer).bytes)

  module _ {d : (Result Piece Refusal)} (e : d ≡ sending_in (is_block b && good_state (state_of b)) (state_of b) args) {words left : List ℕ} {a : Result Written Refusal} (w : PlaceFits d → words ≡ sent block_changes b d)
      (s : (a ≡ send_answer d) × (left ≡ buffer_after d image buffer)) where
    on_block_lem : is_block b ≡ true → Left (answer_number a) words left (answer_length a)
    unfolding on_state sending_in sending opening.good_words
    on_block_lem k =
        let f : d ≡ sending (state_of b) args = rw k at e in
        let l : Low d = subst⁻¹ Low f (low (state_of b) args) in
        let o : sent_out (state_of b) args d ≡ slot_call (state_of b) args = ap (sent_out (state_of b) args) f ∙ sym (slot_decided (state_of b) args) in
        rw k (
          ap answer_number s.0 ∙ ap (λ (y : Outcome). answer_number y.answer) o,
          w (place_fits d l) ∙ sent_is_over b fits k d l ∙ ap (λ (y : Outcome). block_over b y.state) o,
          s.1 ∙ ap (λ (y : Outcome). y.buffer) o,
          ap answer_length s.0 ∙ ap (λ (y : Outcome). answer_length y.answer) o,
        )

    off_block : is_block b ≡ false → Left (answer_number a) words left (answer_length a)
    unfolding on_state sending_in
    off_block k =
        let f : d ≡ Err BadState = rw k at e in
        rw k (
          ap answer_number (s.0 ∙ ap send_answer f),
          w (subst⁻¹ PlaceFits f tt) ∙ ap (sent block_changes b) f,
          s.1 ∙ ap (λ (y : Result Piece Refusal). buffer_after y image buffer) f,
          ap answer_length (s.0 ∙ ap send_answer f),
        )

    pub slot_left : Left (answer_number a) words left (answer_length a)
    slot_left = either (is_block b) on_block_lem off_block

-- the length of a packet fits in a word of the caller's
short : (d : Result Piece Refusal) → Low d → answer_length (send_answer d) < 4294967296
short (Err r) l = omega arith
short (Ok x) l = l.1

pub packet_short : (b : List ℕ) (tick : ℕ) (image buffer : List ℕ) → (lg_slot b tick image buffer).bytes < 4294967296
unfolding on_state
packet_short b tick image buffer =
    let c : SlotArgs = record { tick = tick; image = image; buffer = buffer } in
    either (is_block b)
    (λ k. rw (k, slot_decided (state_of b) c) (short (sending (state_of b) c) (low (state_of b) c)))
    (λ k. rw k (omega arith))
