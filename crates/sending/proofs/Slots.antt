-- The slot call is the decision, carried out.
-- Assumes nothing.
use Rattle.std.specs.Prelude.{Result, Ok, Err}
use mathlib.Core.Path.{◌≡◌, refl, sym, ap, ◌∙◌}
use mathlib.Core.Bool.{true, not, cond}
use mathlib.Core.List.{List, [], ◌∷◌}
use Prim.Native.Nat.{ℕ, zero, suc, ◌+◌, ◌*◌, ◌-◌, ◌%◌, min, ◌≤◌, ◌<◌}
use native.Mathlib.Omega.{arith}
use lib.ListN.{length, take, drop, length-take, length-drop}
use borrow.Author.Tests.{le-leb, eq-eqb}
use Rattle.lists.specs.Below.{sum_below}
use Rattle.lists.proofs.Tests.{either}
use Rattle.rules.specs.Regions.{start_of, range_at, table_rules, any_right, dump_right, in_one_region, words_below, image_length, image_index, words_of}
use Rattle.rules.specs.States.{context_at, piece_words, good_state}
use Rattle.rules.specs.Results.{row, lowest, lent_rows}
use Rattle.rules.specs.Commands.{returned}
use Rattle.rules.specs.Slots.{SlotArgs, any_busy, longest_packet, slot_rows, next_place, next_words, packet_bytes, serve, conclude_slot, slot_call}
use Rattle.rules.proofs.Fits.{packet_length_lem}
use Rattle.rules.proofs.Good.{DumpIs, dump_out}
use Rattle.rules.proofs.Round.{any_busy_in, next_in_four}
use Rattle.rules.proofs.Table.{one_out, one_any, holds_any, image_fits, table_count, table_region, range_low}
use Rattle.rules.specs.declared.ActiveDump.{ActiveDump}
use Rattle.rules.specs.declared.Context.{Context}
use Rattle.rules.specs.declared.Context.TheVariants.{Idle, Busy}
use Rattle.rules.specs.declared.DumpPacket.{DumpPacket}
use Rattle.rules.specs.declared.Refusal.{Refusal}
use Rattle.rules.specs.declared.Refusal.TheVariants.{NothingToSend}
use Rattle.rules.specs.declared.Region.{Region}
use Rattle.rules.specs.declared.State.{State}
use Rattle.bulk.specs.DumpBytes.{dump_packet_bytes, packet_fits}
use Rattle.bulk.proofs.Packet.{slot_packet}
use Rattle.places.specs.Turns.{turn_of, next_turn}
use Rattle.regions.proofs.Answers.{found_whole, index_whole}
use Rattle.opening.specs.Opening.{lent_by, good_words, find, index}
use Rattle.sending.specs.Sendings.{decide_send, by_turn, sending_as, sending, send_answer, buffer_after, state_sent, sent_out, PlaceFits, SlotDecided}
use Rattle.sending.proofs.Parts.{part_of_part}
use Rattle.opening.proofs.Rows.{or_else, lowest_join}
use Rattle.opening.proofs.Lent.{LentIs, lent_lowest, lent_out, lent_good}
use Rattle.rules.specs.declared.Written.{Written}
use Rattle.regions.specs.declared.Spot.{Spot}
use Rattle.regions.specs.declared.Miss.{Miss}
use Rattle.sending.specs.declared.Piece.{Piece}
use Rattle.regions.specs.declared.Miss.TheVariants.{StartsOutside, EndsOutside}

-- THE IMAGE OF A TABLE BY THE RULES

sum_most : (f : ℕ → ℕ) (n : ℕ) → ((i : ℕ) → i < n → f i ≤ 1048576) → sum_below f n ≤ 1048576 * n
sum_most f zero h = omega arith
sum_most f (suc n) h = let l = sum_most f n (λ i k. h i (omega arith)) in let m = h n (omega arith) in omega arith

image_most : (rs : List Region) (n : ℕ) → table_rules rs n ≡ true → image_length rs n ≤ 16777216
unfolding words_below
image_most rs n table =
    let l = sum_most (λ i. (range_at rs i).words) n (λ i k. (table_region rs n table i k).most) in
    let c = table_count rs n table in
    omega arith

module _ (s : State) (c : SlotArgs) (lent : LentIs s c.image longest_packet c.buffer) where
  -- ONE PACKET

  module _ (d : ActiveDump) (is : DumpIs s.regions s.count d) where
    -- where its words begin in the image, how many are sent, and these
    abbrev first : ℕ
    first = (image_index s.regions s.count d.range).0

    abbrev size : ℕ
    size = min 1016 (d.range.words - d.sent)

    abbrev part : List ℕ
    part = take size (drop (first + d.sent) c.image)

    inside : in_one_region any_right s.regions s.count d.range ≡ true
    inside = one_any dump_right _ _ d.range is.region

    whole : first + d.range.words ≤ length c.image
    whole = omega (arith, image_fits s.regions s.count d.range inside, lent.whole)

    part_fits : first + d.sent + size ≤ length c.image
    part_fits = omega (arith, whole, is.more)

    part_length : length part ≡ size
    part_length = simp (length-take, length-drop) (omega (arith, part_fits))

    part_words : next_words s c.image d ≡ part
    unfolding next_words words_of piece_words
    part_words = part_of_part 1016 d.sent d.range.words first c.image

    -- no number is cut: the range ends by 2^32, and the image has fewer words than an index can tell
    here_fits : (start_of d.range + 4 * d.sent) % 4294967296 ≡ start_of d.range + 4 * d.sent
    here_fits =
        let one = one_out dump_right _ _ d.range is.region in
        let low = range_low _ _ lent.start.table d.range one.0 (holds_any dump_right _ _ d.range one.0 one.1) in
        omega (arith, is.more)

    from_fits : min (first + d.sent) 18446744073709551615 ≡ first + d.sent
    from_fits = omega (arith, image_most _ _ lent.start.table, lent.whole, part_fits)

    -- the fields of a packet with n words
    abbrev fields : ℕ → DumpPacket
    fields n =
        record {
          header = record { count = s.packets; unit = s.unit; transaction = d.transaction };
          tick = c.tick;
          range = d.range;
          here = record { 0 = start_of d.range + 4 * d.sent };
          words = n;
        }

    fields_fit : packet_fits (fields size) (length part) (length c.buffer) ≡ true
    fields_fit =
        rw (
          part_length,
          le-leb s.packets 16383 lent.good.packets,
          le-leb s.unit 15 lent.start.low,
          le-leb d.transaction 4095 is.number,
          le-leb size 1016 (omega arith),
          eq-eqb size size refl,
          le-leb (28 + 4 * size) (length c.buffer) (omega (arith, lent.room)),
        )

    same_packet : packet_bytes s c.tick d (next_words s c.image d) ≡ dump_packet_bytes (fields size) part
    same_packet =
        ap (packet_bytes s c.tick d) part_words
        ∙ slot_packet s c.tick d part
        ∙ ap (λ (n : ℕ). dump_packet_bytes (fields n) part) part_length

    same_length : length (packet_bytes s c.tick d (next_words s c.image d)) ≡ 28 + 4 * size
    same_length = omega (arith, packet_length_lem s c.tick d (next_words s c.image d), ap length part_words, part_length)

    serve_dump : (p : ℕ) → serve s c p (Busy d)
        ≡ sent_out s c (decide_send (record { place = p; dump = d }) (find s d.range) (index s d.range) s.packets s.unit c.tick)
    serve_dump p =
        let some : 1 ≤ d.range.words = omega (arith, is.more) in
        rw (index_whole s.regions d.range s.count lent.start.table some inside, found_whole _ _ d.range lent.start.table some, inside, here_fits, from_fits, le-leb _ _ part_fits, fields_fit, same_length, same_packet)

  -- THE PLACE WHOSE TURN IT IS

  by_turn_lem : (a : Context) → context_at s.places (next_place s.places s.last) ≡ a
      → conclude_slot s c (lowest (row NothingToSend (not (any_busy s.places)) ∷ []))
      ≡ sent_out s c (by_turn s c.tick (turn_of (next_place s.places s.last) a))
  unfolding lowest
  by_turn_lem Idle e = either (any_busy s.places) (λ b. rw (b, e)) (λ b. rw b)
  by_turn_lem (Busy d) e =
      let p : ℕ = next_place s.places s.last in
      let low = next_in_four s.places s.last in
      let busy = any_busy_in s.places p low (λ i. let z : ◌≡◌ {A = ℕ} 0 1 = cc in omega arith) in
      rw (busy, e) (serve_dump d (dump_out _ _ d (rw e at (lent.good.places.each p low))) p)

-- 1 TO 3, AND THE CALL

by_lent : (s : State) (c : SlotArgs) (v : Result (Unit {0}) Refusal) → lowest (lent_rows s c.image longest_packet c.buffer) ≡ v
    → conclude_slot s c (or_else v (lowest (row NothingToSend (not (any_busy s.places)) ∷ []))) ≡ sent_out s c (sending_as s c.tick v)
unfolding next_turn
by_lent s c (Err r) e = refl
by_lent s c (Ok tt) e =
    by_turn_lem s c (lent_out s c.image longest_packet c.buffer e) (context_at s.places (next_place s.places s.last)) refl

pub slot_decided : SlotDecided
unfolding slot_call slot_rows sending
slot_decided s c =
    rw (
      lowest_join (lent_rows s c.image longest_packet c.buffer) (row NothingToSend (not (any_busy s.places)) ∷ []),
      ← lent_lowest s c.image longest_packet c.buffer,
    )
    (by_lent s c (lowest (lent_rows s c.image longest_packet c.buffer)) refl)

-- A STORE THAT SUPPLIES THE FACTS, AND CARRIES THE DECISION OUT

-- its steps give the decision
module _ (s : State) (c : SlotArgs) {words image buffer : ℕ} (ew : words ≡ cond (good_state s) (image_length s.regions s.count) 0)
    (ei : length c.image ≡ image) (eb : length c.buffer ≡ buffer) {v : (Result (Unit {0}) Refusal)} (ev : v ≡ lent_by words image longest_packet buffer) where
  lent_as : lent_by (good_words s) (length c.image) longest_packet (length c.buffer) ≡ v
  unfolding good_words
  lent_as = rw (ei, eb, ← ew) (sym ev)

  pub step_refused : {r : Refusal} → v ≡ Err r → Err r ≡ sending s c
  unfolding sending
  step_refused h = rw (lent_as, h)

  pub step_turn : {d : (Result Piece Refusal)} → v ≡ (Ok tt) → (good_state s ≡ true → d ≡ by_turn s c.tick (next_turn s.places s.last)) → d ≡ sending s c
  unfolding sending
  step_turn h k = rw (lent_as, h) (k (lent_good s (length c.image) longest_packet (length c.buffer) (lent_as ∙ h)))

-- the place that is served is one of the four
by_turn_fits : (s : State) (tick p : ℕ) → p < 4 → (a : Context) → PlaceFits (by_turn s tick (turn_of p a))
by_turn_fits s tick p l Idle = tt
by_turn_fits s tick p l (Busy d) = found (find s d.range)
  where
    found : (f : Result Spot Miss) → PlaceFits (decide_send (record { place = p; dump = d }) f (index s d.range) s.packets s.unit tick)
    found (Err StartsOutside) = tt
    found (Err EndsOutside) = tt
    found (Ok spot) = l

sending_fits : (s : State) (tick : ℕ) (v : Result (Unit {0}) Refusal) → PlaceFits (sending_as s tick v)
unfolding next_turn
sending_fits s tick (Err r) = tt
sending_fits s tick (Ok tt) =
    by_turn_fits s tick (next_place s.places s.last) (next_in_four s.places s.last) (context_at s.places (next_place s.places s.last))

-- and their effect is the call's
module _ (s : State) (c : SlotArgs) {d : (Result Piece Refusal)} (e : d ≡ sending s c) where
  place_fits : PlaceFits d
  unfolding sending
  place_fits = rw e (sending_fits s c.tick (lent_by (good_words s) (length c.image) longest_packet (length c.buffer)))

  pub slot_done : {answer : (Result Written Refusal)} {state : State} {buffer : List ℕ} → (answer ≡ send_answer d) × (buffer ≡ buffer_after d c.image c.buffer)
      → (PlaceFits d → state ≡ state_sent s d) → (record { answer = answer; state = state } ≡ returned (slot_call s c)) × (buffer ≡ (slot_call s c).buffer)
  slot_done (ea, eb) es = rw (slot_decided s c, ← e, ea, es place_fits, eb) (refl, refl)
