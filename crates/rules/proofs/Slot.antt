-- Demand 2: what a slot call answers and does.
-- Assumes nothing.
use mathlib.Core.Path.{◌≡◌, refl, ◌∙◌}
use mathlib.Core.Bool.{true, false}
use Prim.Native.Nat.{◌+◌, ◌*◌, ◌≤◌}
use native.Mathlib.Omega.{arith}
use lib.ListN.{length, length-set}
use borrow.Author.Tests.{eq-eqb, le-ltb}
use Rattle.lists.proofs.Tests.{either, contra}
use Rattle.lists.proofs.Splice.{splice_front, splice_rest}
use Rattle.rules.specs.Regions.{image_length}
use Rattle.rules.specs.States.{good_state}
use Rattle.rules.specs.Results.{lowest, lent_rows, answer_number}
use Rattle.rules.specs.Slots.{SlotArgs, any_busy, longest_packet, slot_rows, place_after, next_words, packet_bytes, after_packet, serve, slot_call}
use Rattle.rules.specs.Demand2.{SlotDone, SlotExact}
use Rattle.rules.specs.declared.Context.TheVariants.{Busy}
use Rattle.rules.specs.declared.State.{State}
use Rattle.rules.proofs.AfterPacket.{sent_more, sent_all}
use Rattle.rules.proofs.Fits.{packet_length_lem, next_most}
use Rattle.rules.proofs.Good.{context_same, context_other, good_out}
use Rattle.rules.proofs.Round.{any_busy_out, any_busy_in, Stops, round_stops}

module _ (s : State) (c : SlotArgs) (good : good_state s ≡ true) (image : length c.image ≡ image_length s.regions s.count) (buffer : 4092 ≤ length c.buffer) where
  -- a dump served
  serve_done : (st : Stops s.places s.last) → SlotDone s c (serve s c (place_after s.last st.k) (Busy st.dump))
  serve_done st =
      let p = place_after s.last st.k in
      let d = st.dump in
      let ws = next_words s c.image d in
      let bytes = packet_bytes s c.tick d ws in
      let l : length bytes ≡ 28 + 4 * length ws = packet_length_lem s c.tick d ws in
      let m = next_most s c.image d in
      let f = (good_out s good).places.four in
      record {
        k = st.k;
        near = st.near;
        dump = d;
        busy = st.busy;
        passed = st.passed;
        packet = splice_front c.buffer bytes;
        rest = splice_rest c.buffer bytes;
        reported = l;
        longest = omega arith;
        now = context_same s.places p (after_packet d) (omega arith);
        more = λ h. context_same s.places p (after_packet d) (omega arith) ∙ sent_more d h;
        freed = λ h. context_same s.places p (after_packet d) (omega arith) ∙ sent_all d h;
        others =
            record {
              in_four = omega arith;
              four = length-set s.places p (record { context = after_packet d }) ∙ f;
              others = λ j ne. context_other s.places p j (after_packet d) ne;
            };
        state = refl;
      }

  slot_nothing : any_busy s.places ≡ false → answer_number (slot_call s c).answer ≡ 16
  unfolding slot_call slot_rows lent_rows lowest
  slot_nothing h = rw (good, eq-eqb _ _ image, le-ltb (length c.buffer) longest_packet buffer, h)

  slot_served : (st : Stops s.places s.last) → any_busy s.places ≡ true
      → slot_call s c ≡ serve s c (place_after s.last st.k) (Busy st.dump)
  unfolding slot_call slot_rows lent_rows lowest
  slot_served st h =
      rw (good, eq-eqb _ _ image, le-ltb (length c.buffer) longest_packet buffer, h, st.place, st.busy)

pub slot : (s : State) (c : SlotArgs) → good_state s ≡ true → length c.image ≡ image_length s.regions s.count → 4092 ≤ length c.buffer
    → SlotExact s c
slot s c good image buffer =
    either (any_busy s.places)
    (λ h. let st = round_stops s.places s.last (good_out s good).last h in
    let e = slot_served s c good image buffer st h in
    record { when = (λ z. any_busy_out s.places h, λ b. rw e); done = λ z. rw e (serve_done s c good image buffer st) })
    (λ h. let n = slot_nothing s c good image buffer h in
    record {
      when = (λ z. absurd (omega arith), λ b. absurd (contra (any_busy_in s.places b.0 b.1 b.2) h));
      done = λ z. absurd (omega arith);
    })
