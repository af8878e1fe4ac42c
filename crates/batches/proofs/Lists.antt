-- Demand 3 where a batch may stand among the calls: the events are those of a list of single calls.
-- Assumes nothing.
use mathlib.Core.Path.{◌≡◌, refl, sym, ap, subst, ◌∙◌}
use mathlib.Core.Bool.{true, false}
use mathlib.Core.List.{List, [], ◌∷◌, ◌++◌}
use Prim.Native.Nat.{ℕ, ◌+◌, ◌-◌, ◌≤◌}
use native.Mathlib.Omega.{arith}
use lib.ListN.{length, take, drop, length-take, length-drop, get_or-eq_default}
use lib.Seq.{get_or-take, get_or-drop}
use Rattle.lists.proofs.Tests.{either, by_lt}
use Rattle.wire.specs.Bytes.{AreBytes}
use Rattle.rules.specs.Commands.{CommandArgs, command_call}
use Rattle.rules.specs.Demand3.{Call, command, slot, LendsBytes, Event, step, events, NoneWaits}
use Rattle.rules.specs.States.{good_state, start_up}
use Rattle.rules.specs.declared.State.{State}
use Rattle.rules.proofs.ExactEffect.{demand_2}
use Rattle.rules.proofs.NoDumpWaits.{demand_3}
use Rattle.batches.specs.Batch.{BatchArgs, lends, on_state, bytes_from, unfit, Batch, batch}
use Rattle.batches.specs.InOrder.{items_along, made, last_state, Fits}
use Rattle.batches.specs.Lists.{Step, one, many, StepBytes, StepsLendBytes, returned_by, item_events, events_of, events_along, Demand3WithBatches, StaysGood, ItemsAreCalls}
use Rattle.batches.proofs.InPlain.{packet_inside, packet_outside, fits_out, fits_in}
use Rattle.batches.proofs.Promises.{command_in_order}

-- an item's packet is bytes
pub packet_bytes : (bytes : List ℕ) (start n : ℕ) → AreBytes bytes → AreBytes (bytes_from bytes start n)
packet_bytes bytes start n b i =
    by_lt (length bytes) (start + n)
    (λ h. rw (packet_outside bytes start n h) (omega arith))
    (λ h.
    rw (packet_inside bytes start n h)
    (by_lt i n
    (λ k. rw (get_or-take n (drop start bytes) i 0 k, get_or-drop) (b (start + i)))
    (λ k.
    let past : length (take n (drop start bytes)) ≤ i = simp length-take (omega arith) in
    rw (get_or-eq_default (take n (drop start bytes)) 0 past) (omega arith))))

-- events that a list of single calls has from a state
pub record Told (s : State) (es : List Event) : Type 0 where
  pub calls : List Call
  pub bytes : LendsBytes calls
  pub are : es ≡ events s calls

abbrev event : State → Call → Event
event s c = record { given = s; call = c; out = step s c }

with_call : (s : State) (c : Call) (es : List Event) → ((cs : List Call) → LendsBytes cs → LendsBytes (c ∷ cs))
    → Told (step s c).state es → Told s (event s c ∷ es)
with_call s c es b t =
    record { calls = c ∷ t.calls; bytes = b t.calls t.bytes; are = ap (λ (l : List Event). event s c ∷ l) t.are }

-- the items of a batch, and what follows them
with_items : (s : State) (symbols image bytes ss ns replies : List ℕ) (es : List Event) → AreBytes bytes
    → Told (last_state s (made on_state symbols s image (items_along bytes ss ns replies))) es
    → Told s (item_events (made on_state symbols s image (items_along bytes ss ns replies)) ++ es)
with_items s symbols image bytes [] ns replies es b t = t
with_items s symbols image bytes (x ∷ ss) [] replies es b t = t
with_items s symbols image bytes (x ∷ ss) (n ∷ ns) replies es b t =
    let c : CommandArgs = record { packet = bytes_from bytes x n; symbols = symbols; image = image; reply = take 32 replies } in
    with_call s (command c) _ (λ cs l. (packet_bytes bytes x n b, l))
    (with_items (step s (command c)).state symbols (step s (command c)).image bytes ss ns (drop 32 replies) es b t)

with_step : (s : State) (x : Step) (es : List Event) → StepBytes x → Told (returned_by s x) es → Told s (events_of s x ++ es)
with_step s (one (command c)) es b t = with_call s (command c) es (λ cs l. (b, l)) t
with_step s (one (slot c)) es b t = with_call s (slot c) es (λ cs l. l) t
with_step s (many a records) es b t =
    let left : (o : Batch State) → batch on_state s a records ≡ o → Told o.left.state es = λ o e. subst (λ (p : Batch State). Told p.left.state es) e t in
    either (unfit a records)
    (λ e. rw e (left _ (command_in_order.refused s a records e)))
    (λ e. rw e (with_items s a.symbols a.image a.bytes a.starts a.lengths a.replies es b (left _ (command_in_order.equals s a records e))))

pub along : (s : State) (xs : List Step) → StepsLendBytes xs → Told s (events_along s xs)
along s [] bs = record { calls = []; bytes = tt; are = refl }
along s (x ∷ xs) bs = with_step s x (events_along (returned_by s x) xs) bs.0 (along (returned_by s x) xs bs.1)

pub demand_3_with_batches : Demand3WithBatches
demand_3_with_batches rs n pools unit h xs bs =
    let t = along (start_up rs n pools unit).state xs bs in
    subst (NoneWaits rs n) (sym t.are) (demand_3 demand_2 rs n pools unit h t.calls t.bytes)

-- A GOOD STATE STAYS GOOD

good_along : (s : State) (symbols image bytes ss ns replies : List ℕ) → AreBytes bytes → good_state s ≡ true
    → good_state (last_state s (made on_state symbols s image (items_along bytes ss ns replies))) ≡ true
good_along s symbols image bytes [] ns replies b g = g
good_along s symbols image bytes (x ∷ ss) [] replies b g = g
good_along s symbols image bytes (x ∷ ss) (n ∷ ns) replies b g =
    let c : CommandArgs = record { packet = bytes_from bytes x n; symbols = symbols; image = image; reply = take 32 replies } in
    good_along (command_call s c).state symbols (command_call s c).image bytes ss ns (drop 32 replies) b (demand_2.command_good s c (packet_bytes bytes x n b) g)

pub stays_good : StaysGood
stays_good s a records b g =
    let good : Batch State → Type 0 = λ o. good_state o.left.state ≡ true in
    either (unfit a records)
    (λ e. subst good (sym (command_in_order.refused s a records e)) g)
    (λ e.
    subst good (sym (command_in_order.equals s a records e))
    (good_along s a.symbols a.image a.bytes a.starts a.lengths a.replies b g))

-- WHAT FIXES THE EVENTS

no_events : (s : State) (a : BatchArgs) (records : ℕ) (xs : List Step) → unfit a records ≡ true
    → events_along s (many a records ∷ xs) ≡ events_along s xs
no_events s a records xs e =
    rw e (ap (λ (o : Batch State). events_along o.left.state xs) (command_in_order.refused s a records e))

module _ (s : State) (bytes symbols image replies : List ℕ) (records : ℕ) (xs : List Step) where
  abbrev empty : BatchArgs
  empty = lends bytes [] [] symbols image replies

  no_item : events_along s (many empty records ∷ xs) ≡ events_along s xs
  no_item =
      rw (fits_in empty records (record { few = omega arith; equal = refl; room = omega arith; bytes = omega arith }))
      (ap (λ (o : Batch State). events_along o.left.state xs) (command_in_order.none s bytes symbols image replies records))

module _ (s : State) (bytes : List ℕ) (start : ℕ) (ss : List ℕ) (n : ℕ) (ns symbols image replies : List ℕ) (records : ℕ) (xs : List Step)
    (h : unfit (lends bytes (start ∷ ss) (n ∷ ns) symbols image replies) records ≡ false) where
  abbrev c : CommandArgs
  c = record { packet = bytes_from bytes start n; symbols = symbols; image = image; reply = take 32 replies }

  abbrev whole : BatchArgs
  whole = lends bytes (start ∷ ss) (n ∷ ns) symbols image replies

  abbrev others : BatchArgs
  others = lends bytes ss ns symbols (command_call s c).image (drop 32 replies)

  others_fit : unfit others (records - 1) ≡ false
  others_fit =
      let f : Fits whole records = fits_out whole records h in
      fits_in others (records - 1)
      (record {
        few = omega (arith, f.few);
        equal = omega (arith, f.equal);
        room = omega (arith, f.room);
        bytes = simp length-drop (omega (arith, f.bytes));
      })

  same_state : (batch on_state s whole records).left.state ≡ (batch on_state (command_call s c).state others (records - 1)).left.state
  same_state =
      ap (λ (o : Batch State). o.left.state) (command_in_order.equals s whole records h)
      ∙ sym (ap (λ (o : Batch State). o.left.state) (command_in_order.equals (command_call s c).state others (records - 1) others_fit))

  first_item : events_along s (many whole records ∷ xs) ≡ events_along s (one (command c) ∷ many others (records - 1) ∷ xs)
  first_item =
      rw (h, others_fit)
      (ap
      (λ (t : State).
      event s (command c)
      ∷ item_events (made on_state symbols (command_call s c).state (command_call s c).image (items_along bytes ss ns (drop 32 replies)))
      ++ events_along t xs)
      same_state)

pub items_are_calls : ItemsAreCalls
items_are_calls =
    record {
      no_step = tt;
      command_step = λ c xs b h. (b, h);
      slot_step = λ c xs h. (tt, h);
      batch_step = λ a records xs b h. (b, h);
      none = λ s. refl;
      call = λ s c xs. refl;
      refused = no_events;
      no_item = no_item;
      first_item = first_item;
    }
