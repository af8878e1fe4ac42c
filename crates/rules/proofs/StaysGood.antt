-- Demand 2: a good state stays good under every call, and start-up answered 0 gives a good one.
-- Assumes nothing.
use Rattle.std.specs.Prelude.{Option, Some, None, Result, Ok, Err}
use mathlib.Core.Path.{◌≡◌, refl, sym, ap, ◌∙◌}
use mathlib.Core.Logic.{◌≢◌}
use mathlib.Core.Bool.{Bool, true, false, ◌&&◌}
use mathlib.Core.List.{List}
use Prim.Native.Nat.{ℕ, ◌+◌, ◌%◌, ◌<◌, ◌≤◌}
use native.Mathlib.Nat.{zero-mod, add-mod_right}
use native.Mathlib.Omega.{arith}
use lib.Dec.{leb, eqb}
use lib.ListN.{replicate}
use borrow.Author.Tests.{leb-true, eqb-true, not-false}
use Rattle.lists.proofs.Tests.{either, contra, and_left, and_right, by_lt}
use Rattle.lists.proofs.Below.{none_at, first_found}
use Rattle.wire.specs.Bytes.{AreBytes}
use Rattle.symbols.specs.Table.{value_of}
use Rattle.rules.specs.Regions.{start_of, aligned}
use Rattle.rules.specs.States.{start_rules, idle_place, entries_used, fresh_state, start_up, piece_words, dump_rules, context_at, context_rules, busy_with, good_state}
use Rattle.rules.specs.Packets.{function_code_of, command_transaction, requested, decode, name_in, field_rules}
use Rattle.rules.specs.Pools.{Walk, damaged, whole, blocks_of}
use Rattle.rules.specs.Results.{counted, lowest, verdict_number}
use Rattle.rules.specs.Values.{address_fits}
use Rattle.rules.specs.Commands.{CommandArgs, range_by, task_of, task, lacks_right, number_taken, no_place, no_such_dump, any_with, any_idle, is_idle, pool_words, command_rows, changed, accepted_more, refused_more, refused_command, first_idle, first_with, set_context, new_dump, replied, carry_out, conclude, command_call}
use Rattle.rules.specs.Slots.{SlotArgs, next_place, after_packet, serve, conclude_slot, slot_rows, slot_call}
use Rattle.rules.specs.Demand2.{after_command}
use Rattle.rules.specs.declared.ActiveDump.{ActiveDump}
use Rattle.rules.specs.declared.Command.TheVariants.{Dump, Cancel, Load, PoolStatistics, SymbolValue, DumpSymbol}
use Rattle.rules.specs.declared.Context.{Context}
use Rattle.rules.specs.declared.Context.TheVariants.{Idle, Busy}
use Rattle.rules.specs.declared.Place.{Place}
use Rattle.rules.specs.declared.Range.{Range}
use Rattle.rules.specs.declared.Refusal.{Refusal}
use Rattle.rules.specs.declared.Refusal.TheVariants.{UnknownCode, PoolDamaged}
use Rattle.rules.specs.declared.Region.{Region}
use Rattle.rules.specs.declared.State.{State}
use Rattle.rules.specs.declared.Task.TheVariants.{DumpRange, CancelDump}
use Rattle.rules.proofs.AfterPacket.{moved, after_more, after_last}
use Rattle.rules.proofs.Good.{DumpIs, dump_out, dump_in, Apart, PlacesAre, places_keep, GoodIs, good_out, good_in}
use Rattle.rules.proofs.Passed.{Tested, tests_passed}
use Rattle.rules.proofs.Rules.{replicate_at, used_region, same_rules}
use Rattle.rules.proofs.Round.{next_in_four}
use Rattle.rules.specs.declared.Command.{Command}

-- COMMANDS

-- the size that a packet asks of a dump: a number of two bytes
abbrev dump_size : Option Command → ℕ
dump_size None = 0
dump_size (Some (Dump q)) = q.size
dump_size (Some Cancel) = 0
dump_size (Some (Load q)) = 0
dump_size (Some (PoolStatistics i)) = 0
dump_size (Some (SymbolValue n)) = 0
dump_size (Some (DumpSymbol q)) = q.size

dump_size_lem : (p : List ℕ) → AreBytes p → dump_size (decode p) ≤ 65535
unfolding decode
dump_size_lem p b =
    let x = b 10 in
    let y = b 11 in
    let u = b 64 in
    let v = b 65 in
    by_code 0 (λ e. rw e (omega arith)) (λ e. rw e
    (by_code 1 (λ f. rw f (omega arith)) (λ f. rw f
    (by_code 4 (λ h. rw h (omega arith)) (λ h. rw h
    (by_code 7 (λ i. rw i (omega arith)) (λ i. rw i
    (by_code 8 (λ j. rw j (omega arith)) (λ j. rw j
    (by_code 9 (λ k. rw k (omega arith)) (λ k. rw k (omega arith))))))))))))
  where
    by_code : {A : Type 0} (k : ℕ) → (eqb (function_code_of p) k ≡ true → A) → (eqb (function_code_of p) k ≡ false → A) → A
    by_code k = either (eqb (function_code_of p) k)

-- what the tests of its fields say of a dump's range, after what else they say
range_fields : (b : Bool) (r : Range) → (b && aligned r && leb 1 r.words) ≡ true → (start_of r % 4 ≡ 0) × (1 ≤ r.words)
range_fields b r h =
    let a = aligned r in
    let w = leb 1 r.words in
    (eqb-true _ _ (and_right b a (and_left (b && a) w h)), leb-true _ _ (and_right (b && a) w h))

module _ (s : State) (g : GoodIs s) where
  changed_good : (places : List Place) (replies values accepted refused : ℕ) → PlacesAre s.regions s.count places → replies ≤ 16383
      → values ≤ 16383 → accepted ≤ 65535 → refused ≤ 65535 → GoodIs (changed s places replies values accepted refused)
  changed_good places replies values accepted refused p hr hv ha hf =
      record
      { rules = g.rules; last = g.last; replies = hr; values = hv; packets = g.packets; accepted = ha; refused = hf; places = p }

  -- one more command accepted
  accepted_good : (places : List Place) → PlacesAre s.regions s.count places → GoodIs (after_command s places s.replies s.values)
  accepted_good places p = changed_good places s.replies s.values (accepted_more s) s.refused p g.replies g.values (omega arith) g.refused

  refused_good : (c : CommandArgs) (r : Refusal) → GoodIs (refused_command s c r).state
  refused_good c r =
      either (counted r)
      (λ e. rw e
      (changed_good s.places s.replies s.values s.accepted (refused_more s) g.places g.replies g.values g.accepted (omega arith)))
      (λ e. rw e g)

-- what an accepted command does
module _ (s : State) (c : CommandArgs) (g : GoodIs s) where
  -- the places with one changed, after one more command accepted
  place_good : (i : ℕ) (a : Context) → i < 4 → context_rules s.regions s.count a ≡ true
      → ((j : ℕ) → j < 4 → j ≢ i → Apart a (context_at s.places j)) → GoodIs (after_command s (set_context s.places i a) s.replies s.values)
  place_good i a l ok apart = accepted_good s g _ (places_keep s.regions s.count s.places g.places i a l ok apart)

  new_dump_lem : (r : Range) → r.words ≤ 65535 → (start_of r % 4 ≡ 0) × (1 ≤ r.words) → lacks_right s (DumpRange r) ≡ false
      → DumpIs s.regions s.count (new_dump (command_transaction c.packet) r)
  new_dump_lem r small f right =
      record {
        number = omega arith;
        some = f.1;
        most = small;
        multiple = f.0;
        region = not-false _ right;
        cut = zero-mod (piece_words r);
        more = f.1;
      }

  dump_good : (r : Range) → DumpIs s.regions s.count (new_dump (command_transaction c.packet) r)
      → number_taken s (command_transaction c.packet) (DumpRange r) ≡ false → no_place s (DumpRange r) ≡ false
      → GoodIs (carry_out s c (DumpRange r)).state
  unfolding first_idle any_idle any_with
  dump_good r is new place =
      let t = command_transaction c.packet in
      let ps = s.places in
      let d = new_dump t r in
      let idle = first_found (λ (i : ℕ). is_idle (context_at ps i)) 4 (not-false _ place) in
      place_good (first_idle ps) (Busy d) idle.0 (dump_in s.regions s.count d is)
      (λ j l ne u k. rw (eqb-true t u k) at (none_at (λ (i : ℕ). busy_with t (context_at ps i)) 4 new l))

  cancel_good : no_such_dump s (command_transaction c.packet) CancelDump ≡ false → GoodIs (carry_out s c CancelDump).state
  unfolding first_with any_with
  cancel_good busy-with =
      let t = command_transaction c.packet in
      let ps = s.places in
      let busy = first_found (λ (i : ℕ). busy_with t (context_at ps i)) 4 (not-false _ busy-with) in
      place_good (first_with t ps) Idle busy.0 refl (λ j l ne u k. absurd (contra k refl))

  replied_good : (i : ℕ) (w : Walk) → GoodIs (replied s c i w).state
  replied_good i damaged = refused_good s g c PoolDamaged
  replied_good i (whole bs) =
      changed_good s g s.places ((s.replies + 1) % 16384) s.values (accepted_more s) s.refused
      g.places (omega arith) g.values (omega arith) g.refused

  carried_good : (d : Option Command) → dump_size d ≤ 65535 → Tested s c d → GoodIs (carry_out s c (task_of c.symbols (name_in c.packet) d)).state
  unfolding field_rules
  carried_good None small h = refused_good s g c UnknownCode
  carried_good (Some (Dump q)) small h =
      let r = requested q in
      dump_good r (new_dump_lem r small (range_fields true r (not-false _ h.laid.fields)) h.right) h.new h.place
  carried_good (Some Cancel) small h = cancel_good h.busy
  carried_good (Some (Load q)) small h = accepted_good s g s.places g.places
  carried_good (Some (PoolStatistics i)) small h = replied_good i (blocks_of (pool_words s i c.image))
  carried_good (Some (SymbolValue n)) small h =
      changed_good s g s.places s.replies ((s.values + 1) % 16384) (accepted_more s) s.refused
      g.places g.replies (omega arith) (omega arith) g.refused
  carried_good (Some (DumpSymbol q)) small h =
      let r = range_by c.symbols (name_in c.packet) q in
      let b = address_fits (value_of c.symbols (name_in c.packet)) q.offset in
      dump_good r (new_dump_lem r small (range_fields b r (not-false _ h.laid.range)) h.right) h.new h.place

pub command_good : (s : State) (c : CommandArgs) → AreBytes c.packet → good_state s ≡ true → good_state (command_call s c).state ≡ true
unfolding command_call task
command_good s c bytes good = good_in (command_call s c).state (concluded (lowest (command_rows s c)) refl)
  where
    g : GoodIs s
    g = good_out s good

    concluded : (v : Result (Unit {0}) Refusal) → lowest (command_rows s c) ≡ v → GoodIs (conclude s c v).state
    concluded (Err r) h = refused_good s g c r
    concluded (Ok tt) h = carried_good s c g (decode c.packet) (dump_size_lem c.packet bytes) (tests_passed s c h)

-- SLOTS

-- what a dump is after its next packet: by the rules, and apart from whatever it was apart from
module _ (d : ActiveDump) where
  after_rules : (rs : List Region) (n : ℕ) → dump_rules rs n d ≡ true → context_rules rs n (after_packet d) ≡ true
  after_rules rs n h =
      let z = piece_words d.range in
      let is = dump_out rs n d h in
      by_lt (d.sent + z) d.range.words
      (λ o. rw (after_more d o)
      (dump_in rs n (moved d)
      (record {
        number = is.number;
        some = is.some;
        most = is.most;
        multiple = is.multiple;
        region = is.region;
        cut = add-mod_right d.sent z ∙ is.cut;
        more = o;
      })))
      (λ o. rw (after_last d o))

  after_apart : (b : Context) → Apart (Busy d) b → Apart (after_packet d) b
  after_apart b f t =
      by_lt (d.sent + piece_words d.range) d.range.words
      (λ o. rw (after_more d o) (f t))
      (λ o. rw (after_last d o) (λ k. absurd (contra k refl)))

module _ (s : State) (c : SlotArgs) (g : GoodIs s) where
  served_good : (p : ℕ) (a : Context) → p < 4 → context_at s.places p ≡ a → GoodIs (serve s c p a).state
  served_good p Idle l e = g
  served_good p (Busy d) l e =
      record {
        rules = g.rules;
        last = omega arith;
        replies = g.replies;
        values = g.values;
        packets = omega arith;
        accepted = g.accepted;
        refused = g.refused;
        places =
            places_keep s.regions s.count s.places g.places p (after_packet d) l
            (after_rules d s.regions s.count (rw e at (g.places.each p l)))
            (λ j k ne. after_apart d (context_at s.places j) (rw e at (g.places.alone p j l k (λ q. ne (sym q)))));
      }

pub slot_good : (s : State) (c : SlotArgs) → good_state s ≡ true → good_state (slot_call s c).state ≡ true
unfolding slot_call
slot_good s c good = good_in (slot_call s c).state (concluded (lowest (slot_rows s c)))
  where
    concluded : (v : Result (Unit {0}) Refusal) → GoodIs (conclude_slot s c v).state
    concluded (Err r) = good_out s good
    concluded (Ok tt) =
        served_good s c (good_out s good) (next_place s.places s.last) (context_at s.places (next_place s.places s.last))
        (next_in_four s.places s.last) refl

-- START-UP

-- places that are all idle
pub idle_places : (i : ℕ) → context_at (replicate 4 idle_place) i ≡ Idle
idle_places i = ap (λ (p : Place). p.context) (replicate_at 4 i idle_place)

pub fresh_good : (rs : List Region) (n : ℕ) (ps : List Range) (unit : ℕ) → start_rules rs n ps unit ≡ true → GoodIs (fresh_state rs n ps unit)
fresh_good rs n ps unit h =
    record {
      rules = h;
      last = omega arith;
      replies = omega arith;
      values = omega arith;
      packets = omega arith;
      accepted = omega arith;
      refused = omega arith;
      places =
          record {
            four = refl;
            each = λ i l. rw (idle_places i);
            alone = λ i j l k ne. rw (idle_places i) (λ t q. absurd (contra q refl));
          };
    }

pub start_good : (rs : List Region) (n : ℕ) (pools : List Range) (unit : ℕ) → verdict_number (start_up rs n pools unit).verdict ≡ 0
    → good_state (start_up rs n pools unit).state ≡ true
unfolding start_up
start_good rs n pools unit h =
    either (start_rules rs n pools unit)
    (λ e. rw e
    (good_in (fresh_state (entries_used rs n) n pools unit)
    (fresh_good (entries_used rs n) n pools unit (same_rules (entries_used rs n) rs n (λ i l. used_region rs n i l) pools unit ∙ e))))
    (λ e. let z = rw e at h in absurd (omega arith))
