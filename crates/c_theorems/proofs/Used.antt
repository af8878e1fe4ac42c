-- A call reads only the regions in use: with other regions past them it does the same.
-- Assumes nothing.
use Rattle.std.specs.Prelude.{Option, Some, None, Result, Ok, Err}
use mathlib.Core.Path.{◌≡◌, refl, sym, ap, ◌∙◌}
use mathlib.Core.Bool.{Bool, true, ◌&&◌, cond}
use mathlib.Core.List.{List, ◌++◌}
use Prim.Native.Nat.{ℕ, zero, suc, ◌-◌, ◌≤◌, ◌<◌}
use native.Mathlib.Omega.{arith}
use lib.Dec.{leb, eqb}
use lib.ListN.{length, take, replicate}
use lib.Seq.{length-take-le, get_or-take, ext_get_or}
use Rattle.lists.specs.Below.{sum_below}
use Rattle.lists.proofs.Below.{all_same, any_same, first_same, first_found}
use Rattle.lists.proofs.Tests.{either}
use Rattle.rules.specs.Commands.{CommandArgs, Outcome, command_call}
use Rattle.rules.specs.Packets.{command_transaction}
use Rattle.rules.specs.Regions.{start_of, end_of, aligned, within, no_region, region_at, range_at, end_before, region_rules, table_rules, any_right, dump_right, holds, in_one_region, first_of, starts_inside, words_below, region_of}
use Rattle.rules.specs.PoolsApart.{with_regions}
use Rattle.rules.specs.Results.{counted}
use Rattle.rules.specs.Slots.{SlotArgs, slot_call}
use Rattle.rules.specs.States.{pool_at, pool_rules, start_rules, entries_used, start_up, dump_rules, context_at, context_rules, place_rules, places_rules, count_rules, good_state}
use Rattle.rules.specs.declared.ActiveDump.{ActiveDump}
use Rattle.rules.specs.declared.Context.{Context}
use Rattle.rules.specs.declared.Context.TheVariants.{Idle, Busy}
use Rattle.rules.specs.declared.Place.{Place}
use Rattle.rules.specs.declared.Range.{Range}
use Rattle.rules.specs.declared.Region.{Region}
use Rattle.rules.specs.declared.State.{State}
use Rattle.rules.specs.declared.Task.{Task}
use Rattle.rules.specs.declared.Task.TheVariants.{Nothing, DumpRange, CancelDump, LoadRange, CountPool, TellValue}
use Rattle.rules.proofs.Rules.{start_out}
use Rattle.rules.proofs.Table.{table_count}
use Rattle.regions.specs.Lookup.{found_in, find_region, word_index, found_index}
use Rattle.places.specs.Turns.{next_turn}
use Rattle.opening.specs.Opening.{lent_by, opened_by, good_words, find, index}
use Rattle.decide.specs.Decisions.{by_task, by_sought, decision, state_after, carried_out}
use Rattle.decide.specs.declared.Decision.{Decision}
use Rattle.decide.specs.declared.Decision.TheVariants.{Dump as Placed, Cancel as Freed, Load as Stored, Reply, Tell}
use Rattle.decide.proofs.Commands.{decided}
use Rattle.sending.specs.Sendings.{by_turn, sending_as, sending, sent_out}
use Rattle.sending.proofs.Slots.{slot_decided}
use Rattle.rules.specs.declared.Refusal.{Refusal}
use Rattle.places.specs.declared.Seat.{Seat}
use Rattle.sending.specs.declared.Piece.{Piece}
use Rattle.regions.specs.declared.Miss.TheVariants.{EndsOutside}

sum_same : (f g : ℕ → ℕ) (n : ℕ) → ((i : ℕ) → i < n → f i ≡ g i) → sum_below f n ≡ sum_below g n
sum_same f g zero h = refl
sum_same f g (suc n) h = rw (sum_same f g n (λ i l. h i (omega arith)), h n (omega arith))

-- THE TABLE: two that agree on the n regions in use

module _ (rs qs : List Region) (n : ℕ) (same : (i : ℕ) → i < n → region_at qs i ≡ region_at rs i) where
  range_same : (i : ℕ) → i < n → range_at qs i ≡ range_at rs i
  range_same i l = ap (λ (r : Region). r.range) (same i l)

  before_same : (i : ℕ) → i < n → end_before qs i ≡ end_before rs i
  before_same zero l = refl
  before_same (suc i) l = ap end_of (range_same i (omega arith))

  rules_same : (i : ℕ) → i < n → region_rules qs i ≡ region_rules rs i
  rules_same i l = rw (range_same i l, before_same i l)

  table_same : table_rules qs n ≡ table_rules rs n
  unfolding table_rules
  table_same = ap (λ (x : Bool). leb 1 n && leb n 16 && x) (all_same (region_rules qs) (region_rules rs) n rules_same)

  holds_same : (right : Region → Bool) (a : Range) (i : ℕ) → i < n → holds right qs a i ≡ holds right rs a i
  holds_same right a i l = ap (λ (r : Region). within a r.range && right r) (same i l)

  one_same : (right : Region → Bool) (a : Range) → in_one_region right qs n a ≡ in_one_region right rs n a
  unfolding in_one_region
  one_same right a = any_same (holds right qs a) (holds right rs a) n (holds_same right a)

  pool_same : (p : Range) → pool_rules qs n p ≡ pool_rules rs n p
  pool_same p = ap (λ (x : Bool). cond (eqb p.words 0) (eqb (start_of p) 0) (aligned p && x)) (one_same dump_right p)

  pub start_same : (ps : List Range) (unit : ℕ) → start_rules qs n ps unit ≡ start_rules rs n ps unit
  unfolding start_rules
  start_same ps unit = rw (table_same, pool_same (pool_at ps 0), pool_same (pool_at ps 1))

  dump_same : (d : ActiveDump) → dump_rules qs n d ≡ dump_rules rs n d
  unfolding dump_rules
  dump_same d = rw (one_same dump_right d.range)

  context_same : (c : Context) → context_rules qs n c ≡ context_rules rs n c
  context_same Idle = refl
  context_same (Busy d) = dump_same d

  places_same : (ps : List Place) → places_rules qs n ps ≡ places_rules rs n ps
  unfolding places_rules
  places_same ps =
      ap (λ (x : Bool). eqb (length ps) 4 && x)
      (all_same (place_rules qs n ps) (place_rules rs n ps) 4 (λ i l. rw (context_same (context_at ps i))))

  words_same : (k : ℕ) → k ≤ n → words_below qs k ≡ words_below rs k
  unfolding words_below
  words_same k l = sum_same (λ i. (range_at qs i).words) (λ i. (range_at rs i).words) k (λ i q. ap (λ (r : Range). r.words) (range_same i (omega arith)))

  -- THE LOOKUP

  region_same : (a : Range) → region_of qs n a ≡ region_of rs n a
  unfolding region_of
  region_same a = first_same (holds any_right qs a) (holds any_right rs a) n (holds_same any_right a)

  region_low : (a : Range) → starts_inside rs n a ≡ true → region_of rs n (first_of a) < n
  unfolding region_of in_one_region
  region_low a e = (first_found (holds any_right rs (first_of a)) n e).0

  found_same : (a : Range) (k : ℕ) → k < n → found_in qs a k ≡ found_in rs a k
  found_same a k l =
      ap (λ (r : Region). cond (leb (end_of a) (end_of r.range)) (Ok (record { region = k; load = r.load; dump = r.dump })) (Err EndsOutside)) (same k l)

  find_same : (a : Range) → find_region qs n a ≡ find_region rs n a
  unfolding find_region
  find_same a =
      either (starts_inside rs n a)
      (λ e. rw (one_same any_right (first_of a), e, region_same (first_of a)) (found_same a (region_of rs n (first_of a)) (region_low a e)))
      (λ e. rw (one_same any_right (first_of a), e))

  index_at : (a : Range) (k : ℕ) → k < n → word_index qs k a ≡ word_index rs k a
  index_at a k l = rw (words_same k (omega arith), range_same k l)

  index_same : (a : Range) → found_index qs a (find_region rs n a) ≡ found_index rs a (find_region rs n a)
  unfolding find_region
  index_same a =
      either (starts_inside rs n a)
      (λ e. either (leb (end_of a) (end_of (range_at rs (region_of rs n (first_of a)))))
      (λ f. rw (e, f) (index_at a (region_of rs n (first_of a)) (region_low a e)))
      (λ f. rw (e, f)))
      (λ e. rw e)

-- START-UP

module _ (rs qs : List Region) (n : ℕ) (same : (i : ℕ) → i < n → region_at qs i ≡ region_at rs i) (lr : length rs ≡ 16) (lq : length qs ≡ 16) where
  entries_same : n ≤ 16 → entries_used qs n ≡ entries_used rs n
  unfolding entries_used
  entries_same m =
      let a = length-take-le n qs (omega arith) in
      let b = length-take-le n rs (omega arith) in
      ap (λ (l : List Region). l ++ replicate (16 - n) no_region)
      (ext_get_or no_region (take n qs) (take n rs) (omega arith)
      (λ k l. let q : k < n = omega arith in get_or-take n qs k no_region q ∙ same k q ∙ sym (get_or-take n rs k no_region q)))

  pub started_same : (ps : List Range) (unit : ℕ) → start_up qs n ps unit ≡ start_up rs n ps unit
  unfolding start_up
  started_same ps unit =
      either (start_rules rs n ps unit)
      (λ e. rw (start_same rs qs n same ps unit, e, entries_same (table_count rs n (start_out rs n ps unit e).table).1))
      (λ e. rw (start_same rs qs n same ps unit, e))

-- A STATE with other regions past those in use

abbrev pub on_regions : List Region → Outcome → Outcome
on_regions qs o = record { answer = o.answer; state = with_regions o.state qs; image = o.image; buffer = o.buffer }

module _ (s : State) (qs : List Region) (same : (i : ℕ) → i < s.count → region_at qs i ≡ region_at s.regions i) where
  good_same : good_state (with_regions s qs) ≡ good_state s
  unfolding good_state count_rules
  good_same = rw (start_same s.regions qs s.count same s.pools s.unit, places_same s.regions qs s.count same s.places)

  image_same : good_words (with_regions s qs) ≡ good_words s
  unfolding good_words
  image_same = rw (good_same, words_same s.regions qs s.count same s.count (omega arith))

  lookup_same : (a : Range) → find (with_regions s qs) a ≡ find s a
  lookup_same a = find_same s.regions qs s.count same a

  begins_same : (a : Range) → index (with_regions s qs) a ≡ index s a
  begins_same a = ap (found_index qs a) (lookup_same a) ∙ index_same s.regions qs s.count same a

  -- THE COMMAND CALL

  task_same : (image : List ℕ) (t : ℕ) (k : Task) → by_task (with_regions s qs) image t k ≡ by_task s image t k
  task_same image t Nothing = refl
  task_same image t (DumpRange a) = rw (lookup_same a)
  task_same image t CancelDump = refl
  task_same image t (LoadRange a) = rw (begins_same a, lookup_same a)
  task_same image t (CountPool i) = rw (begins_same (pool_at s.pools i), lookup_same (pool_at s.pools i))
  task_same image t (TellValue v) = refl

  sought_same : (image : List ℕ) (t : ℕ) (a : Result Task Refusal) → by_sought (with_regions s qs) image t a ≡ by_sought s image t a
  sought_same image t (Err r) = refl
  sought_same image t (Ok k) = task_same image t k

  decision_same : (c : CommandArgs) → decision (with_regions s qs) c ≡ decision s c
  unfolding decision
  decision_same c =
      rw image_same
      (sought_same c.image (command_transaction c.packet) (opened_by (good_words s) (length c.image) (length c.reply) c.packet c.symbols s.unit))

  after_same : (d : Result Decision Refusal) → state_after (with_regions s qs) d ≡ with_regions (state_after s d) qs
  after_same (Err r) = either (counted r) (λ e. rw e) (λ e. rw e)
  after_same (Ok (Placed x)) = refl
  after_same (Ok (Freed x)) = refl
  after_same (Ok (Stored x)) = refl
  after_same (Ok (Reply x)) = refl
  after_same (Ok (Tell x)) = refl

  carried_same : (c : CommandArgs) (d : Result Decision Refusal) → carried_out (with_regions s qs) c d ≡ on_regions qs (carried_out s c d)
  carried_same c d = rw (after_same d)

  pub command_same : (c : CommandArgs) → command_call (with_regions s qs) c ≡ on_regions qs (command_call s c)
  command_same c =
      decided (with_regions s qs) c
      ∙ ap (carried_out (with_regions s qs) c) (decision_same c)
      ∙ carried_same c (decision s c)
      ∙ ap (on_regions qs) (sym (decided s c))

  -- THE SLOT CALL

  turn_same : (tick : ℕ) (t : Option Seat) → by_turn (with_regions s qs) tick t ≡ by_turn s tick t
  turn_same tick None = refl
  turn_same tick (Some x) = rw (begins_same x.dump.range, lookup_same x.dump.range)

  verdict_same : (tick : ℕ) (v : Result (Unit {0}) Refusal) → sending_as (with_regions s qs) tick v ≡ sending_as s tick v
  verdict_same tick (Err r) = refl
  verdict_same tick (Ok tt) = turn_same tick (next_turn s.places s.last)

  sending_same : (c : SlotArgs) → sending (with_regions s qs) c ≡ sending s c
  unfolding sending
  sending_same c = rw image_same (verdict_same c.tick (lent_by (good_words s) (length c.image) 4092 (length c.buffer)))

  sent_same : (c : SlotArgs) (d : Result Piece Refusal) → sent_out (with_regions s qs) c d ≡ on_regions qs (sent_out s c d)
  sent_same c (Err r) = refl
  sent_same c (Ok x) = refl

  pub slot_same : (c : SlotArgs) → slot_call (with_regions s qs) c ≡ on_regions qs (slot_call s c)
  slot_same c =
      slot_decided (with_regions s qs) c
      ∙ ap (sent_out (with_regions s qs) c) (sending_same c)
      ∙ sent_same c (sending s c)
      ∙ ap (on_regions qs) (sym (slot_decided s c))

-- A SLOT CALL KEEPS the regions and their number
module _ (s : State) (c : SlotArgs) where
  sent_kept : (d : Result Piece Refusal) → ((sent_out s c d).state.regions ≡ s.regions) × ((sent_out s c d).state.count ≡ s.count)
  sent_kept (Err r) = (refl, refl)
  sent_kept (Ok x) = (refl, refl)

  pub slot_kept : ((slot_call s c).state.regions ≡ s.regions) × ((slot_call s c).state.count ≡ s.count)
  slot_kept = rw (slot_decided s c) (sent_kept (sending s c))
