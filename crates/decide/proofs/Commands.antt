-- The command call is the decision, carried out.
-- Assumes nothing.
use Rattle.std.specs.Prelude.{Option, Some, None, Result, Ok, Err}
use mathlib.Core.Path.{◌≡◌, refl, sym, ◌∙◌}
use mathlib.Core.Bool.{true, false, ◌&&◌, not, cond}
use mathlib.Core.List.{List}
use Prim.Native.Nat.{ℕ, ◌+◌, ◌%◌, ◌≤◌}
use native.Mathlib.Omega.{arith}
use lib.Dec.{leb, ltb, eqb}
use lib.ListN.{length}
use borrow.Author.Tests.{leb-true, le-leb, lt-leb, ltb-true, ltb-false, eqb-false, not-false}
use Rattle.lists.proofs.Tests.{either, and_left, and_right}
use Rattle.lists.proofs.Below.{any_first}
use Rattle.rules.specs.Regions.{aligned, region_at, any_right, load_right, dump_right, in_one_region, starts_inside, image_length, region_of, image_index, words_of}
use Rattle.rules.specs.States.{pool_at, context_at, busy_with, good_state}
use Rattle.rules.specs.Packets.{requested, decode, packet_length, field_rules, command_transaction, name_in}
use Rattle.rules.specs.Pools.{Walk, damaged, whole, blocks_of, is_damaged, reply_length}
use Rattle.rules.specs.Results.{lowest, lent_rows}
use Rattle.rules.specs.Values.{address_fits}
use Rattle.symbols.specs.Table.{value_of}
use Rattle.rules.specs.Commands.{CommandArgs, Outcome, range_by, task_of, task, no_table, layout_rules, unknown_name, wrong_range, is_idle, any_with, any_idle, first_with, first_idle, pool_words, returned, refused_command, carry_out, conclude, command_call}
use Rattle.rules.proofs.Rules.{pool_out}
use Rattle.rules.proofs.Table.{one_any, starts_whole, image_fits}
use Rattle.rules.specs.declared.Command.{Command}
use Rattle.rules.specs.declared.Command.TheVariants.{Dump, Cancel, Load, PoolStatistics, SymbolValue, DumpSymbol}
use Rattle.rules.specs.declared.Place.{Place}
use Rattle.rules.specs.declared.Range.{Range}
use Rattle.rules.specs.declared.Refusal.{Refusal}
use Rattle.rules.specs.declared.Refusal.TheVariants.{PoolDamaged}
use Rattle.rules.specs.declared.State.{State}
use Rattle.rules.specs.declared.Task.{Task}
use Rattle.rules.specs.declared.Task.TheVariants.{Nothing, DumpRange, CancelDump, LoadRange, CountPool, TellValue}
use Rattle.packet.specs.Frame.{frame_rows, headed_of, checked_by}
use Rattle.tasks.specs.Asked.{asked_of, if_passed, picked_by, sought_in}
use Rattle.pool.specs.Answers.{figures_of, walked_of}
use Rattle.pool.proofs.ReplyBytes.{reply_bytes_lem, reply_fits}
use Rattle.regions.proofs.Answers.{found_whole, index_whole}
use Rattle.opening.specs.Opening.{lent_by, opened_as, opened_by, good_words}
use Rattle.decide.specs.Decisions.{decide_walked, by_task, by_sought, decision, answer_of, image_after, reply_after, state_after, carried_out, Decided}
use Rattle.decide.specs.declared.Decision.{Decision}
use Rattle.decide.proofs.Right.{right_there}
use Rattle.opening.proofs.Rows.{or_else, after_code, frame_lowest}
use Rattle.decide.proofs.Rows.{asked_rows, task_rows, command_lowest}
use Rattle.opening.proofs.Lent.{LentIs, lent_lowest, lent_out, lent_good}
use Rattle.rules.specs.declared.Written.{Written}

-- THE PLACES

any_with_lem : (t : ℕ) (ps : List Place) → any_with t ps ≡ ltb (first_with t ps) 4
unfolding any_with first_with
any_with_lem t ps = any_first (λ i. busy_with t (context_at ps i)) 4

any_idle_lem : (ps : List Place) → any_idle ps ≡ ltb (first_idle ps) 4
unfolding any_idle first_idle
any_idle_lem ps = any_first (λ i. is_idle (context_at ps i)) 4

not_below : (x : ℕ) → leb 4 x ≡ not (ltb x 4)
not_below x = either (ltb x 4) (λ h. rw (h, lt-leb 4 x (ltb-true x 4 h))) (λ h. rw (h, le-leb 4 x (ltb-false x 4 h)))

-- THE FIELDS

-- what the second 9 and those before it leave of a task: a dump has a word or more, a load one to eleven, and a pool is one of two
abbrev Sized : Task → Type 0
Sized Nothing = Unit {0}
Sized (DumpRange a) = 1 ≤ a.words
Sized CancelDump = Unit {0}
Sized (LoadRange a) = (1 ≤ a.words) × (a.words ≤ 11)
Sized (CountPool i) = i ≤ 1
Sized (TellValue v) = Unit {0}

task_sized : (symbols p : List ℕ) (k : Command) → layout_rules p k ≡ true → wrong_range symbols (name_in p) (Some k) ≡ false
    → Sized (task_of symbols (name_in p) (Some k))
unfolding field_rules
task_sized symbols p (Dump q) h w = leb-true _ _ (and_right (aligned (requested q)) (leb 1 q.size) h)
task_sized symbols p Cancel h w = tt
task_sized symbols p (Load q) h w =
    let m = aligned (requested q) in
    let a = leb 1 q.size in
    let b = leb q.size 11 in
    (leb-true _ _ (and_right m a (and_left (m && a) b h)), leb-true _ _ (and_right (m && a) b h))
task_sized symbols p (PoolStatistics i) h w = leb-true _ _ h
task_sized symbols p (SymbolValue n) h w = tt
task_sized symbols p (DumpSymbol q) h w =
    let fits = address_fits (value_of symbols (name_in p)) q.offset && aligned (range_by symbols (name_in p) q) in
    leb-true _ _ (and_right fits (leb 1 q.size) (not-false _ w))

-- 10 TO 15

-- what is concluded of a task
abbrev conclude_as : State → CommandArgs → Task → Result (Unit {0}) Refusal → Outcome
conclude_as s c k (Err r) = refused_command s c r
conclude_as s c k (Ok tt) = carry_out s c k

conclude_as_lem : (s : State) (c : CommandArgs) (v : Result (Unit {0}) Refusal) → conclude s c v ≡ conclude_as s c (task c) v
conclude_as_lem s c (Err r) = refl
conclude_as_lem s c (Ok tt) = refl

module _ (s : State) (c : CommandArgs) (lent : LentIs s c.image reply_length c.reply) where
  -- the call, by the rows that are left for a task
  abbrev Own : Task → Type 0
  Own k = conclude_as s c k (lowest (task_rows s c k)) ≡ carried_out s c (by_task s c.image (command_transaction c.packet) k)

  own_dump : (a : Range) → 1 ≤ a.words → Own (DumpRange a)
  unfolding lowest task_rows
  own_dump a some =
      let t : ℕ = command_transaction c.packet in
      rw (found_whole _ _ a lent.start.table some)
      (either (in_one_region any_right s.regions s.count a)
      (λ i. rw (i, starts_whole _ _ a some i, right_there dump_right _ _ lent.start.table a some i, any_with_lem t s.places, any_idle_lem s.places, not_below (first_idle s.places))
      (either (region_at s.regions (region_of s.regions s.count a)).dump
      (λ r. rw r (either (ltb (first_with t s.places) 4) (λ b. rw b) (λ b. rw b (either (ltb (first_idle s.places) 4) (λ e. rw e) (λ e. rw e)))))
      (λ r. rw r)))
      (λ i. rw i (either (starts_inside s.regions s.count a) (λ q. rw q) (λ q. rw q))))

  own_cancel : Own CancelDump
  unfolding lowest task_rows
  own_cancel =
      let t : ℕ = command_transaction c.packet in
      rw (any_with_lem t s.places, not_below (first_with t s.places))
      (either (ltb (first_with t s.places) 4) (λ b. rw b) (λ b. rw b))

  own_load : (a : Range) → 1 ≤ a.words → a.words ≤ 11 → Own (LoadRange a)
  unfolding lowest task_rows
  own_load a some most =
      either (in_one_region any_right s.regions s.count a)
      (λ i.
      let fits : (image_index s.regions s.count a).0 + a.words ≤ length c.image =
      omega (arith, image_fits s.regions s.count a i, lent.whole) in
      rw (index_whole s.regions a s.count lent.start.table some i, found_whole _ _ a lent.start.table some, i, starts_whole _ _ a some i, right_there load_right _ _ lent.start.table a some i)
      (either (region_at s.regions (region_of s.regions s.count a)).load
      (λ r. rw (r, le-leb a.words 11 most, le-leb _ _ fits))
      (λ r. rw r)))
      (λ i. rw (found_whole _ _ a lent.start.table some, i) (either (starts_inside s.regions s.count a) (λ q. rw q) (λ q. rw q)))

  -- the reply with its numbers cut to their fields is the reply, and the figures are those of the blocks
  pool_walked : (i : ℕ) (w : Walk) → blocks_of (pool_words s i c.image) ≡ w
      → conclude_as s c (CountPool i) (cond (is_damaged w) (Err PoolDamaged) (Ok tt))
      ≡ carried_out s c (decide_walked (record { count = s.replies; unit = s.unit; transaction = command_transaction c.packet }) i (walked_of w))
  pool_walked i damaged e = refl
  pool_walked i (whole bs) e =
      let t : ℕ = command_transaction c.packet in
      let put = reply_fits c.reply s.replies s.unit t i (figures_of bs) refl lent.good.replies lent.start.low (omega arith) in
      rw (e, le-leb 32 (length c.reply) lent.room, put, reply_bytes_lem s.replies s.unit t i bs)

  own_pool : (i : ℕ) → i ≤ 1 → Own (CountPool i)
  unfolding lowest task_rows words_of
  own_pool i low =
      let pool : Range = pool_at s.pools i in
      either (eqb pool.words 0)
      (λ z. rw z)
      (λ z.
      let there = pool_out _ _ pool (lent.start.pools i low) (eqb-false _ _ z) in
      let inside = one_any dump_right _ _ pool there.region in
      let fits : (image_index s.regions s.count pool).0 + pool.words ≤ length c.image =
      omega (arith, image_fits s.regions s.count pool inside, lent.whole) in
      let some : 1 ≤ pool.words = let n = eqb-false pool.words 0 z in omega arith in
      rw (index_whole s.regions pool s.count lent.start.table some inside, found_whole _ _ pool lent.start.table some, z, inside, le-leb _ _ fits) (pool_walked i (blocks_of (pool_words s i c.image)) refl))

  -- the reply with its numbers cut to their fields is the reply
  own_value : (v : ℕ) → Own (TellValue v)
  unfolding lowest task_rows
  own_value v =
      let count : s.values % 16384 ≡ s.values = omega (arith, lent.good.values) in
      let unit : s.unit % 16 ≡ s.unit = omega (arith, lent.start.low) in
      let number : command_transaction c.packet % 4096 ≡ command_transaction c.packet = omega arith in
      rw (le-leb 12 (length c.reply) (omega (arith, lent.room)), count, unit, number)

  by_task_lem : (k : Task) → Sized k → Own k
  unfolding lowest task_rows
  by_task_lem Nothing z = refl
  by_task_lem (DumpRange a) z = own_dump a z
  by_task_lem CancelDump z = own_cancel
  by_task_lem (LoadRange a) z = own_load a z.0 z.1
  by_task_lem (CountPool i) z = own_pool i z
  by_task_lem (TellValue v) z = own_value v

  -- 17, 9, 18 AND 9 AGAIN

  abbrev task_by : Option Command → Task
  task_by d = task_of c.symbols (name_in c.packet) d

  -- the decision on what a packet asks for
  abbrev by_sought_here : Result Task Refusal → Result Decision Refusal
  by_sought_here a = by_sought s c.image (command_transaction c.packet) a

  -- the rows that are left for a packet that passed 4 to 8
  abbrev left : Option Command → Result (Unit {0}) Refusal
  left d = or_else (lowest (asked_rows c d)) (lowest (task_rows s c (task_by d)))

  by_command : (k : Command) → conclude_as s c (task_by (Some k)) (left (Some k)) ≡ carried_out s c (by_sought_here (asked_of c.symbols c.packet k))
  unfolding lowest asked_rows asked_of
  by_command k =
      let name : List ℕ = name_in c.packet in
      either (no_table c.symbols (Some k)) (λ e. rw e)
      (λ e₁. rw e₁ (either (layout_rules c.packet k)
      (λ e₂. rw e₂ (either (unknown_name c.symbols name (Some k)) (λ e. rw e)
      (λ e₃. rw e₃ (either (wrong_range c.symbols name (Some k)) (λ e. rw e)
      (λ e₄. rw e₄ (by_task_lem (task_by (Some k)) (task_sized c.symbols c.packet k e₂ e₄)))))))
      (λ e. rw e)))

  -- 6, 7 AND 8: what the function code picks

  by_checked : (k : Command) (v : Result (Unit {0}) Refusal)
      → conclude_as s c (task_by (Some k)) (or_else v (left (Some k))) ≡ carried_out s c (by_sought_here (if_passed v (asked_of c.symbols c.packet k)))
  by_checked k (Err r) = refl
  by_checked k (Ok tt) = by_command k

  by_decoded : (d : Option Command)
      → conclude_as s c (task_by d) (or_else (after_code c.packet s.unit d) (left d)) ≡ carried_out s c (by_sought_here (picked_by c.packet s.unit c.symbols d))
  by_decoded None = refl
  by_decoded (Some k) = by_checked k (checked_by c.packet s.unit (packet_length k))

  -- 4 AND 5

  by_head : (v : Result (Unit {0}) Refusal)
      → conclude s c (or_else (or_else v (after_code c.packet s.unit (decode c.packet))) (or_else (lowest (asked_rows c (decode c.packet))) (lowest (task_rows s c (task c)))))
      ≡ carried_out s c (by_sought_here (if_passed v (picked_by c.packet s.unit c.symbols (decode c.packet))))
  unfolding task
  by_head (Err r) = refl
  by_head (Ok tt) =
      conclude_as_lem s c (or_else (after_code c.packet s.unit (decode c.packet)) (left (decode c.packet))) ∙ by_decoded (decode c.packet)

  by_frame : conclude s c (or_else (lowest (frame_rows c.packet s.unit)) (or_else (lowest (asked_rows c (decode c.packet))) (lowest (task_rows s c (task c)))))
      ≡ carried_out s c (by_sought_here (sought_in c.packet s.unit c.symbols))
  unfolding sought_in
  by_frame = rw (frame_lowest c.packet s.unit) (by_head (headed_of c.packet))

-- 1 TO 3, AND THE CALL

by_lent : (s : State) (c : CommandArgs) (v : Result (Unit {0}) Refusal) → lowest (lent_rows s c.image reply_length c.reply) ≡ v
    → conclude s c
    (or_else v
    (or_else (lowest (frame_rows c.packet s.unit)) (or_else (lowest (asked_rows c (decode c.packet))) (lowest (task_rows s c (task c))))))
    ≡ carried_out s c (by_sought s c.image (command_transaction c.packet) (opened_as v c.packet c.symbols s.unit))
by_lent s c (Err r) e = refl
by_lent s c (Ok tt) e = by_frame s c (lent_out s c.image reply_length c.reply e)

pub decided : Decided
unfolding command_call decision
decided s c =
    rw (command_lowest s c, ← lent_lowest s c.image reply_length c.reply)
    (by_lent s c (lowest (lent_rows s c.image reply_length c.reply)) refl)

-- A STORE THAT SUPPLIES THE FACTS, AND CARRIES THE DECISION OUT

open_accepted : (v : Result (Unit {0}) Refusal) (p symbols : List ℕ) (unit : ℕ) (k : Task) → opened_as v p symbols unit ≡ Ok k → v ≡ (Ok tt)
open_accepted (Err r) p symbols unit k h = let z : ◌≡◌ {A = ℕ} 0 1 = cc in absurd (omega arith)
open_accepted (Ok tt) p symbols unit k h = refl

-- its steps give the decision
module _ (s : State) (c : CommandArgs) {words reply : ℕ} (ew : words ≡ cond (good_state s) (image_length s.regions s.count) 0)
    (er : length c.reply ≡ reply) {a : (Result Task Refusal)} (ea : a ≡ opened_by words (length c.image) reply c.packet c.symbols s.unit) where
  opened_as_lem : opened_by (good_words s) (length c.image) (length c.reply) c.packet c.symbols s.unit ≡ a
  unfolding good_words
  opened_as_lem = rw (er, ← ew) (sym ea)

  pub step_shut : {r : Refusal} → a ≡ Err r → Err r ≡ decision s c
  unfolding decision
  step_shut h = rw (opened_as_lem, h)

  pub step_open : {k : Task} {t : ℕ} {d : Result Decision Refusal} → a ≡ Ok k → t ≡ command_transaction c.packet → (good_state s ≡ true → d ≡ by_task s c.image t k) → d ≡ decision s c
  unfolding decision
  step_open {k} h et f =
      let lent : Result (Unit {0}) Refusal = lent_by (good_words s) (length c.image) 32 (length c.reply) in
      rw (opened_as_lem, h, ← et)
      (f (lent_good s (length c.image) 32 (length c.reply) (open_accepted lent c.packet c.symbols s.unit k (opened_as_lem ∙ h))))

-- and their effect is the call's
module _ (s : State) (c : CommandArgs) {d : Result Decision Refusal} (e : d ≡ decision s c) where
  pub command_done : {answer : (Result Written Refusal)} {state : State} {image reply : List ℕ} → answer ≡ answer_of d → state ≡ state_after s d
      → (image ≡ image_after d c.packet c.image) × (reply ≡ reply_after d c.reply)
      → (record { answer = answer; state = state } ≡ returned (command_call s c)) × (image ≡ (command_call s c).image) × (reply ≡ (command_call s c).buffer)
  command_done ea es (ei, er) = rw (decided s c, ← e, ea, es, ei, er) (refl, refl, refl)
