-- Demand 1: each call gives each number exactly in its case, and a refusal leaves all as it was, save the refused count where it counts.
-- Assumes nothing.
use Rattle.std.specs.Prelude.{Option, Some, None, Result, Ok, Err}
use mathlib.Core.Path.{◌≡◌, refl, sym, ◌∙◌}
use mathlib.Core.Logic.{◌≢◌, inl, inr}
use mathlib.Core.Bool.{true, false}
use mathlib.Core.List.{List, []}
use Prim.Native.Nat.{ℕ, suc, ◌*◌, ◌≤◌}
use lib.Dec.{eqb}
use native.Mathlib.Omega.{arith}
use lib.ListN.{length, drop}
use borrow.Author.Tests.{eqb-true, ltb-false, not-false}
use Rattle.lists.proofs.Tests.{either, contra}
use Rattle.lists.proofs.Splice.{splice_length, splice_rest}
use Rattle.symbols.specs.Table.{value_of}
use Rattle.rules.specs.Regions.{image_length, table_rules}
use Rattle.rules.specs.States.{entries_used, start_rules, start_up, no_state, good_state, context_at}
use Rattle.rules.specs.Packets.{decode, name_in, command_transaction, command_bytes}
use Rattle.rules.specs.Values.{value_length, value_bytes}
use Rattle.rules.specs.Cases.{bytes_of}
use Rattle.rules.specs.Pools.{Walk, damaged, whole, blocks_of, is_damaged, reply_length}
use Rattle.rules.specs.Results.{number, counted, answer_length, verdict_number, answer_number, Row, lowest, lent_rows}
use Rattle.rules.specs.Commands.{CommandArgs, Outcome, task_of, task, is_unknown, names_symbol, wrong_range, pool_words, command_rows, accepted_more, refused_command, replied, told, carry_out, conclude, command_call}
use Rattle.rules.specs.Slots.{SlotArgs, is_busy, any_busy, longest_packet, slot_rows, next_place, refused_slot, serve, conclude_slot, slot_call}
use Rattle.rules.specs.Ground.{writer_rows, conclude_write, write_command, reader_rows, reading_number, no_words, fields_read, conclude_read, read_command, packet_rows, packet_number, conclude_packet, read_packet}
use Rattle.rules.specs.Demand1.{LowestBy, Lowest, after_ten, CommandRefusals, SlotRefusals, StartRefusals, GroundRefusals, Demand1}
use Rattle.rules.specs.declared.Command.{Command}
use Rattle.rules.specs.declared.Command.TheVariants.{Dump, Cancel, Load, PoolStatistics, SymbolValue, DumpSymbol}
use Rattle.rules.specs.declared.Context.{Context}
use Rattle.rules.specs.declared.Context.TheVariants.{Idle, Busy}
use Rattle.rules.specs.declared.Header.{Header}
use Rattle.rules.specs.declared.Range.{Range}
use Rattle.rules.specs.declared.Refusal.{Refusal}
use Rattle.rules.specs.declared.Refusal.TheVariants.{BadState, ImageLength, BufferLength, Malformed, OtherApid, UnknownCode, PacketLength, OtherUnit, BadField, OutsideRegions, NoRight, TransactionBusy, PlacesBusy, NotBusy, PoolDamaged, NothingToSend, BadTable, UnknownSymbol, RunsOut}
use Rattle.rules.specs.declared.Region.{Region}
use Rattle.rules.specs.declared.State.{State}
use Rattle.rules.specs.declared.Task.{Task}
use Rattle.rules.specs.declared.Task.TheVariants.{Nothing, DumpRange, CancelDump, LoadRange, CountPool, TellValue}
use Rattle.rules.proofs.Good.{good_out}
use Rattle.rules.proofs.LowestNumber.{number_some, lowest_number, without, lowest_without, first_number, test_passed}
use Rattle.rules.proofs.Fits.{load_keeps_length, reply_keeps_length, packet_keeps_length, command_keeps_length, command_length}
use Rattle.rules.proofs.Round.{next_busy}
use Rattle.rules.proofs.Passed.{Tested, whole_passed, tests_passed}
use Rattle.rules.proofs.Cases.{names_none, command_cases, slot_cases}
use Rattle.rules.proofs.AnswerNumbers.{answer_numbers}
use Rattle.rules.proofs.GroundCases.{length_of, writer_cases, reader_cases, packet_cases}

-- these numbers are not counted, and every other but 16 is
these_keep : (r : Refusal)
    → (number r ≡ 1 → counted r ≡ false) × (number r ≡ 2 → counted r ≡ false) × (number r ≡ 3 → counted r ≡ false)
    × (number r ≡ 5 → counted r ≡ false) × (number r ≡ 8 → counted r ≡ false)
these_keep BadState = (λ e. refl, λ e. refl, λ e. refl, λ e. refl, λ e. refl)
these_keep ImageLength = (λ e. refl, λ e. refl, λ e. refl, λ e. refl, λ e. refl)
these_keep BufferLength = (λ e. refl, λ e. refl, λ e. refl, λ e. refl, λ e. refl)
these_keep Malformed = (λ e. absurd (omega arith), λ e. absurd (omega arith), λ e. absurd (omega arith), λ e. absurd (omega arith), λ e. absurd (omega arith))
these_keep OtherApid = (λ e. refl, λ e. refl, λ e. refl, λ e. refl, λ e. refl)
these_keep UnknownCode = (λ e. absurd (omega arith), λ e. absurd (omega arith), λ e. absurd (omega arith), λ e. absurd (omega arith), λ e. absurd (omega arith))
these_keep PacketLength = (λ e. absurd (omega arith), λ e. absurd (omega arith), λ e. absurd (omega arith), λ e. absurd (omega arith), λ e. absurd (omega arith))
these_keep OtherUnit = (λ e. refl, λ e. refl, λ e. refl, λ e. refl, λ e. refl)
these_keep BadField = (λ e. absurd (omega arith), λ e. absurd (omega arith), λ e. absurd (omega arith), λ e. absurd (omega arith), λ e. absurd (omega arith))
these_keep OutsideRegions = (λ e. absurd (omega arith), λ e. absurd (omega arith), λ e. absurd (omega arith), λ e. absurd (omega arith), λ e. absurd (omega arith))
these_keep NoRight = (λ e. absurd (omega arith), λ e. absurd (omega arith), λ e. absurd (omega arith), λ e. absurd (omega arith), λ e. absurd (omega arith))
these_keep TransactionBusy = (λ e. absurd (omega arith), λ e. absurd (omega arith), λ e. absurd (omega arith), λ e. absurd (omega arith), λ e. absurd (omega arith))
these_keep PlacesBusy = (λ e. absurd (omega arith), λ e. absurd (omega arith), λ e. absurd (omega arith), λ e. absurd (omega arith), λ e. absurd (omega arith))
these_keep NotBusy = (λ e. absurd (omega arith), λ e. absurd (omega arith), λ e. absurd (omega arith), λ e. absurd (omega arith), λ e. absurd (omega arith))
these_keep PoolDamaged = (λ e. absurd (omega arith), λ e. absurd (omega arith), λ e. absurd (omega arith), λ e. absurd (omega arith), λ e. absurd (omega arith))
these_keep NothingToSend = (λ e. refl, λ e. refl, λ e. refl, λ e. refl, λ e. refl)
these_keep BadTable = (λ e. absurd (omega arith), λ e. absurd (omega arith), λ e. absurd (omega arith), λ e. absurd (omega arith), λ e. absurd (omega arith))
these_keep UnknownSymbol = (λ e. absurd (omega arith), λ e. absurd (omega arith), λ e. absurd (omega arith), λ e. absurd (omega arith), λ e. absurd (omega arith))
these_keep RunsOut = (λ e. absurd (omega arith), λ e. absurd (omega arith), λ e. absurd (omega arith), λ e. absurd (omega arith), λ e. absurd (omega arith))

other_counts : (r : Refusal) → number r ≢ 1 → number r ≢ 2 → number r ≢ 3 → number r ≢ 5 → number r ≢ 8 → number r ≢ 16 → counted r ≡ true
other_counts BadState a b c d e f = absurd (a refl)
other_counts ImageLength a b c d e f = absurd (b refl)
other_counts BufferLength a b c d e f = absurd (c refl)
other_counts Malformed a b c d e f = refl
other_counts OtherApid a b c d e f = absurd (d refl)
other_counts UnknownCode a b c d e f = refl
other_counts PacketLength a b c d e f = refl
other_counts OtherUnit a b c d e f = absurd (e refl)
other_counts BadField a b c d e f = refl
other_counts OutsideRegions a b c d e f = refl
other_counts NoRight a b c d e f = refl
other_counts TransactionBusy a b c d e f = refl
other_counts PlacesBusy a b c d e f = refl
other_counts NotBusy a b c d e f = refl
other_counts PoolDamaged a b c d e f = refl
other_counts NothingToSend a b c d e f = absurd (f refl)
other_counts BadTable a b c d e f = refl
other_counts UnknownSymbol a b c d e f = refl
other_counts RunsOut a b c d e f = refl

no_number : {A : Type 0} {n k : ℕ} → n ≡ 0 → n ≡ suc k → A
no_number z e = absurd (omega arith)

-- THE COMMAND CALL

-- what a command call leaves that is not refused
record CarriedOut (s : State) (c : CommandArgs) (o : Outcome) : Type 0 where
  done : answer_number o.answer ≡ 0
  accepted : o.state.accepted ≡ accepted_more s
  refused : o.state.refused ≡ s.refused
  image : length o.image ≡ length c.image
  buffer : length o.buffer ≡ length c.reply

module _ (s : State) (c : CommandArgs) (passed : lowest (command_rows s c) ≡ (Ok tt)) where
  image_length_lem : length c.image ≡ image_length s.regions s.count
  unfolding command_rows lent_rows
  image_length_lem = eqb-true _ _ (not-false _ (test_passed (command_rows s c) passed 2))

  reply_room : reply_length ≤ length c.reply
  unfolding command_rows lent_rows
  reply_room = ltb-false _ _ (test_passed (command_rows s c) passed 3)

  replied_out : (i : ℕ) (w : Walk) → is_damaged w ≡ false → CarriedOut s c (replied s c i w)
  replied_out i damaged h = absurd (contra refl h)
  replied_out i (whole bs) h =
      record { done = refl; accepted = refl; refused = refl; image = refl; buffer = reply_keeps_length _ _ _ _ _ c.reply reply_room }

  -- the reply that tells a value is shorter than the room that every command must have
  told_length : (v : ℕ) → length (told s c v).buffer ≡ length c.reply
  told_length v =
      let e : length (value_bytes s.values s.unit (command_transaction c.packet) v) ≡ value_length = unfold value_bytes in refl in
      let l = reply_room in
      splice_length c.reply 0 (value_bytes s.values s.unit (command_transaction c.packet) v) (omega arith)

  carried_out : (d : Option Command) → Tested s c d → CarriedOut s c (carry_out s c (task_of c.symbols (name_in c.packet) d))
  carried_out None t = absurd (contra refl t.laid.known)
  carried_out (Some (Dump q)) t = record { done = refl; accepted = refl; refused = refl; image = refl; buffer = refl }
  carried_out (Some Cancel) t = record { done = refl; accepted = refl; refused = refl; image = refl; buffer = refl }
  carried_out (Some (Load q)) t =
      record {
        done = refl;
        accepted = refl;
        refused = refl;
        image = load_keeps_length s.regions s.count q c.packet c.image (whole_passed _ _ _ t.inside t.whole) image_length_lem;
        buffer = refl;
      }
  carried_out (Some (PoolStatistics i)) t = replied_out i (blocks_of (pool_words s i c.image)) t.blocks
  carried_out (Some (SymbolValue n)) t =
      record { done = refl; accepted = refl; refused = refl; image = refl; buffer = told_length (value_of c.symbols (name_in c.packet)) }
  carried_out (Some (DumpSymbol q)) t = record { done = refl; accepted = refl; refused = refl; image = refl; buffer = refl }

-- A COMMAND THAT NAMES NO SYMBOL

-- its second 9 never applies, and its task is the same whatever symbol table is lent
module _ (symbols name : List ℕ) where
  no_range : (d : Option Command) → names_symbol d ≡ false → wrong_range symbols name d ≡ false
  no_range None n = refl
  no_range (Some (Dump q)) n = refl
  no_range (Some Cancel) n = refl
  no_range (Some (Load q)) n = refl
  no_range (Some (PoolStatistics i)) n = refl
  no_range (Some (SymbolValue i)) n = refl
  no_range (Some (DumpSymbol q)) n = absurd (contra refl n)

  same_task : (others : List ℕ) (d : Option Command) → names_symbol d ≡ false → task_of others name d ≡ task_of symbols name d
  same_task others None n = refl
  same_task others (Some (Dump q)) n = refl
  same_task others (Some Cancel) n = refl
  same_task others (Some (Load q)) n = refl
  same_task others (Some (PoolStatistics i)) n = refl
  same_task others (Some (SymbolValue i)) n = absurd (contra refl n)
  same_task others (Some (DumpSymbol q)) n = absurd (contra refl n)

-- no two numbers are alike in the order of the command call's
ten_apart : (i j : ℕ) → after_ten i ≡ after_ten j → i ≡ j
ten_apart i j e =
    either (eqb i 19)
    (λ a. either (eqb j 19) (λ b. eqb-true i 19 a ∙ sym (eqb-true j 19 b)) (λ b. let q : 21 ≡ 2 * j = rw (a, b) at e in absurd (omega arith)))
    (λ a. either (eqb j 19) (λ b. let q : 2 * i ≡ 21 = rw (a, b) at e in absurd (omega arith)) (λ b. let q : 2 * i ≡ 2 * j = rw (a, b) at e in omega arith))

-- what a task does looks at no symbol table
abbrev lent_other : CommandArgs → List ℕ → CommandArgs
lent_other c others = record { packet = c.packet; symbols = others; image = c.image; reply = c.reply }

module _ (s : State) (c : CommandArgs) (others : List ℕ) where
  same_reply : (i : ℕ) (w : Walk) → replied s (lent_other c others) i w ≡ replied s c i w
  same_reply i damaged = refl
  same_reply i (whole bs) = refl

  same_outcome : (t : Task) → carry_out s (lent_other c others) t ≡ carry_out s c t
  same_outcome Nothing = refl
  same_outcome (DumpRange r) = refl
  same_outcome CancelDump = refl
  same_outcome (LoadRange r) = refl
  same_outcome (CountPool i) = same_reply i (blocks_of (pool_words s i c.image))
  same_outcome (TellValue v) = refl

module _ (s : State) (c : CommandArgs) (none : names_symbol (decode c.packet) ≡ false) where
  -- rows 17 and 18 and the second 9 do not apply, and the others ascend
  command_lowest : LowestBy after_ten (command_rows s c) (verdict_number (lowest (command_rows s c)))
  unfolding command_rows lent_rows
  command_lowest =
      let rows : List Row = command_rows s c in
      lowest_without 11 rows (no_range c.symbols (name_in c.packet) (decode c.packet) none)
      (lowest_without 10 (without 11 rows) (rw none)
      (lowest_without 8 (without 10 (without 11 rows)) (rw none) (lowest_number after_ten ten_apart (without 8 (without 10 (without 11 rows))) refl _ refl)))

  other_task : (others : List ℕ) → task (lent_other c others) ≡ task c
  unfolding task
  other_task others = same_task c.symbols (name_in c.packet) others (decode c.packet) none

  other_rows : (others : List ℕ) → command_rows s (lent_other c others) ≡ command_rows s c
  unfolding command_rows lent_rows
  other_rows others =
      let r : (symbols : List ℕ) → wrong_range symbols (name_in c.packet) (decode c.packet) ≡ false =
      λ symbols. no_range symbols (name_in c.packet) (decode c.packet) none in
      rw (none, r c.symbols, r others, other_task others)

  other_outcome : (others : List ℕ) (v : Result (Unit {0}) Refusal) → conclude s (lent_other c others) v ≡ conclude s c v
  other_outcome others (Ok tt) = rw (other_task others) (same_outcome s c others (task c))
  other_outcome others (Err r) = refl

  other_call : (others : List ℕ) → command_call s (lent_other c others) ≡ command_call s c
  unfolding command_call
  other_call others = rw (other_rows others) (other_outcome others (lowest (command_rows s c)))

-- THE COMMAND CALL'S STATEMENT

module _ (s : State) (c : CommandArgs) where
  command_accepted : lowest (command_rows s c) ≡ (Ok tt) → (o : Outcome) → command_call s c ≡ o → CarriedOut s c o → CommandRefusals s c o
  unfolding command_rows lent_rows
  command_accepted e o call is =
      record {
        numbers = refl;
        cases = command_cases s c;
        first = rw is.done (first_number (command_rows s c) (Ok tt) e);
        lowest = λ v n. rw is.done (rw e at (command_lowest s c (names_none c.packet v n)));
        kept = λ n. absurd (n is.done);
        handed_in = (no_number is.done, no_number is.done, no_number is.done, no_number is.done, no_number is.done);
        one_more = λ z. absurd (z is.done);
        accepted = λ z. (is.accepted, is.refused);
        no_symbol = λ v n others. other_call s c (names_none c.packet v n) others ∙ call;
        lent = (is.image, is.buffer);
      }

  command_refused : (r : Refusal) → lowest (command_rows s c) ≡ Err r → command_call s c ≡ refused_command s c r
      → CommandRefusals s c (refused_command s c r)
  unfolding command_rows lent_rows
  command_refused r e call =
      record {
        numbers = refl;
        cases = command_cases s c;
        first = first_number (command_rows s c) (Err r) e;
        lowest = λ v n. rw e at (command_lowest s c (names_none c.packet v n));
        kept = λ n. (refl, refl, refl);
        handed_in = let k = these_keep r in
            (λ e. rw (k.0 e), λ e. rw (k.1 e), λ e. rw (k.2 e), λ e. rw (k.3 e), λ e. rw (k.4 e));
        one_more = λ z a b c d e f. rw (other_counts r a b c d e f);
        accepted = λ z. let n = number_some r in absurd (omega arith);
        no_symbol = λ v n others. other_call s c (names_none c.packet v n) others ∙ call;
        lent = (refl, refl);
      }

  command_concluded : (v : Result (Unit {0}) Refusal) → lowest (command_rows s c) ≡ v → command_call s c ≡ conclude s c v → CommandRefusals s c (conclude s c v)
  unfolding task
  command_concluded (Ok tt) e call =
      command_accepted e (carry_out s c (task c)) call (carried_out s c e (decode c.packet) (tests_passed s c e))
  command_concluded (Err r) e call = command_refused r e call

  command_refusals : CommandRefusals s c (command_call s c)
  unfolding command_call
  command_refusals = command_concluded (lowest (command_rows s c)) refl refl

-- THE SLOT CALL

module _ (s : State) (c : SlotArgs) where
  slot_lowest : (v : Result (Unit {0}) Refusal) → lowest (slot_rows s c) ≡ v → Lowest (slot_rows s c) (verdict_number v)
  unfolding slot_rows lent_rows
  slot_lowest = lowest_number (λ i. i) (λ i j e. e) (slot_rows s c) refl

  -- where no row applies the next place is busy
  next_is_busy : lowest (slot_rows s c) ≡ (Ok tt) → is_busy (context_at s.places (next_place s.places s.last)) ≡ true
  unfolding slot_rows lent_rows
  next_is_busy e =
      let g : good_state s ≡ true = not-false _ (test_passed (slot_rows s c) e 1) in
      let b : any_busy s.places ≡ true = not-false _ (test_passed (slot_rows s c) e 16) in
      next_busy s.places s.last (good_out s g).last b

  packet_room : lowest (slot_rows s c) ≡ (Ok tt) → longest_packet ≤ length c.buffer
  unfolding slot_rows lent_rows
  packet_room e = ltb-false _ _ (test_passed (slot_rows s c) e 3)

  slot_refused : (r : Refusal) → lowest (slot_rows s c) ≡ Err r → SlotRefusals s c (refused_slot s c r)
  unfolding slot_rows lent_rows
  slot_refused r e =
      record {
        numbers = refl;
        cases = slot_cases s c;
        lowest = slot_lowest (Err r) e;
        kept = λ n. (refl, refl, refl);
        image = refl;
        counts = (refl, refl);
        lent = refl;
      }

  slot_served : lowest (slot_rows s c) ≡ (Ok tt) → (p : ℕ) (a : Context) → is_busy a ≡ true → SlotRefusals s c (serve s c p a)
  unfolding slot_rows lent_rows
  slot_served e p Idle b = absurd (contra b refl)
  slot_served e p (Busy d) b =
      record {
        numbers = refl;
        cases = slot_cases s c;
        lowest = slot_lowest (Ok tt) e;
        kept = λ n. absurd (n refl);
        image = refl;
        counts = (refl, refl);
        lent = packet_keeps_length s c.tick d c.image c.buffer (packet_room e);
      }

  slot_concluded : (v : Result (Unit {0}) Refusal) → lowest (slot_rows s c) ≡ v → SlotRefusals s c (conclude_slot s c v)
  slot_concluded (Ok tt) e = slot_served e (next_place s.places s.last) (context_at s.places (next_place s.places s.last)) (next_is_busy e)
  slot_concluded (Err r) e = slot_refused r e

  slot_refusals : SlotRefusals s c (slot_call s c)
  unfolding slot_call
  slot_refusals = slot_concluded (lowest (slot_rows s c)) refl

-- START-UP

-- the state that start-up gives with 17 is not good
no_command_accepted : (c : CommandArgs) → answer_number (command_call no_state c).answer ≡ 1
unfolding command_call command_rows lent_rows lowest good_state start_rules table_rules
no_command_accepted c = refl

no_slot_served : (c : SlotArgs) → answer_number (slot_call no_state c).answer ≡ 1
unfolding slot_call slot_rows lent_rows lowest good_state start_rules table_rules
no_slot_served c = refl

start_refusals : (rs : List Region) (n : ℕ) (pools : List Range) (unit : ℕ) → StartRefusals rs n pools unit
unfolding start_up entries_used
start_refusals rs n pools unit =
    either (start_rules rs n pools unit)
    (λ e.
    record {
      only = inl (rw e);
      ready = rw e (λ z. refl, λ z. refl);
      refused = rw e (λ z. absurd (omega arith), λ z. absurd (contra refl z));
      nothing = rw e (λ z. absurd (omega arith));
      no_command = λ c. rw e (λ z. absurd (omega arith));
      no_slot = λ c. rw e (λ z. absurd (omega arith));
      fresh = rw e (λ z. refl);
    })
    (λ e.
    record {
      only = inr (rw e);
      ready = rw e (λ z. absurd (omega arith), λ z. absurd (contra z refl));
      refused = rw e (λ z. refl, λ z. refl);
      nothing = rw e (λ z. refl);
      no_command = λ c. rw e (λ z. no_command_accepted c);
      no_slot = λ c. rw e (λ z. no_slot_served c);
      fresh = rw e (λ z. absurd (omega arith));
    })

-- THE GROUND

module _ (h : Header) (k : Command) (ws buffer : List ℕ) where
  writer_number : (v : Result (Unit {0}) Refusal) → answer_number (conclude_write h k ws buffer v).answer ≡ verdict_number v
  writer_number (Ok tt) = refl
  writer_number (Err r) = refl

  writer_lowest : Lowest (writer_rows h k buffer) (answer_number (write_command h k ws buffer).answer)
  unfolding write_command
  writer_lowest = rw (writer_number (lowest (writer_rows h k buffer))) (lowest_number (λ i. i) (λ i j e. e) (writer_rows h k buffer) (unfold writer_rows in refl) _ refl)

  writer_keeps : (v : Result (Unit {0}) Refusal) → answer_number (conclude_write h k ws buffer v).answer ≢ 0
      → ((conclude_write h k ws buffer v).buffer ≡ buffer) × (answer_length (conclude_write h k ws buffer v).answer ≡ 0)
  writer_keeps (Ok tt) n = absurd (n refl)
  writer_keeps (Err r) n = (refl, refl)

  writer_stays : (v : Result (Unit {0}) Refusal) → drop (bytes_of k) (conclude_write h k ws buffer v).buffer ≡ drop (bytes_of k) buffer
  writer_stays (Ok tt) =
      let e : length (command_bytes h k ws) ≡ bytes_of k = command_length h k ws ∙ length_of k in
      rw e at (splice_rest buffer (command_bytes h k ws))
  writer_stays (Err r) = refl

  writer_length : (v : Result (Unit {0}) Refusal) → lowest (writer_rows h k buffer) ≡ v → length (conclude_write h k ws buffer v).buffer ≡ length buffer
  unfolding writer_rows
  writer_length (Ok tt) e = command_keeps_length h k ws buffer (ltb-false _ _ (test_passed (writer_rows h k buffer) e 3))
  writer_length (Err r) e = refl

module _ (p : List ℕ) where
  fields_number : (k : Option Command) → is_unknown k ≡ false → reading_number (fields_read p k).reading ≡ 0
  fields_number None e = absurd (contra refl e)
  fields_number (Some k) e = refl

  reader_number : (v : Result (Unit {0}) Refusal) → lowest (reader_rows p) ≡ v → reading_number (conclude_read p v).reading ≡ verdict_number v
  unfolding reader_rows
  reader_number (Ok tt) e = fields_number (decode p) (test_passed (reader_rows p) e 6)
  reader_number (Err r) e = refl

  reader_lowest : Lowest (reader_rows p) (reading_number (read_command p).reading)
  unfolding read_command
  reader_lowest = rw (reader_number (lowest (reader_rows p)) refl) (lowest_number (λ i. i) (λ i j e. e) (reader_rows p) (unfold reader_rows in refl) _ refl)

  reader_keeps : (v : Result (Unit {0}) Refusal) → lowest (reader_rows p) ≡ v → reading_number (conclude_read p v).reading ≢ 0 → (conclude_read p v).words ≡ no_words
  reader_keeps (Ok tt) e n = absurd (n (reader_number (Ok tt) e))
  reader_keeps (Err r) e n = refl

  packet_number_lem : (v : Result (Unit {0}) Refusal) → packet_number (conclude_packet p v).reading ≡ verdict_number v
  packet_number_lem (Ok tt) = refl
  packet_number_lem (Err r) = refl

  packet_lowest : Lowest (packet_rows p) (packet_number (read_packet p).reading)
  unfolding read_packet
  packet_lowest = rw (packet_number_lem (lowest (packet_rows p))) (lowest_number (λ i. i) (λ i j e. e) (packet_rows p) (unfold packet_rows in refl) _ refl)

  packet_keeps : (v : Result (Unit {0}) Refusal) → packet_number (conclude_packet p v).reading ≢ 0 → (conclude_packet p v).part ≡ []
  packet_keeps (Ok tt) n = absurd (n refl)
  packet_keeps (Err r) n = refl

ground_refusals : (h : Header) (k : Command) (ws buffer p : List ℕ) → GroundRefusals h k ws buffer p
unfolding writer_rows write_command reader_rows read_command packet_rows read_packet
ground_refusals h k ws buffer p =
    record {
      writer_numbers = refl;
      writer_cases = writer_cases h k buffer;
      writer = writer_lowest h k ws buffer;
      writer_kept = writer_keeps h k ws buffer (lowest (writer_rows h k buffer));
      writer_lent = writer_length h k ws buffer (lowest (writer_rows h k buffer)) refl;
      writer_rest = writer_stays h k ws buffer (lowest (writer_rows h k buffer));
      reader_numbers = refl;
      reader_cases = reader_cases p;
      reader = reader_lowest p;
      reader_empty = reader_keeps p (lowest (reader_rows p)) refl;
      packet_numbers = refl;
      packet_cases = packet_cases p;
      packet = packet_lowest p;
      packet_empty = packet_keeps p (lowest (packet_rows p));
    }

pub demand_1 : Demand1
demand_1 =
    record {
      command = command_refusals;
      slot = slot_refusals;
      start = start_refusals;
      answers = answer_numbers;
      ground = ground_refusals;
    }
