-- A command is accepted exactly if each test of the table of result numbers passes, and is then carried out.
-- Assumes nothing.
use Rattle.std.specs.Prelude.{Option, Some, None, Result, Ok, Err}
use mathlib.Core.Path.{◌≡◌, refl, ap}
use mathlib.Core.Bool.{true, false, not}
use mathlib.Core.List.{List, [], ◌∷◌}
use Prim.Native.Nat.{ℕ, zero, suc, ◌≤◌}
use native.Mathlib.Omega.{arith}
use lib.ListN.{length, take, drop}
use borrow.Author.Tests.{ltb-false, le-ltb, eqb-true, eq-eqb, not-false}
use Rattle.lists.proofs.Tests.{either, contra}
use Rattle.rules.specs.Regions.{any_right, in_one_region, starts_inside, runs_out, image_length}
use Rattle.rules.specs.States.{good_state}
use Rattle.rules.specs.Packets.{well_formed, decode, name_in, apid_of, command_unit, command_transaction}
use Rattle.rules.specs.Pools.{Block, Walk, damaged, whole, blocks_of, is_damaged}
use Rattle.rules.specs.Results.{answer_number, verdict_number, Row, lowest, lent_rows}
use Rattle.rules.specs.Commands.{CommandArgs, task_of, task, is_unknown, wrong_length, no_table, wrong_field, unknown_name, wrong_range, outside, past_end, lacks_right, number_taken, no_place, no_such_dump, pool_damaged, pool_words, command_rows, carry_out, conclude, command_call}
use Rattle.rules.specs.Demand2.{IsAccepted}
use Rattle.rules.specs.declared.State.{State}
use Rattle.rules.specs.declared.Command.TheVariants.{Dump, Cancel, Load, PoolStatistics, SymbolValue, DumpSymbol}
use Rattle.rules.specs.declared.Range.{Range}
use Rattle.rules.specs.declared.Region.{Region}
use Rattle.rules.proofs.LowestNumber.{number_some}
use Rattle.rules.specs.declared.Refusal.{Refusal}
use Rattle.rules.specs.declared.Command.{Command}

-- THE TABLE

-- no row applies
abbrev pub NoneApplies : List Row → Type 0
NoneApplies [] = Unit {0}
NoneApplies (r ∷ rs) = (r.applies ≡ false) × NoneApplies rs

-- one row and the rows after it
infixr 30 ◌&◌
◌&◌ : {A B : Type 0} → A → B → A × B
a & b = (a, b)

pub lowest_none : (rows : List Row) → lowest rows ≡ (Ok tt) → NoneApplies rows
unfolding lowest
lowest_none [] h = tt
lowest_none (r ∷ rs) h =
    either r.applies
    (λ e. let k : Err r.refusal ≡ (Ok tt) = rw e at h in let z : ◌≡◌ {A = ℕ} 0 1 = cc in absurd (omega arith))
    (λ e. (e, lowest_none rs (rw e at h)))

pub none_lowest : (rows : List Row) → NoneApplies rows → lowest rows ≡ (Ok tt)
unfolding lowest
none_lowest [] h = refl
none_lowest (r ∷ rs) h = rw h.0 (none_lowest rs h.1)

-- none of the first k, and none of the rest
none_join : (k : ℕ) (rows : List Row) → NoneApplies (take k rows) → NoneApplies (drop k rows) → NoneApplies rows
none_join zero rows f h = h
none_join (suc k) [] f h = tt
none_join (suc k) (r ∷ rs) f h = (f.0, none_join k rs f.1 h)

pub lowest_past : (k : ℕ) (rows : List Row) → NoneApplies (take k rows) → lowest rows ≡ lowest (drop k rows)
unfolding lowest
lowest_past zero rows f = refl
lowest_past (suc k) [] f = refl
lowest_past (suc k) (r ∷ rs) f = rw f.0 (lowest_past k rs f.1)

-- THE TESTS THAT A COMMAND PASSED

-- those that look at its packet and its symbol
pub record Laid (c : CommandArgs) (d : Option Command) : Type 0 where
  pub known : is_unknown d ≡ false
  pub bytes : wrong_length c.packet d ≡ false
  pub table : no_table c.symbols d ≡ false
  pub fields : wrong_field c.packet d ≡ false
  pub named : unknown_name c.symbols (name_in c.packet) d ≡ false
  pub range : wrong_range c.symbols (name_in c.packet) d ≡ false

-- and those that look at its task
pub record Tested (s : State) (c : CommandArgs) (d : Option Command) : Type 0 where
  pub laid : Laid c d
  pub inside : outside s (task_of c.symbols (name_in c.packet) d) ≡ false
  pub whole : past_end s (task_of c.symbols (name_in c.packet) d) ≡ false
  pub right : lacks_right s (task_of c.symbols (name_in c.packet) d) ≡ false
  pub new : number_taken s (command_transaction c.packet) (task_of c.symbols (name_in c.packet) d) ≡ false
  pub place : no_place s (task_of c.symbols (name_in c.packet) d) ≡ false
  pub busy : no_such_dump s (command_transaction c.packet) (task_of c.symbols (name_in c.packet) d) ≡ false
  pub blocks : pool_damaged s c.image (task_of c.symbols (name_in c.packet) d) ≡ false

pub record Passed (s : State) (c : CommandArgs) : Type 0 where
  pub good : good_state s ≡ true
  pub image : length c.image ≡ image_length s.regions s.count
  pub reply : 32 ≤ length c.reply
  pub shape : well_formed c.packet ≡ true
  pub apid : apid_of c.packet ≡ 1604
  pub unit : command_unit c.packet ≡ s.unit
  pub tests : Tested s c (decode c.packet)

module _ (s : State) (c : CommandArgs) where
  rows_out : NoneApplies (command_rows s c) → Passed s c
  unfolding command_rows lent_rows task
  rows_out (good, (image, (reply, (shape, (apid, (known, (bytes, (unit, (table, (fields, (named, (range, (inside, (stays, (right, (new, (place, (busy, (blocks, end))))))))))))))))))) =
      record {
        good = not-false _ good;
        image = eqb-true _ _ (not-false _ image);
        reply = ltb-false _ _ reply;
        shape = not-false _ shape;
        apid = eqb-true _ _ (not-false _ apid);
        unit = eqb-true _ _ (not-false _ unit);
        tests =
            record {
              laid = record { known = known; bytes = bytes; table = table; fields = fields; named = named; range = range };
              inside = inside;
              whole = stays;
              right = right;
              new = new;
              place = place;
              busy = busy;
              blocks = blocks;
            };
      }

  -- the rows up to the second 9
  pub opened : good_state s ≡ true → length c.image ≡ image_length s.regions s.count → 32 ≤ length c.reply → well_formed c.packet ≡ true
      → apid_of c.packet ≡ 1604 → command_unit c.packet ≡ s.unit → Laid c (decode c.packet) → NoneApplies (take 12 (command_rows s c))
  unfolding command_rows lent_rows
  opened good image reply shape apid unit laid =
      ap not good
      & ap not (eq-eqb _ _ image)
      & le-ltb _ _ reply
      & ap not shape
      & ap not (eq-eqb _ _ apid)
      & laid.known
      & laid.bytes
      & ap not (eq-eqb _ _ unit)
      & laid.table
      & laid.fields
      & laid.named
      & laid.range
      & tt

  rows_in : Passed s c → NoneApplies (command_rows s c)
  unfolding command_rows lent_rows task
  rows_in p =
      none_join 12 (command_rows s c)
      (opened p.good p.image p.reply p.shape p.apid p.unit p.tests.laid)
      (p.tests.inside & p.tests.whole & p.tests.right & p.tests.new & p.tests.place & p.tests.busy & p.tests.blocks & tt)

-- THE ANSWER

-- a range that passed 10 and 19 lies whole in a region
pub whole_passed : (rs : List Region) (n : ℕ) (a : Range) → not (starts_inside rs n a) ≡ false → runs_out rs n a ≡ false → in_one_region any_right rs n a ≡ true
whole_passed rs n a starts past =
    either (in_one_region any_right rs n a) (λ e. e) (λ e. absurd (contra {b = runs_out rs n a} (rw (not-false (starts_inside rs n a) starts, e)) past))

-- blocks that are not damaged
pub undamaged : (w : Walk) → is_damaged w ≡ false → (bs : List Block) × (w ≡ whole bs)
undamaged damaged h = absurd (contra refl h)
undamaged (whole bs) h = (bs, refl)

module _ (s : State) (c : CommandArgs) where
  -- an answer of 0 is no refusal
  concluded : (v : Result (Unit {0}) Refusal) → answer_number (conclude s c v).answer ≡ 0 → v ≡ (Ok tt)
  concluded (Ok tt) h = refl
  concluded (Err r) h = let l = number_some r in absurd (omega arith)

  -- a command whose tests passed is answered 0 when it is carried out
  carried_out : (d : Option Command) → Tested s c d → answer_number (carry_out s c (task_of c.symbols (name_in c.packet) d)).answer ≡ 0
  carried_out None t = absurd (contra refl t.laid.known)
  carried_out (Some (Dump q)) t = refl
  carried_out (Some Cancel) t = refl
  carried_out (Some (Load q)) t = refl
  carried_out (Some (PoolStatistics i)) t = let u = undamaged (blocks_of (pool_words s i c.image)) t.blocks in rw u.1
  carried_out (Some (SymbolValue n)) t = refl
  carried_out (Some (DumpSymbol q)) t = refl

  accepted_lowest : IsAccepted s c → lowest (command_rows s c) ≡ (Ok tt)
  unfolding command_call
  accepted_lowest h = concluded (lowest (command_rows s c)) h

  lowest_call : lowest (command_rows s c) ≡ (Ok tt)
      → command_call s c ≡ carry_out s c (task_of c.symbols (name_in c.packet) (decode c.packet))
  unfolding command_call task
  lowest_call h = ap (conclude s c) h

  concluded_number : (v : Result (Unit {0}) Refusal) → lowest (command_rows s c) ≡ v → answer_number (conclude s c v).answer ≡ verdict_number v
  unfolding task
  concluded_number (Ok tt) e = carried_out (decode c.packet) (rows_out s c (lowest_none _ e)).tests
  concluded_number (Err r) e = refl

  -- the number of the first row that applies, and 0 if none does
  pub answer_number_lem : answer_number (command_call s c).answer ≡ verdict_number (lowest (command_rows s c))
  unfolding command_call
  answer_number_lem = concluded_number (lowest (command_rows s c)) refl

  -- a command of which no row applies passed its tests
  pub tests_passed : lowest (command_rows s c) ≡ (Ok tt) → Tested s c (decode c.packet)
  tests_passed h = (rows_out s c (lowest_none _ h)).tests

  pub passed_out : IsAccepted s c → Passed s c
  passed_out h = rows_out s c (lowest_none _ (accepted_lowest h))

  pub passed_in : Passed s c → IsAccepted s c
  passed_in p = rw (lowest_call (none_lowest _ (rows_in s c p))) (carried_out (decode c.packet) p.tests)

  -- an accepted command is carried out
  pub accepted_call : IsAccepted s c → command_call s c ≡ carry_out s c (task_of c.symbols (name_in c.packet) (decode c.packet))
  accepted_call h = lowest_call (accepted_lowest h)

  -- the tests of an accepted command, where its command is known
  pub tests_of : (d : Option Command) → decode c.packet ≡ d → IsAccepted s c → Tested s c d
  tests_of d e h = rw e at (passed_out h).tests
