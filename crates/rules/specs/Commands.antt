-- Paper 01, "Result numbers" and "What each command does", and paper 02, A2 and A5: the command call, from all that is lent to all that is left.
use Rattle.std.specs.Prelude.{Bool, true, false, not, cond, ◌&&◌, List, [], ◌∷◌, ◌++◌, ℕ, ◌+◌, ◌%◌, leb, eqb, length, set, take, Option, Some, None, Result, Ok, Err}
use Rattle.lists.specs.Below.{any_below, first_below}
use Rattle.lists.specs.Splice.{splice}
use Rattle.rules.specs.Regions.{aligned, in_one_region, load_right, dump_right, starts_inside, runs_out, image_index, words_of}
use Rattle.rules.specs.States.{pool_at, context_at, busy_with}
use Rattle.rules.specs.Packets.{well_formed, apid_of, command_apid, decode, packet_length, name_fits, field_rules, zero_rules, requested, command_unit, command_transaction, data_words, name_in}
use Rattle.rules.specs.Values.{address_fits, address_of, value_length, value_bytes}
use Rattle.symbols.specs.Table.{symbol_table, has_name, value_of}
use Rattle.rules.specs.Pools.{Walk, damaged, whole, blocks_of, is_damaged, reply_bytes, reply_length}
use Rattle.rules.specs.Results.{counted, Row, row, lowest, lent_rows}
use Rattle.rules.specs.declared.ActiveDump.{ActiveDump}
use Rattle.rules.specs.declared.Place.{Place}
use Rattle.rules.specs.declared.Range.{Range}
use Rattle.rules.specs.declared.Context.{Context}
use Rattle.rules.specs.declared.Context.TheVariants.{Idle, Busy}
use Rattle.rules.specs.declared.Returned.{Returned}
use Rattle.rules.specs.declared.State.{State}
use Rattle.rules.specs.declared.Command.{Command}
use Rattle.rules.specs.declared.Command.TheVariants.{Dump, Cancel, Load, PoolStatistics, SymbolValue, DumpSymbol}
use Rattle.rules.specs.declared.SymbolRequest.{SymbolRequest}
use Rattle.rules.specs.declared.Task.{Task}
use Rattle.rules.specs.declared.Task.TheVariants.{Nothing, DumpRange, CancelDump, LoadRange, CountPool, TellValue}
use Rattle.rules.specs.declared.Refusal.{Refusal}
use Rattle.rules.specs.declared.Refusal.TheVariants.{Malformed, OtherApid, UnknownCode, PacketLength, OtherUnit, BadField, OutsideRegions, NoRight, TransactionBusy, PlacesBusy, NotBusy, PoolDamaged, BadTable, UnknownSymbol, RunsOut}
use Rattle.rules.specs.declared.Written.{Written}

-- what a command call is lent beside the state
pub record CommandArgs : Type 0 where
  pub packet : List ℕ
  pub symbols : List ℕ
  pub image : List ℕ
  pub reply : List ℕ

-- what a call answers, and all that it leaves: the state, the image and its buffer
pub record Outcome : Type 0 where
  pub answer : Result Written Refusal
  pub state : State
  pub image : List ℕ
  pub buffer : List ℕ

-- what a call returns beside the image and the buffer that it leaves
abbrev pub returned : Outcome → Returned
returned o = record { answer = o.answer; state = o.state }

-- WHAT A COMMAND ASKS FOR

-- the range of a dump by name: from the address that its symbol's value and its offset give
abbrev pub range_by : List ℕ → List ℕ → SymbolRequest → Range
range_by symbols name q = record { start = record { 0 = address_of (value_of symbols name) q.offset }; words = q.size }

-- a command's task: a dump by name is the dump of the range that its name resolves to
abbrev pub task_of : List ℕ → List ℕ → Option Command → Task
task_of symbols name None = Nothing
task_of symbols name (Some (Dump q)) = DumpRange (requested q)
task_of symbols name (Some Cancel) = CancelDump
task_of symbols name (Some (Load q)) = LoadRange (requested q)
task_of symbols name (Some (PoolStatistics i)) = CountPool i
task_of symbols name (Some (SymbolValue n)) = TellValue (value_of symbols name)
task_of symbols name (Some (DumpSymbol q)) = DumpRange (range_by symbols name q)

unfoldable pub task : CommandArgs → Task
task c = task_of c.symbols (name_in c.packet) (decode c.packet)

-- THE TESTS, one for each number that only some commands can get

-- 6: unknown function code
abbrev pub is_unknown : Option Command → Bool
is_unknown None = true
is_unknown (Some k) = false

-- 7: packet length wrong for its code
abbrev pub wrong_length : List ℕ → Option Command → Bool
wrong_length p None = false
wrong_length p (Some k) = not (eqb (length p) (packet_length k))

-- a command that names a symbol
abbrev pub names_symbol : Option Command → Bool
names_symbol None = false
names_symbol (Some (Dump q)) = false
names_symbol (Some Cancel) = false
names_symbol (Some (Load q)) = false
names_symbol (Some (PoolStatistics i)) = false
names_symbol (Some (SymbolValue n)) = true
names_symbol (Some (DumpSymbol q)) = true

-- 17: a symbol is named, and the symbol table is none
abbrev pub no_table : List ℕ → Option Command → Bool
no_table symbols d = names_symbol d && not (symbol_table symbols)

-- the first 9. The size of a dump by name is not tested here, but with its address.
abbrev pub layout_rules : List ℕ → Command → Bool
layout_rules p (Dump q) = field_rules (Dump q)
layout_rules p Cancel = field_rules Cancel
layout_rules p (Load q) = field_rules (Load q)
layout_rules p (PoolStatistics i) = field_rules (PoolStatistics i)
layout_rules p (SymbolValue n) = name_fits n && zero_rules p (SymbolValue n)
layout_rules p (DumpSymbol q) = name_fits q.name && zero_rules p (DumpSymbol q)

abbrev pub wrong_field : List ℕ → Option Command → Bool
wrong_field p None = false
wrong_field p (Some k) = not (layout_rules p k)

-- 18: the table has no such name
abbrev pub unknown_name : List ℕ → List ℕ → Option Command → Bool
unknown_name symbols name d = names_symbol d && not (has_name symbols name)

-- the second 9, of a dump by name: an address below 0 or at 2^32 and up, or not a multiple of 4; size 0
abbrev pub wrong_range : List ℕ → List ℕ → Option Command → Bool
wrong_range symbols name None = false
wrong_range symbols name (Some (Dump q)) = false
wrong_range symbols name (Some Cancel) = false
wrong_range symbols name (Some (Load q)) = false
wrong_range symbols name (Some (PoolStatistics i)) = false
wrong_range symbols name (Some (SymbolValue n)) = false
wrong_range symbols name (Some (DumpSymbol q)) =
    not (address_fits (value_of symbols name) q.offset && aligned (range_by symbols name q) && leb 1 q.size)

-- 10: the range's first word is in no region, or no such pool
abbrev pub outside : State → Task → Bool
outside s Nothing = false
outside s (DumpRange r) = not (starts_inside s.regions s.count r)
outside s CancelDump = false
outside s (LoadRange r) = not (starts_inside s.regions s.count r)
outside s (CountPool i) = eqb (pool_at s.pools i).words 0
outside s (TellValue v) = false

-- 19: the range starts inside a region and runs out of it
abbrev pub past_end : State → Task → Bool
past_end s Nothing = false
past_end s (DumpRange r) = runs_out s.regions s.count r
past_end s CancelDump = false
past_end s (LoadRange r) = runs_out s.regions s.count r
past_end s (CountPool i) = false
past_end s (TellValue v) = false

-- 11: region lacks the right
abbrev pub lacks_right : State → Task → Bool
lacks_right s Nothing = false
lacks_right s (DumpRange r) = not (in_one_region dump_right s.regions s.count r)
lacks_right s CancelDump = false
lacks_right s (LoadRange r) = not (in_one_region load_right s.regions s.count r)
lacks_right s (CountPool i) = false
lacks_right s (TellValue v) = false

-- a place is busy with the transaction number t
unfoldable pub any_with : ℕ → List Place → Bool
any_with t ps = any_below (λ i. busy_with t (context_at ps i)) 4

abbrev pub is_idle : Context → Bool
is_idle Idle = true
is_idle (Busy d) = false

unfoldable pub any_idle : List Place → Bool
any_idle ps = any_below (λ i. is_idle (context_at ps i)) 4

-- 12: dump: transaction number already busy
abbrev pub number_taken : State → ℕ → Task → Bool
number_taken s t Nothing = false
number_taken s t (DumpRange r) = any_with t s.places
number_taken s t CancelDump = false
number_taken s t (LoadRange r) = false
number_taken s t (CountPool i) = false
number_taken s t (TellValue v) = false

-- 13: dump: four places busy
abbrev pub no_place : State → Task → Bool
no_place s Nothing = false
no_place s (DumpRange r) = not (any_idle s.places)
no_place s CancelDump = false
no_place s (LoadRange r) = false
no_place s (CountPool i) = false
no_place s (TellValue v) = false

-- 14: cancel: no busy dump has that number
abbrev pub no_such_dump : State → ℕ → Task → Bool
no_such_dump s t Nothing = false
no_such_dump s t (DumpRange r) = false
no_such_dump s t CancelDump = not (any_with t s.places)
no_such_dump s t (LoadRange r) = false
no_such_dump s t (CountPool i) = false
no_such_dump s t (TellValue v) = false

-- the words of pool i, as the image holds them
abbrev pub pool_words : State → ℕ → List ℕ → List ℕ
pool_words s i image = words_of s.regions s.count (pool_at s.pools i) image

-- 15: pool blocks damaged
abbrev pub pool_damaged : State → List ℕ → Task → Bool
pool_damaged s image Nothing = false
pool_damaged s image (DumpRange r) = false
pool_damaged s image CancelDump = false
pool_damaged s image (LoadRange r) = false
pool_damaged s image (CountPool i) = is_damaged (blocks_of (pool_words s i image))
pool_damaged s image (TellValue v) = false

-- a command call's rows of the table of result numbers, in the order of its tests: 1 to 8, 17, 9, 18, 9 again, 10, 19, and 11 to 15
unfoldable pub command_rows : State → CommandArgs → List Row
command_rows s c =
    lent_rows s c.image reply_length c.reply
    ++ row Malformed (not (well_formed c.packet))
    ∷ row OtherApid (not (eqb (apid_of c.packet) command_apid))
    ∷ row UnknownCode (is_unknown (decode c.packet))
    ∷ row PacketLength (wrong_length c.packet (decode c.packet))
    ∷ row OtherUnit (not (eqb (command_unit c.packet) s.unit))
    ∷ row BadTable (no_table c.symbols (decode c.packet))
    ∷ row BadField (wrong_field c.packet (decode c.packet))
    ∷ row UnknownSymbol (unknown_name c.symbols (name_in c.packet) (decode c.packet))
    ∷ row BadField (wrong_range c.symbols (name_in c.packet) (decode c.packet))
    ∷ row OutsideRegions (outside s (task c))
    ∷ row RunsOut (past_end s (task c))
    ∷ row NoRight (lacks_right s (task c))
    ∷ row TransactionBusy (number_taken s (command_transaction c.packet) (task c))
    ∷ row PlacesBusy (no_place s (task c))
    ∷ row NotBusy (no_such_dump s (command_transaction c.packet) (task c))
    ∷ row PoolDamaged (pool_damaged s c.image (task c))
    ∷ []

-- THE EFFECTS

-- a state with other places, packet counts of the replies and the values, and counts of commands; the rest as it was
abbrev pub changed : State → List Place → ℕ → ℕ → ℕ → ℕ → State
changed s places replies values accepted refused =
    record {
      regions = s.regions;
      count = s.count;
      pools = s.pools;
      unit = s.unit;
      places = places;
      last = s.last;
      replies = replies;
      values = values;
      packets = s.packets;
      accepted = accepted;
      refused = refused;
    }

-- one more command accepted, and one more refused, both modulo 65,536
abbrev pub accepted_more : State → ℕ
accepted_more s = (s.accepted + 1) % 65536

abbrev pub refused_more : State → ℕ
refused_more s = (s.refused + 1) % 65536

-- a refusal: image and reply stay, and of the state at most the refused count changes
abbrev pub refused_command : State → CommandArgs → Refusal → Outcome
refused_command s c r =
    record {
      answer = Err r;
      state = cond (counted r) (changed s s.places s.replies s.values s.accepted (refused_more s)) s;
      image = c.image;
      buffer = c.reply;
    }

-- the lowest-numbered idle place, and the lowest-numbered place busy with the number t
unfoldable pub first_idle : List Place → ℕ
first_idle ps = first_below (λ i. is_idle (context_at ps i)) 4

unfoldable pub first_with : ℕ → List Place → ℕ
first_with t ps = first_below (λ i. busy_with t (context_at ps i)) 4

-- the places with what place i does changed
abbrev pub set_context : List Place → ℕ → Context → List Place
set_context ps i a = set ps i (record { context = a })

-- a dump of which nothing was sent yet
abbrev pub new_dump : ℕ → Range → ActiveDump
new_dump t r = record { transaction = t; range = r; sent = 0 }

-- the reply to pool statistics, whose packet count is then raised modulo 16,384
abbrev pub replied : State → CommandArgs → ℕ → Walk → Outcome
replied s c i damaged = refused_command s c PoolDamaged
replied s c i (whole bs) =
    record {
      answer = Ok (record { length = reply_length });
      state = changed s s.places ((s.replies + 1) % 16384) s.values (accepted_more s) s.refused;
      image = c.image;
      buffer = splice c.reply 0 (reply_bytes s.replies s.unit (command_transaction c.packet) i bs);
    }

-- the reply that tells a symbol's value, whose packet count is then raised modulo 16,384
abbrev pub told : State → CommandArgs → ℕ → Outcome
told s c v =
    record {
      answer = Ok (record { length = value_length });
      state = changed s s.places s.replies ((s.values + 1) % 16384) (accepted_more s) s.refused;
      image = c.image;
      buffer = splice c.reply 0 (value_bytes s.values s.unit (command_transaction c.packet) v);
    }

-- what a command does whose tests all passed
abbrev pub carry_out : State → CommandArgs → Task → Outcome
carry_out s c Nothing = refused_command s c UnknownCode
carry_out s c (DumpRange r) =
    record {
      answer = Ok (record { length = 0 });
      state =
          changed s
          (set_context s.places (first_idle s.places) (Busy (new_dump (command_transaction c.packet) r)))
          s.replies s.values (accepted_more s) s.refused;
      image = c.image;
      buffer = c.reply;
    }
carry_out s c CancelDump =
    record {
      answer = Ok (record { length = 0 });
      state =
          changed s (set_context s.places (first_with (command_transaction c.packet) s.places) Idle)
          s.replies s.values (accepted_more s) s.refused;
      image = c.image;
      buffer = c.reply;
    }
carry_out s c (LoadRange r) =
    record {
      answer = Ok (record { length = 0 });
      state = changed s s.places s.replies s.values (accepted_more s) s.refused;
      image = splice c.image (image_index s.regions s.count r).0 (take r.words (data_words c.packet));
      buffer = c.reply;
    }
carry_out s c (CountPool i) = replied s c i (blocks_of (pool_words s i c.image))
carry_out s c (TellValue v) = told s c v

abbrev pub conclude : State → CommandArgs → Result (Unit {0}) Refusal → Outcome
conclude s c (Err r) = refused_command s c r
conclude s c (Ok tt) = carry_out s c (task c)

-- THE COMMAND CALL
unfoldable pub command_call : State → CommandArgs → Outcome
command_call s c = conclude s c (lowest (command_rows s c))
