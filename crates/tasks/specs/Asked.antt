-- What a command asks for whose packet passed numbers 4 to 8: its task, or the number that it gets next.
use Rattle.std.specs.Prelude.{Bool, cond, ◌&&◌, List, ℕ, ◌-◌, ◌%◌, leb, ltb, eqb, Option, Some, None, Result, Ok, Err}
use Rattle.symbols.specs.Table.{symbol_table, has_name, value_of}
use Rattle.rules.specs.Packets.{name_in, decode, packet_length}
use Rattle.packet.specs.Frame.{headed_of, checked_by}
use Rattle.rules.specs.Commands.{task_of, no_table, layout_rules, unknown_name, wrong_range}
use Rattle.rules.specs.declared.Command.{Command}
use Rattle.rules.specs.declared.Refusal.TheVariants.{BadTable, BadField, UnknownSymbol, UnknownCode}
use Rattle.rules.specs.declared.Task.{Task}
use Rattle.rules.specs.declared.Task.TheVariants.{DumpRange}
use Rattle.rules.specs.declared.Refusal.{Refusal}

-- 17, 9, 18 and 9 again, in this order, or the task
unfoldable pub asked_of : List ℕ → List ℕ → Command → Result Task Refusal
asked_of symbols p k =
    cond (no_table symbols (Some k)) (Err BadTable)
    (cond (layout_rules p k)
    (cond (unknown_name symbols (name_in p) (Some k)) (Err UnknownSymbol)
    (cond (wrong_range symbols (name_in p) (Some k)) (Err BadField) (Ok (task_of symbols (name_in p) (Some k)))))
    (Err BadField))

-- what numbers 7 and 8 say, or what is asked
abbrev pub if_passed : Result (Unit {0}) Refusal → Result Task Refusal → Result Task Refusal
if_passed (Err r) s = Err r
if_passed (Ok tt) s = s

-- 6, or 7 and 8 by the length of the command that the function code names, and then what it asks for
abbrev pub picked_by : List ℕ → ℕ → List ℕ → Option Command → Result Task Refusal
picked_by p unit symbols None = Err UnknownCode
picked_by p unit symbols (Some k) = if_passed (checked_by p unit (packet_length k)) (asked_of symbols p k)

-- 4 to 9, 17 and 18, or what a packet asks for
unfoldable pub sought_in : List ℕ → ℕ → List ℕ → Result Task Refusal
sought_in p unit symbols = if_passed (headed_of p) (picked_by p unit symbols (decode p))

-- THE STEPS

-- a symbol is named, in a packet whose layout is right or not: 17, 9, 18 or its value
abbrev pub named_by : List ℕ → List ℕ → Bool → Result ℕ Refusal
named_by symbols name right =
    cond (symbol_table symbols)
    (cond right (cond (has_name symbols name) (Ok (value_of symbols name)) (Err UnknownSymbol)) (Err BadField))
    (Err BadTable)

-- what a name resolves to in a packet whose layout is right, or 9
abbrev pub named_if : Bool → Result ℕ Refusal → Result ℕ Refusal
named_if right n = cond right n (Err BadField)

-- `size` words from an address that has 2^32 added: their dump, or 9
abbrev pub dump_from : ℕ → ℕ → Result Task Refusal
dump_from moved size =
    cond (leb 4294967296 moved && ltb moved 8589934592 && eqb ((moved - 4294967296) % 4) 0 && leb 1 size)
    (Ok (DumpRange (record { start = record { 0 = moved - 4294967296 }; words = size })))
    (Err BadField)

-- a task whose fields are right, or 9
abbrev pub if_right : Bool → Task → Result Task Refusal
if_right right t = cond right (Ok t) (Err BadField)
