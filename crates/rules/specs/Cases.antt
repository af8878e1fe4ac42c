-- The cases of the table of result numbers in logic (paper 01, "Result numbers" and "Ground reader and writer"; paper 02, A2 and A5): for each number
-- that a call can give, when its row does not apply, or when it does. Demand 1 says that the rows of Commands.antt, Slots.antt and Ground.antt are these.
use Rattle.std.specs.Prelude.{◌≡◌, ◌≢◌, ◌↔◌, Bool, true, false, ◌&&◌, ◌||◌, List, [], ◌∷◌, ℕ, zero, suc, ◌+◌, ◌*◌, ◌-◌, ◌%◌, ◌≤◌, ◌<◌, min, eqb, length, take, drop}
use Rattle.wire.specs.Bytes.{AreBytes, be_at}
use Rattle.wire.specs.ByByte.{byte, two, four}
use Rattle.wire.specs.Xor.{xor_all}
use Rattle.rules.specs.Regions.{start_of, image_length}
use Rattle.rules.specs.States.{pool_at, context_at, busy_with, good_state}
use Rattle.rules.specs.GoodWhen.{LiesIn, StartsIn, DumpableIn}
use Rattle.rules.specs.Packets.{version_of, type_of, second_header_of, sequence_flags_of, length_field_of, zero_bit_of, function_code_of, apid_of, command_unit, command_transaction, request_of, requested}
use Rattle.rules.specs.Pools.{Block, Tiles}
use Rattle.rules.specs.Results.{number, Row}
use Rattle.rules.specs.Values.{Reached}
use Rattle.symbols.specs.Table.{IsTable, Named}
use Rattle.rules.specs.Commands.{CommandArgs, pool_words}
use Rattle.rules.specs.Slots.{SlotArgs}
use Rattle.rules.specs.declared.Command.{Command}
use Rattle.rules.specs.declared.Command.TheVariants.{Dump, Cancel, Load, PoolStatistics, SymbolValue, DumpSymbol}
use Rattle.rules.specs.declared.Context.TheVariants.{Idle}
use Rattle.rules.specs.declared.Header.{Header}
use Rattle.rules.specs.declared.Range.{Range}
use Rattle.rules.specs.declared.Region.{Region}
use Rattle.rules.specs.declared.State.{State}

-- the case of number k is there
abbrev pub applies : ℕ → List Row → Bool
applies k [] = false
applies k (r ∷ rs) = (eqb (number r.refusal) k && r.applies) || applies k rs

-- the case at place i of the rows is there, whatever its number
abbrev pub applies_at : ℕ → List Row → Bool
applies_at i [] = false
applies_at zero (r ∷ rs) = r.applies
applies_at (suc i) (r ∷ rs) = applies_at i rs

abbrev pub one_of : ℕ → List ℕ → Bool
one_of k [] = false
one_of k (x ∷ xs) = eqb k x || one_of k xs

-- the layout of every command packet: what number 4 asks
pub record Formed (p : List ℕ) : Type 0 where
  pub bytes : 8 ≤ length p
  pub version : version_of p ≡ 0
  pub type : type_of p ≡ 1
  pub second_header : second_header_of p ≡ 1
  pub sequence_flags : sequence_flags_of p ≡ 3
  pub length_field : length_field_of p + 7 ≡ length p
  pub zero_bit : zero_bit_of p ≡ 0
  pub check : xor_all p ≡ 255

-- the range that a dump or a load packet asks for, and the pool that a pool statistics packet asks for
abbrev pub range_of : List ℕ → Range
range_of p = requested (request_of p)

abbrev pub pool_of : List ℕ → ℕ
pool_of p = be_at 2 p 10

-- the name that a packet has, and the range that a dump by name asks for if it reaches address a
abbrev pub name_from : List ℕ → List ℕ
name_from p = take (byte p 10) (drop 12 p)

abbrev pub range_from : List ℕ → ℕ → Range
range_from p a = record { start = record { 0 = a }; words = two p 64 }

module _ (rows : List Row) where
  -- number k passes exactly if P; it never applies
  abbrev pub Passes : ℕ → Type 0 → Type 0
  Passes k P = (applies k rows ≡ false) ↔ P

  abbrev pub Never : ℕ → Type 0
  Never k = applies k rows ≡ false

  -- the case of number k is there exactly if P
  abbrev pub Applies : ℕ → Type 0 → Type 0
  Applies k P = (applies k rows ≡ true) ↔ P

  -- the test at place i of the rows, from 0, passes exactly if P
  abbrev pub PassesAt : ℕ → Type 0 → Type 0
  PassesAt i P = (applies_at i rows ≡ false) ↔ P

-- WHAT IS LENT: numbers 1, 2 and 3 of a call whose buffer must have `size` bytes

pub record LentCases (rows : List Row) (s : State) (image : List ℕ) (size : ℕ) (buffer : List ℕ) : Type 0 where
  pub state : Passes rows 1 (good_state s ≡ true)
  pub as_long : Passes rows 2 (length image ≡ image_length s.regions s.count)
  pub room : Passes rows 3 (size ≤ length buffer)

-- A COMMAND PACKET: numbers 4 to 7, and 9 of a command that names no symbol, which the command call and the command reader give in the same cases

pub record LayoutCases (rows : List Row) (p : List ℕ) : Type 0 where
  pub formed : Passes rows 4 (Formed p)
  pub apid : Passes rows 5 (apid_of p ≡ 1604)
  pub code : Passes rows 6 (one_of (function_code_of p) (0 ∷ 1 ∷ 4 ∷ 7 ∷ 8 ∷ 9 ∷ []) ≡ true)
  pub dump : function_code_of p ≡ 0
      → Passes rows 7 (length p ≡ 16) × Passes rows 9 ((start_of (range_of p) % 4 ≡ 0) × (1 ≤ (range_of p).words))
  pub cancel : function_code_of p ≡ 1 → Passes rows 7 (length p ≡ 10) × Never rows 9
  pub load : function_code_of p ≡ 4
      → Passes rows 7 (length p ≡ 60) × Passes rows 9 ((start_of (range_of p) % 4 ≡ 0) × (1 ≤ (range_of p).words) × ((range_of p).words ≤ 11))
  pub pool : function_code_of p ≡ 7 → Passes rows 7 (length p ≡ 12) × Passes rows 9 (pool_of p ≤ 1)
  pub value : function_code_of p ≡ 8 → Passes rows 7 (length p ≡ 60)
  pub by_name : function_code_of p ≡ 9 → Passes rows 7 (length p ≡ 68)

-- what number 9 asks of the name's size and the pad
abbrev pub NameAllowed : List ℕ → Type 0
NameAllowed p = (1 ≤ byte p 10) × (byte p 10 ≤ 48) × (byte p 11 ≡ 0)

-- THE COMMAND READER: beside those, number 9 of a command that names a symbol

pub record ReaderCases (rows : List Row) (p : List ℕ) : Type 0 where
  pub layout : LayoutCases rows p
  pub value : function_code_of p ≡ 8 → Passes rows 9 (NameAllowed p)
  pub by_name : function_code_of p ≡ 9 → Passes rows 9 (NameAllowed p × (two p 66 ≡ 0) × (1 ≤ two p 64))

-- THE COMMAND CALL: beside those, number 8, and by function code 10 to 15, 17, 18, 19, and 9 of a command that names a symbol

-- a transaction number that no place is busy with, and one that some place is
abbrev pub NumberFree : State → List ℕ → Type 0
NumberFree s p = (i : ℕ) → i < 4 → busy_with (command_transaction p) (context_at s.places i) ≡ false

abbrev pub NumberBusy : State → List ℕ → Type 0
NumberBusy s p = (i : ℕ) × (i < 4) × (busy_with (command_transaction p) (context_at s.places i) ≡ true)

abbrev pub PlaceFree : State → Type 0
PlaceFree s = (i : ℕ) × (i < 4) × (context_at s.places i ≡ Idle)

-- how a range misses: no region in use holds its first word; one does, and none holds the range whole
abbrev pub Outside : State → Range → Type 0
Outside s r = (i : ℕ) → StartsIn s.regions s.count r i → ⊥

abbrev pub RunningOut : State → Range → Type 0
RunningOut s r = ((i : ℕ) × StartsIn s.regions s.count r i) × ((i : ℕ) → LiesIn (λ (g : Region). true) s.regions s.count r i → ⊥)

-- a range of a word or more passes both exactly if a region in use holds it whole
abbrev pub PassesBoth : List Row → State → Range → Type 0
PassesBoth rows s r =
    1 ≤ r.words → ((applies 10 rows ≡ false) × (applies 19 rows ≡ false)) ↔ ((i : ℕ) × LiesIn (λ (g : Region). true) s.regions s.count r i)

-- a dump of the range r
pub record DumpCases (rows : List Row) (s : State) (p : List ℕ) (r : Range) : Type 0 where
  pub outside : Applies rows 10 (Outside s r)
  pub runs_out_lem : Applies rows 19 (RunningOut s r)
  pub whole : PassesBoth rows s r
  pub right : Passes rows 11 (DumpableIn s.regions s.count r)
  pub transaction : Passes rows 12 (NumberFree s p)
  pub place : Passes rows 13 (PlaceFree s)
  pub others : Never rows 14 × Never rows 15

pub record CancelCases (rows : List Row) (s : State) (p : List ℕ) : Type 0 where
  pub transaction : Passes rows 14 (NumberBusy s p)
  pub others : Never rows 10 × Never rows 11 × Never rows 12 × Never rows 13 × Never rows 15 × Never rows 19

pub record LoadCases (rows : List Row) (s : State) (p : List ℕ) : Type 0 where
  pub outside : Applies rows 10 (Outside s (range_of p))
  pub runs_out_lem : Applies rows 19 (RunningOut s (range_of p))
  pub whole : PassesBoth rows s (range_of p)
  pub right : Passes rows 11 ((i : ℕ) × LiesIn (λ (g : Region). g.load) s.regions s.count (range_of p) i)
  pub others : Never rows 12 × Never rows 13 × Never rows 14 × Never rows 15

pub record PoolCases (rows : List Row) (s : State) (p image : List ℕ) : Type 0 where
  pub there : Passes rows 10 ((pool_at s.pools (pool_of p)).words ≢ 0)
  pub blocks : Passes rows 15 ((bs : List Block) × Tiles (pool_words s (pool_of p) image) bs)
  pub others : Never rows 11 × Never rows 12 × Never rows 13 × Never rows 14 × Never rows 19

-- The value of a symbol: no other number than 17, 9 and 18. Of the rows' two 9s the first, before 18, stands at place 9, from 0, and the second, after
-- 18, at place 11.
pub record ValueCases (rows : List Row) (c : CommandArgs) : Type 0 where
  pub table : Passes rows 17 (IsTable c.symbols)
  pub name : PassesAt rows 9 (NameAllowed c.packet) × (applies_at 11 rows ≡ false)
  pub known : IsTable c.symbols → Passes rows 18 ((v : ℕ) × Named c.symbols (name_from c.packet) v)
  pub others : Never rows 10 × Never rows 11 × Never rows 12 × Never rows 13 × Never rows 14 × Never rows 15 × Never rows 19

-- a dump by name
pub record ByNameCases (rows : List Row) (s : State) (c : CommandArgs) : Type 0 where
  pub table : Passes rows 17 (IsTable c.symbols)
  pub name : PassesAt rows 9 (NameAllowed c.packet × (two c.packet 66 ≡ 0))
  pub known : IsTable c.symbols → Passes rows 18 ((v : ℕ) × Named c.symbols (name_from c.packet) v)
  pub address : AreBytes c.packet → (v : ℕ) → IsTable c.symbols → Named c.symbols (name_from c.packet) v
      → PassesAt rows 11
      (((a : ℕ) × Reached v (four c.packet 60) a × (a < 4294967296) × (a % 4 ≡ 0)) × (1 ≤ two c.packet 64))
  pub dump : (v a : ℕ) → IsTable c.symbols → Named c.symbols (name_from c.packet) v → Reached v (four c.packet 60) a
      → DumpCases rows s c.packet (range_from c.packet a)

pub record CommandCases (rows : List Row) (s : State) (c : CommandArgs) : Type 0 where
  pub lent : LentCases rows s c.image 32 c.reply
  pub layout : LayoutCases rows c.packet
  pub unit : Passes rows 8 (command_unit c.packet ≡ s.unit)
  pub dump : function_code_of c.packet ≡ 0 → DumpCases rows s c.packet (range_of c.packet)
  pub cancel : function_code_of c.packet ≡ 1 → CancelCases rows s c.packet
  pub load : function_code_of c.packet ≡ 4 → LoadCases rows s c.packet
  pub pool : function_code_of c.packet ≡ 7 → PoolCases rows s c.packet c.image
  pub value : function_code_of c.packet ≡ 8 → ValueCases rows c
  pub by_name : function_code_of c.packet ≡ 9 → ByNameCases rows s c
  -- 17 and 18 are for a command that names a symbol alone
  pub no_symbol : function_code_of c.packet ≢ 8 → function_code_of c.packet ≢ 9 → Never rows 17 × Never rows 18

-- THE SLOT CALL

pub record SlotCases (rows : List Row) (s : State) (c : SlotArgs) : Type 0 where
  pub lent : LentCases rows s c.image 4092 c.buffer
  pub busy : Passes rows 16 ((i : ℕ) × (i < 4) × (context_at s.places i ≢ Idle))

-- THE COMMAND WRITER: numbers 3 and 9

-- packet bytes of a command
abbrev pub bytes_of : Command → ℕ
bytes_of (Dump q) = 16
bytes_of Cancel = 10
bytes_of (Load q) = 60
bytes_of (PoolStatistics i) = 12
bytes_of (SymbolValue n) = 60
bytes_of (DumpSymbol q) = 68

-- what number 9 asks of a command's fields
abbrev pub FieldsAllowed : Command → Type 0
FieldsAllowed (Dump q) = (q.address.0 % 4 ≡ 0) × (1 ≤ q.size)
FieldsAllowed Cancel = Unit {0}
FieldsAllowed (Load q) = (q.address.0 % 4 ≡ 0) × (1 ≤ q.size) × (q.size ≤ 11)
FieldsAllowed (PoolStatistics i) = i ≤ 1
FieldsAllowed (SymbolValue n) = (1 ≤ n) × (n ≤ 48)
FieldsAllowed (DumpSymbol q) = (1 ≤ q.name) × (q.name ≤ 48) × (1 ≤ q.size)

pub record WriterCases (rows : List Row) (h : Header) (k : Command) (buffer : List ℕ) : Type 0 where
  pub room : Passes rows 3 (bytes_of k ≤ length buffer)
  pub fields : Passes rows 9 ((h.unit ≤ 15) × (h.transaction ≤ 4095) × (h.count ≤ 16383) × FieldsAllowed k)

-- THE DUMP PACKET READER: numbers 4, 5, 7 and 9

-- the primary header of telemetry: what number 4 asks
pub record TelemetryFormed (p : List ℕ) : Type 0 where
  pub bytes : 28 ≤ length p
  pub version : version_of p ≡ 0
  pub type : type_of p ≡ 0
  pub second_header : second_header_of p ≡ 0
  pub sequence_flags : sequence_flags_of p ≡ 3
  pub length_field : length_field_of p + 7 ≡ length p

-- `words` words from address `here` on are one of the cuts of 1,016 of a range that could be a dump
pub record CutOf (start size here words : ℕ) : Type 0 where
  pub aligned : start % 4 ≡ 0
  pub some : 1 ≤ size
  pub most : size ≤ 65535
  pub end : start + 4 * size ≤ 4294967296
  pub cut : ℕ
  pub from : here ≡ start + 4 * (1016 * cut)
  pub below : 1016 * cut < size
  pub as_many : words ≡ min 1016 (size - 1016 * cut)

pub record PacketCases (rows : List Row) (p : List ℕ) : Type 0 where
  pub formed : Passes rows 4 (TelemetryFormed p)
  pub apid : Passes rows 5 (apid_of p ≡ 788)
  pub bytes : Passes rows 7 ((1 ≤ four p 24) × (four p 24 ≤ 1016) × (length p ≡ 28 + 4 * four p 24))
  pub cut : Passes rows 9 (CutOf (four p 12) (four p 16) (four p 20) (four p 24))
