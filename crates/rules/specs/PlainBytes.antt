-- PACKETS IN PLAIN BYTES: what each definition that reads or writes a field says of the packet's bytes, by their offset (paper 01, "Command
-- packets", "Telemetry slots", "Ground reader and writer"; paper 02, A2). The calls and the demands share those definitions; this is what else fixes them.
use Rattle.std.specs.Prelude.{◌≡◌, ◌≢◌, ◌↔◌, List, [], ◌∷◌, ℕ, ◌+◌, ◌*◌, ◌-◌, ◌/◌, ◌%◌, ◌≤◌, ◌<◌, min, length, get_or, take, drop, replicate, Some, None, Ok}
use Rattle.wire.specs.Bytes.{AreBytes}
use Rattle.wire.specs.ByByte.{byte, two, four}
use Rattle.wire.specs.Xor.{xor_all}
use Rattle.rules.specs.GoodWhen.{Lies, first_word, words_in, Good}
use Rattle.rules.specs.Packets.{version_of, type_of, second_header_of, apid_of, sequence_flags_of, sequence_count_of, length_field_of, unit_at, transaction_at, zero_bit_of, function_code_of, command_unit, command_transaction, decode, data_words, name_in}
use Rattle.rules.specs.Results.{answer_number, answer_length}
use Rattle.rules.specs.Cases.{range_of, range_from, name_from, pool_of, bytes_of}
use Rattle.rules.specs.Commands.{CommandArgs}
use Rattle.rules.specs.Slots.{SlotArgs, slot_call}
use Rattle.rules.specs.Values.{Reached}
use Rattle.rules.specs.Demand3.{Call, command, slot, LendsBytes, AskedIs}
use Rattle.rules.specs.Ground.{write_command, read_command, read_packet}
use Rattle.rules.specs.Demand2.{TelemetryHeader, SlotDone}
use Rattle.rules.specs.ReadBack.{CommandFits, AreWords, letter, SlotFits, packet_of}
use Rattle.rules.specs.declared.ActiveDump.{ActiveDump}
use Rattle.rules.specs.declared.Command.{Command}
use Rattle.rules.specs.declared.Command.TheVariants.{Dump, Cancel, Load, PoolStatistics, SymbolValue, DumpSymbol}
use Rattle.rules.specs.declared.DumpPacket.{DumpPacket}
use Rattle.rules.specs.declared.Header.{Header}
use Rattle.rules.specs.declared.Request.{Request}
use Rattle.rules.specs.declared.State.{State}
use Rattle.rules.specs.declared.SymbolRequest.{SymbolRequest}
use Rattle.rules.specs.declared.Telecommand.{Telecommand}

-- THE FIELDS OF A PACKET, as the tests of numbers 4 to 9 and the demands read them

-- the primary header, and unit and transaction at byte `at`
pub record HeaderFields (p : List ℕ) : Type 0 where
  pub version : version_of p ≡ byte p 0 / 32
  pub type : type_of p ≡ byte p 0 / 16 % 2
  pub second_header : second_header_of p ≡ byte p 0 / 8 % 2
  pub apid : apid_of p ≡ byte p 0 % 8 * 256 + byte p 1
  pub sequence_flags : sequence_flags_of p ≡ byte p 2 / 64
  pub sequence_count : sequence_count_of p ≡ byte p 2 % 64 * 256 + byte p 3
  pub length_field : length_field_of p ≡ two p 4
  pub unit : (at : ℕ) → unit_at p at ≡ byte p at / 16
  pub transaction : (at : ℕ) → transaction_at p at ≡ byte p at % 16 * 256 + byte p (at + 1)

-- the request of a dump or a load
abbrev pub request_at : List ℕ → Request
request_at p = record { size = two p 10; address = record { 0 = four p 12 } }

-- a command packet
pub record CommandFields (p : List ℕ) : Type 0 where
  pub zero_bit : zero_bit_of p ≡ byte p 6 / 128
  pub code : function_code_of p ≡ byte p 6 % 128
  pub unit : command_unit p ≡ byte p 8 / 16
  pub transaction : command_transaction p ≡ byte p 8 % 16 * 256 + byte p 9
  pub range : range_of p ≡ record { start = record { 0 = four p 12 }; words = two p 10 }
  pub pool : pool_of p ≡ two p 10
  -- the command, by the code
  pub dump : byte p 6 % 128 ≡ 0 → decode p ≡ Some (Dump (request_at p))
  pub cancel : byte p 6 % 128 ≡ 1 → decode p ≡ Some Cancel
  pub load : byte p 6 % 128 ≡ 4 → decode p ≡ Some (Load (request_at p))
  pub statistics : byte p 6 % 128 ≡ 7 → decode p ≡ Some (PoolStatistics (two p 10))
  pub value : byte p 6 % 128 ≡ 8 → decode p ≡ Some (SymbolValue (byte p 10))
  pub by_name : byte p 6 % 128 ≡ 9 → decode p ≡ Some (DumpSymbol (record { name = byte p 10; offset = four p 60; size = two p 64 }))
  pub other : byte p 6 % 128 ≢ 0 → byte p 6 % 128 ≢ 1 → byte p 6 % 128 ≢ 4 → byte p 6 % 128 ≢ 7 → byte p 6 % 128 ≢ 8 → byte p 6 % 128 ≢ 9
      → decode p ≡ None
  -- the eleven data words of a load
  pub words : length (data_words p) ≡ 11
  pub word : (k : ℕ) → k < 11 → get_or (data_words p) k 0 ≡ four p (16 + 4 * k)
  -- the name of a symbol
  pub name : name_in p ≡ take (byte p 10) (drop 12 p)
  pub name_from_lem : name_from p ≡ take (byte p 10) (drop 12 p)
  -- the range of a dump by name that reaches the address a
  pub range_from_lem : (a : ℕ) → range_from p a ≡ record { start = record { 0 = a }; words = two p 64 }

-- COMMANDS, WRITTEN AND READ

abbrev pub code_in : Command → ℕ
code_in (Dump q) = 0
code_in Cancel = 1
code_in (Load q) = 4
code_in (PoolStatistics i) = 7
code_in (SymbolValue n) = 8
code_in (DumpSymbol q) = 9

-- a name field of so many bytes: name size, pad, and the name in 48 bytes; those beyond its size are 0
pub record NameWritten (n : ℕ) (ws p : List ℕ) : Type 0 where
  pub size : byte p 10 ≡ n
  pub pad : byte p 11 ≡ 0
  pub letters : (j : ℕ) → j < n → j < 48 → byte p (12 + j) ≡ letter ws j
  pub rest : (j : ℕ) → n ≤ j → j < 48 → byte p (12 + j) ≡ 0

-- the body after unit and transaction; a load's words beyond its size are 0
abbrev pub Body : Command → List ℕ → List ℕ → Type 0
Body (Dump q) ws p = (two p 10 ≡ q.size) × (four p 12 ≡ q.address.0)
Body Cancel ws p = Unit {0}
Body (Load q) ws p =
    (two p 10 ≡ q.size) × (four p 12 ≡ q.address.0)
    × ((k : ℕ) → k < q.size → four p (16 + 4 * k) ≡ get_or ws k 0)
    × ((k : ℕ) → q.size ≤ k → k < 11 → four p (16 + 4 * k) ≡ 0)
Body (PoolStatistics i) ws p = two p 10 ≡ i
Body (SymbolValue n) ws p = NameWritten n ws p
Body (DumpSymbol q) ws p = NameWritten q.name ws p × (four p 60 ≡ q.offset) × (two p 64 ≡ q.size) × (two p 66 ≡ 0)

-- what the writer wrote. 7748 is type 1, second-header flag 1 and APID 1604
pub record CommandWritten (h : Header) (k : Command) (ws p : List ℕ) : Type 0 where
  pub bytes : length p ≡ bytes_of k
  pub kind : two p 0 ≡ 7748
  pub sequence : two p 2 ≡ 49152 + h.count
  pub length_field : two p 4 + 7 ≡ length p
  pub code : byte p 6 ≡ code_in k
  pub check : xor_all p ≡ 255
  pub identity : two p 8 ≡ 4096 * h.unit + h.transaction
  pub body : Body k ws p

-- the twelve words beside a command that was read: the eleven of a load and 0, those of a symbol's name, and else zeros
abbrev pub NameBeside : List ℕ → List ℕ → Type 0
NameBeside p ws = (length ws ≡ 12) × ((k : ℕ) → k < 12 → get_or ws k 0 ≡ four p (12 + 4 * k))

abbrev pub Beside : Command → List ℕ → List ℕ → Type 0
Beside (Dump q) p ws = ws ≡ replicate 12 0
Beside Cancel p ws = ws ≡ replicate 12 0
Beside (Load q) p ws = (length ws ≡ 12) × ((k : ℕ) → k < 11 → get_or ws k 0 ≡ four p (16 + 4 * k)) × (get_or ws 11 0 ≡ 0)
Beside (PoolStatistics i) p ws = ws ≡ replicate 12 0
Beside (SymbolValue n) p ws = NameBeside p ws
Beside (DumpSymbol q) p ws = NameBeside p ws

-- what the command reader gave of a packet
pub record CommandGiven (p : List ℕ) (f : Telecommand) (ws : List ℕ) : Type 0 where
  pub header : f.header
      ≡ record { count = byte p 2 % 64 * 256 + byte p 3; unit = byte p 8 / 16; transaction = byte p 8 % 16 * 256 + byte p 9 }
  pub command : decode p ≡ Some f.command
  pub words : Beside f.command p ws

-- DUMP PACKETS, WRITTEN AND READ

-- the packet of a dump, in a slot lent this tick and image: seven fields in 28 bytes, then a whole cut of 1,016 words or what is left
pub record PacketWritten (s : State) (c : SlotArgs) (d : ActiveDump) (p : List ℕ) : Type 0 where
  pub header : TelemetryHeader 788 s.packets s.unit d.transaction p
  pub tick : four p 8 ≡ c.tick
  pub requested : (four p 12 ≡ d.range.start.0) × (four p 16 ≡ d.range.words)
  pub own : (four p 20 ≡ d.range.start.0 + 4 * d.sent) × (four p 24 ≡ min 1016 (d.range.words - d.sent))
  pub bytes : length p ≡ 28 + 4 * min 1016 (d.range.words - d.sent)
  -- each word as the image has it, where the range lies in it
  pub region : ℕ
  pub offset : ℕ
  pub lies : Lies s.regions s.count d.range region offset
  pub word : (k : ℕ) → k < min 1016 (d.range.words - d.sent)
      → four p (28 + 4 * k) ≡ get_or c.image (first_word s.regions region + offset + d.sent + k) 0

-- what the dump packet reader gave of a packet, and the part that it handed back
pub record PacketGiven (p : List ℕ) (f : DumpPacket) (part : List ℕ) : Type 0 where
  pub header : f.header
      ≡ record { count = byte p 2 % 64 * 256 + byte p 3; unit = byte p 6 / 16; transaction = byte p 6 % 16 * 256 + byte p 7 }
  pub tick : f.tick ≡ four p 8
  pub requested : f.range ≡ record { start = record { 0 = four p 12 }; words = four p 16 }
  pub own : (f.here.0 ≡ four p 20) × (f.words ≡ four p 24)
  pub handed_back : part ≡ drop 28 p

-- THE OFFSET of a dump by name, 32 bits: as it stands below 2^31, and 2^32 less from there on
pub record SignedOffset : Type 0 where
  pub on : (v offset a : ℕ) → offset < 2147483648 → Reached v offset a ↔ (a ≡ v + offset)
  pub back : (v offset a : ℕ) → 2147483648 ≤ offset → offset < 4294967296 → Reached v offset a ↔ (a + 4294967296 ≡ v + offset)

-- WHAT IS ASKED of what is lent, here and in the demands: what its types hold, of any length, and nothing else
pub record AskedOfCallers : Type 0 where
  pub bytes : (p : List ℕ) → ((i : ℕ) → i < length p → byte p i < 256) → AreBytes p
  pub words : (ws : List ℕ) → ((i : ℕ) → i < length ws → get_or ws i 0 < 4294967296) → AreWords ws
  pub request : (q : Request) → q.size < 65536 → q.address.0 < 4294967296 → CommandFits (Dump q) × CommandFits (Load q)
  pub cancel : CommandFits Cancel
  pub pool : (i : ℕ) → i < 65536 → CommandFits (PoolStatistics i)
  pub value : (n : ℕ) → n < 256 → CommandFits (SymbolValue n)
  pub by_name : (q : SymbolRequest) → q.name < 256 → q.offset < 4294967296 → q.size < 65536 → CommandFits (DumpSymbol q)
  pub slots : (s : State) (c : SlotArgs) → Good s → length c.image ≡ words_in (take s.count s.regions) → 4092 ≤ length c.buffer
      → c.tick < 4294967296 → ((i : ℕ) → i < length c.image → get_or c.image i 0 < 4294967296) → SlotFits s c
  -- of a list of calls only that what is lent as packets are bytes
  pub no_call : LendsBytes []
  pub command_call : (c : CommandArgs) (cs : List Call) → AreBytes c.packet → LendsBytes cs → LendsBytes (command c ∷ cs)
  pub slot_call_lem : (c : SlotArgs) (cs : List Call) → LendsBytes cs → LendsBytes (slot c ∷ cs)

pub record PlainBytes : Type 0 where
  pub signed_offset : SignedOffset
  pub asked_of_callers : AskedOfCallers
  -- what a command asks of the dump places
  pub asked_is : (c : CommandArgs) → AskedIs c
  pub header_fields : (p : List ℕ) → AreBytes p → HeaderFields p
  pub command_fields : (p : List ℕ) → AreBytes p → CommandFields p
  pub command_written : (h : Header) (k : Command) (ws buffer : List ℕ) → CommandFits k → AreWords ws
      → answer_number (write_command h k ws buffer).answer ≡ 0
      → CommandWritten h k ws (take (answer_length (write_command h k ws buffer).answer) (write_command h k ws buffer).buffer)
  pub command_read : (p : List ℕ) (f : Telecommand) → AreBytes p → (read_command p).reading ≡ Ok f → CommandGiven p f (read_command p).words
  pub packet_written : (s : State) (c : SlotArgs) → SlotFits s c → (x : SlotDone s c (slot_call s c)) → PacketWritten s c x.dump (packet_of s c)
  pub packet_read : (p : List ℕ) (f : DumpPacket) → AreBytes p → (read_packet p).reading ≡ Ok f → PacketGiven p f (read_packet p).part
