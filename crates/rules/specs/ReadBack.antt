-- PACKETS ARE WRITTEN AND READ BACK AS LAID DOWN (demand 2; paper 01, "Ground reader and writer"): the command writer and reader undo each
-- other, and the dump packet reader accepts a packet exactly if some box with a good state has a slot that writes it.
use Rattle.std.specs.Prelude.{◌≡◌, ◌↔◌, true, List, ℕ, ◌+◌, ◌*◌, ◌≤◌, ◌<◌, length, get_or, take, Ok}
use Rattle.lists.specs.Splice.{splice}
use Rattle.wire.specs.Bytes.{AreBytes, word_bytes}
use Rattle.rules.specs.Regions.{start_of, image_length}
use Rattle.rules.specs.States.{good_state}
use Rattle.rules.specs.Packets.{packet_length, command_bytes}
use Rattle.rules.specs.Results.{answer_number, answer_length}
use Rattle.rules.specs.Cases.{FieldsAllowed}
use Rattle.rules.specs.Slots.{SlotArgs, slot_call, next_words}
use Rattle.rules.specs.Demand2.{SlotDone}
use Rattle.rules.specs.Ground.{write_command, read_command, read_packet, packet_number}
use Rattle.rules.specs.declared.Command.{Command}
use Rattle.rules.specs.declared.Command.TheVariants.{Dump, Cancel, Load, PoolStatistics, SymbolValue, DumpSymbol}
use Rattle.rules.specs.declared.DumpPacket.{DumpPacket}
use Rattle.rules.specs.declared.Header.{Header}
use Rattle.rules.specs.declared.Request.{Request}
use Rattle.rules.specs.declared.State.{State}

-- COMMANDS

-- what the fields' types hold: sizes of 16 bits, addresses and words of 32
abbrev pub RequestFits : Request → Type 0
RequestFits q = (q.size < 65536) × (q.address.0 < 4294967296)

abbrev pub CommandFits : Command → Type 0
CommandFits (Dump q) = RequestFits q
CommandFits Cancel = Unit {0}
CommandFits (Load q) = RequestFits q
CommandFits (PoolStatistics i) = i < 65536
CommandFits (SymbolValue n) = n < 256
CommandFits (DumpSymbol q) = (q.name < 256) × (q.offset < 4294967296) × (q.size < 65536)

abbrev pub AreWords : List ℕ → Type 0
AreWords ws = (i : ℕ) → get_or ws i 0 < 4294967296

-- byte j of a name that is kept in words, four to a word, the highest first
abbrev pub letter : List ℕ → ℕ → ℕ
letter ws j = get_or (word_bytes ws) j 0

-- of the words beside a command, what it uses is the same in both: a load's words below its size, a name's bytes below its size
abbrev pub UsedSame : Command → List ℕ → List ℕ → Type 0
UsedSame (Dump q) us ws = Unit {0}
UsedSame Cancel us ws = Unit {0}
UsedSame (Load q) us ws = (i : ℕ) → i < q.size → get_or us i 0 ≡ get_or ws i 0
UsedSame (PoolStatistics i) us ws = Unit {0}
UsedSame (SymbolValue n) us ws = (j : ℕ) → j < n → letter us j ≡ letter ws j
UsedSame (DumpSymbol q) us ws = (j : ℕ) → j < q.name → letter us j ≡ letter ws j

-- and what it does not use is 0
abbrev pub RestZero : Command → List ℕ → Type 0
RestZero (Dump q) ws = Unit {0}
RestZero Cancel ws = Unit {0}
RestZero (Load q) ws = (i : ℕ) → q.size ≤ i → get_or ws i 0 ≡ 0
RestZero (PoolStatistics i) ws = Unit {0}
RestZero (SymbolValue n) ws = (j : ℕ) → n ≤ j → letter ws j ≡ 0
RestZero (DumpSymbol q) ws = (j : ℕ) → q.name ≤ j → letter ws j ≡ 0

-- what the writer asks: room for the packet, and fields within their bounds
pub record Writes (h : Header) (k : Command) (buffer : List ℕ) : Type 0 where
  pub room : packet_length k ≤ length buffer
  pub unit : h.unit ≤ 15
  pub transaction : h.transaction ≤ 4095
  pub count : h.count ≤ 16383
  pub fields : FieldsAllowed k

-- what the writer wrote, read: the fields, and the used words
pub record WriteRead (h : Header) (k : Command) (ws p : List ℕ) : Type 0 where
  pub fields : (read_command p).reading ≡ Ok (record { header = h; command = k })
  pub words : UsedSame k (read_command p).words ws

-- what the reader read, written: the bytes, exactly if the unused data words of a load, or bytes of a name field, are 0
abbrev pub ReadWrite : Header → Command → List ℕ → List ℕ → Type 0
ReadWrite h k p buffer =
    ((write_command h k (read_command p).words buffer).buffer ≡ splice buffer 0 p)
    ↔ RestZero k (read_command p).words

-- DUMP PACKETS

-- what a slot call is lent fits, and is what its types hold
pub record SlotFits (s : State) (c : SlotArgs) : Type 0 where
  pub good : good_state s ≡ true
  pub image : length c.image ≡ image_length s.regions s.count
  pub buffer : 4092 ≤ length c.buffer
  pub tick : c.tick < 4294967296
  pub words : AreWords c.image

-- the packet that a slot call wrote
abbrev pub packet_of : State → SlotArgs → List ℕ
packet_of s c = take (answer_length (slot_call s c).answer) (slot_call s c).buffer

-- what the reader gives of a packet that a slot wrote, in terms of what the slot served
abbrev pub fields_of : (s : State) (c : SlotArgs) → SlotDone s c (slot_call s c) → DumpPacket
fields_of s c d =
    record {
      header = record { count = s.packets; unit = s.unit; transaction = d.dump.transaction };
      tick = c.tick;
      range = d.dump.range;
      here = record { 0 = start_of d.dump.range + 4 * d.dump.sent };
      words = length (next_words s c.image d.dump);
    }

pub record ReadBack : Type 0 where
  pub writes_when : (h : Header) (k : Command) (ws buffer : List ℕ) → (answer_number (write_command h k ws buffer).answer ≡ 0) ↔ Writes h k buffer
  pub writes_length : (h : Header) (k : Command) (ws buffer : List ℕ) → Writes h k buffer
      → (answer_length (write_command h k ws buffer).answer ≡ packet_length k)
      × ((write_command h k ws buffer).buffer ≡ splice buffer 0 (command_bytes h k ws))
  pub write_read : (h : Header) (k : Command) (ws buffer : List ℕ) → CommandFits k → AreWords ws
      → answer_number (write_command h k ws buffer).answer ≡ 0
      → WriteRead h k ws (take (packet_length k) (write_command h k ws buffer).buffer)
  pub read_write : (h : Header) (k : Command) (p buffer : List ℕ) → AreBytes p → (read_command p).reading ≡ Ok (record { header = h; command = k })
      → length p ≤ length buffer
      → (answer_number (write_command h k (read_command p).words buffer).answer ≡ 0) × ReadWrite h k p buffer
  -- what a slot writes is accepted, and gives back the fields and the data that the slot put there
  pub slot_read : (s : State) (c : SlotArgs) → SlotFits s c → answer_number (slot_call s c).answer ≡ 0
      → (d : SlotDone s c (slot_call s c))
      × ((read_packet (packet_of s c)).reading ≡ Ok (fields_of s c d))
      × ((read_packet (packet_of s c)).part ≡ word_bytes (next_words s c.image d.dump))
  -- what is accepted is what some slot writes
  pub read_slot : (p : List ℕ) → AreBytes p → packet_number (read_packet p).reading ≡ 0
      → (s : State) × (c : SlotArgs) × (length s.regions ≡ 16) × (length s.pools ≡ 2) × SlotFits s c × (answer_number (slot_call s c).answer ≡ 0)
      × (packet_of s c ≡ p)
