-- DEMAND 1: safe, exact refusals. Over every state, packet, symbol table, image and buffer of any content and length: each number is given
-- exactly in its case, the first in the order laid down, which is the lowest but for 19 and for commands that name a symbol; and a refusal leaves all
-- as it was, save a refused count where paper 01's "Result numbers" and paper 02, A2 and A5 say so.
-- That every call ends and touches only what it was lent is no statement here: the checker proves it of each function that has a body.
use Rattle.std.specs.Prelude.{◌≡◌, ◌≢◌, ◌↔◌, ◌⊎◌, true, false, cond, List, [], ◌∷◌, ◌++◌, ℕ, ◌+◌, ◌*◌, ◌-◌, ◌%◌, ◌<◌, eqb, length, get_or, take, drop, replicate}
use Rattle.rules.specs.States.{start_rules, start_up}
use Rattle.rules.specs.Packets.{function_code_of}
use Rattle.rules.specs.Results.{number, verdict_number, answer_number, answer_length, Row}
use Rattle.rules.specs.AnswerNumbers.{AnswerNumbers}
use Rattle.rules.specs.Cases.{applies, applies_at, bytes_of, ReaderCases, CommandCases, SlotCases, WriterCases, PacketCases}
use Rattle.rules.specs.Commands.{CommandArgs, Outcome, command_rows, command_call}
use Rattle.rules.specs.Slots.{SlotArgs, slot_rows, slot_call}
use Rattle.rules.specs.Ground.{writer_rows, write_command, reader_rows, read_command, reading_number, packet_rows, read_packet, packet_number}
use Rattle.rules.specs.declared.State.{State}
use Rattle.rules.specs.declared.Place.{Place}
use Rattle.rules.specs.declared.Context.TheVariants.{Idle}
use Rattle.rules.specs.declared.Region.{Region}
use Rattle.rules.specs.declared.Range.{Range}
use Rattle.rules.specs.declared.Header.{Header}
use Rattle.rules.specs.declared.Command.{Command}

-- A CALL'S ROWS of the table of result numbers (command_rows, slot_rows and so on) give for each number that the call can answer its case

abbrev pub numbers_of : List Row → List ℕ
numbers_of [] = []
numbers_of (r ∷ rs) = number r.refusal ∷ numbers_of rs

-- k is the lowest number that applies, in some order of the numbers, and 0 if none does: each number is given exactly in its case
pub record LowestBy (order : ℕ → ℕ) (rows : List Row) (k : ℕ) : Type 0 where
  pub refused : (j : ℕ) → 0 < j → (k ≡ j) ↔ ((applies j rows ≡ true) × ((i : ℕ) → order i < order j → applies i rows ≡ false))
  pub done : (k ≡ 0) ↔ ((i : ℕ) → applies i rows ≡ false)

-- in the order of their size
abbrev pub Lowest : List Row → ℕ → Type 0
Lowest = LowestBy (λ i. i)

-- the order of the command call's numbers: that of their size, but for 19, which stands in 10's place, right after it
abbrev pub after_ten : ℕ → ℕ
after_ten k = cond (eqb k 19) 21 (2 * k)

-- the row at place i is the first that applies, and its number is k
pub record FirstAt (rows : List Row) (i k : ℕ) : Type 0 where
  pub number : get_or (numbers_of rows) i 0 ≡ k
  pub there : applies_at i rows ≡ true
  pub none_before : (j : ℕ) → j < i → applies_at j rows ≡ false

-- k is the number of the first row that applies, and 0 if none does: each number is given exactly in its case
pub record First (rows : List Row) (k : ℕ) : Type 0 where
  pub refused : (j : ℕ) → 0 < j → (k ≡ j) ↔ ((i : ℕ) × FirstAt rows i j)
  pub done : (k ≡ 0) ↔ ((i : ℕ) → applies_at i rows ≡ false)

-- every part of the state, by name: what a call may change, and the rest as it was
abbrev pub state_with : State → List Place → ℕ → ℕ → ℕ → ℕ → ℕ → ℕ → State
state_with s places last replies values packets accepted refused =
    record {
      regions = s.regions;
      count = s.count;
      pools = s.pools;
      unit = s.unit;
      places = places;
      last = last;
      replies = replies;
      values = values;
      packets = packets;
      accepted = accepted;
      refused = refused;
    }

pub record CommandRefusals (s : State) (c : CommandArgs) (o : Outcome) : Type 0 where
  pub numbers : numbers_of (command_rows s c) ≡ 1 ∷ 2 ∷ 3 ∷ 4 ∷ 5 ∷ 6 ∷ 7 ∷ 8 ∷ 17 ∷ 9 ∷ 18 ∷ 9 ∷ 10 ∷ 19 ∷ 11 ∷ 12 ∷ 13 ∷ 14 ∷ 15 ∷ []
  pub cases : CommandCases (command_rows s c) s c
  pub first : First (command_rows s c) (answer_number o.answer)
  pub lowest : function_code_of c.packet ≢ 8 → function_code_of c.packet ≢ 9 → LowestBy after_ten (command_rows s c) (answer_number o.answer)
  -- on every number but 0 image and reply buffer stay, and no length is reported
  pub kept : answer_number o.answer ≢ 0 → (o.image ≡ c.image) × (o.buffer ≡ c.reply) × (answer_length o.answer ≡ 0)
  -- numbers 1, 2, 3, 5 and 8 return the state as handed in; every other but 0 (16 is for slots) adds one to the refused count and changes no other part
  pub handed_in : (answer_number o.answer ≡ 1 → o.state ≡ s) × (answer_number o.answer ≡ 2 → o.state ≡ s) × (answer_number o.answer ≡ 3 → o.state ≡ s)
      × (answer_number o.answer ≡ 5 → o.state ≡ s) × (answer_number o.answer ≡ 8 → o.state ≡ s)
  pub one_more : answer_number o.answer ≢ 0 → answer_number o.answer ≢ 1 → answer_number o.answer ≢ 2 → answer_number o.answer ≢ 3
      → answer_number o.answer ≢ 5 → answer_number o.answer ≢ 8 → answer_number o.answer ≢ 16
      → o.state ≡ state_with s s.places s.last s.replies s.values s.packets s.accepted ((s.refused + 1) % 65536)
  -- number 0 adds one to the accepted count, and to no refused count
  pub accepted : answer_number o.answer ≡ 0 → (o.state.accepted ≡ (s.accepted + 1) % 65536) × (o.state.refused ≡ s.refused)
  -- a command that names no symbol is answered and carried out alike whatever symbol table is lent
  pub no_symbol : function_code_of c.packet ≢ 8 → function_code_of c.packet ≢ 9 → (symbols : List ℕ)
      → command_call s (record { packet = c.packet; symbols = symbols; image = c.image; reply = c.reply }) ≡ o
  -- what was lent keeps its length
  pub lent : (length o.image ≡ length c.image) × (length o.buffer ≡ length c.reply)

pub record SlotRefusals (s : State) (c : SlotArgs) (o : Outcome) : Type 0 where
  pub numbers : numbers_of (slot_rows s c) ≡ 1 ∷ 2 ∷ 3 ∷ 16 ∷ []
  pub cases : SlotCases (slot_rows s c) s c
  pub lowest : Lowest (slot_rows s c) (answer_number o.answer)
  pub kept : answer_number o.answer ≢ 0 → (o.state ≡ s) × (o.buffer ≡ c.buffer) × (answer_length o.answer ≡ 0)
  -- a slot never writes the image, nor the counts of commands
  pub image : o.image ≡ c.image
  pub counts : (o.state.accepted ≡ s.accepted) × (o.state.refused ≡ s.refused)
  pub lent : length o.buffer ≡ length c.buffer

pub record StartRefusals (rs : List Region) (n : ℕ) (pools : List Range) (unit : ℕ) : Type 0 where
  -- 0 or 17 and no other number
  pub only : (verdict_number (start_up rs n pools unit).verdict ≡ 0) ⊎ (verdict_number (start_up rs n pools unit).verdict ≡ 17)
  pub ready : (verdict_number (start_up rs n pools unit).verdict ≡ 0) ↔ (start_rules rs n pools unit ≡ true)
  pub refused : (verdict_number (start_up rs n pools unit).verdict ≡ 17) ↔ (start_rules rs n pools unit ≡ false)
  pub nothing : verdict_number (start_up rs n pools unit).verdict ≡ 17 → (start_up rs n pools unit).state
      ≡ record {
        regions = replicate 16 (record { range = record { start = record { 0 = 0 }; words = 0 }; load = false; dump = false });
        count = 0;
        pools = replicate 2 (record { start = record { 0 = 0 }; words = 0 });
        unit = 0;
        places = replicate 4 (record { context = Idle });
        last = 3;
        replies = 0;
        values = 0;
        packets = 0;
        accepted = 0;
        refused = 0;
      }
  -- every later call refuses that state with 1
  pub no_command : (c : CommandArgs) → verdict_number (start_up rs n pools unit).verdict ≡ 17
      → answer_number (command_call (start_up rs n pools unit).state c).answer ≡ 1
  pub no_slot : (c : SlotArgs) → verdict_number (start_up rs n pools unit).verdict ≡ 17
      → answer_number (slot_call (start_up rs n pools unit).state c).answer ≡ 1
  pub fresh : verdict_number (start_up rs n pools unit).verdict ≡ 0
      → (start_up rs n pools unit).state
      ≡ record {
        regions = take n rs ++ replicate (16 - n) (record { range = record { start = record { 0 = 0 }; words = 0 }; load = false; dump = false });
        count = n;
        pools = pools;
        unit = unit;
        places = replicate 4 (record { context = Idle });
        last = 3;
        replies = 0;
        values = 0;
        packets = 0;
        accepted = 0;
        refused = 0;
      }

pub record GroundRefusals (h : Header) (k : Command) (ws buffer p : List ℕ) : Type 0 where
  pub writer_numbers : numbers_of (writer_rows h k buffer) ≡ 3 ∷ 9 ∷ []
  pub writer_cases : WriterCases (writer_rows h k buffer) h k buffer
  pub writer : Lowest (writer_rows h k buffer) (answer_number (write_command h k ws buffer).answer)
  pub writer_kept : answer_number (write_command h k ws buffer).answer ≢ 0
      → ((write_command h k ws buffer).buffer ≡ buffer) × (answer_length (write_command h k ws buffer).answer ≡ 0)
  pub writer_lent : length (write_command h k ws buffer).buffer ≡ length buffer
  -- bytes past the packet stay
  pub writer_rest : drop (bytes_of k) (write_command h k ws buffer).buffer ≡ drop (bytes_of k) buffer
  pub reader_numbers : numbers_of (reader_rows p) ≡ 4 ∷ 5 ∷ 6 ∷ 7 ∷ 9 ∷ []
  pub reader_cases : ReaderCases (reader_rows p) p
  pub reader : Lowest (reader_rows p) (reading_number (read_command p).reading)
  pub reader_empty : reading_number (read_command p).reading ≢ 0 → (read_command p).words ≡ replicate 12 0
  pub packet_numbers : numbers_of (packet_rows p) ≡ 4 ∷ 5 ∷ 7 ∷ 9 ∷ []
  pub packet_cases : PacketCases (packet_rows p) p
  pub packet : Lowest (packet_rows p) (packet_number (read_packet p).reading)
  pub packet_empty : packet_number (read_packet p).reading ≢ 0 → (read_packet p).part ≡ []

pub record Demand1 : Type 0 where
  pub command : (s : State) (c : CommandArgs) → CommandRefusals s c (command_call s c)
  pub slot : (s : State) (c : SlotArgs) → SlotRefusals s c (slot_call s c)
  pub start : (rs : List Region) (n : ℕ) (pools : List Range) (unit : ℕ) → StartRefusals rs n pools unit
  -- each case of each answer has its number
  pub answers : AnswerNumbers
  pub ground : (h : Header) (k : Command) (ws buffer p : List ℕ) → GroundRefusals h k ws buffer p
