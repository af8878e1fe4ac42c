-- ONE FAULT: a packet that is accepted, with one thing changed, gets exactly the number of that thing (paper 01, "Command packets", "Result numbers",
-- "Ground reader and writer"). Said in bytes alone: no test, no row and no case of the numbers stands here.
use Rattle.std.specs.Prelude.{◌≡◌, ◌≢◌, ◌⊎◌, List, ℕ, ◌+◌, ◌*◌, ◌/◌, ◌%◌, ◌<◌, length}
use Rattle.wire.specs.Bytes.{AreBytes}
use Rattle.wire.specs.ByByte.{byte, two, four}
use Rattle.wire.specs.Xor.{xor_all}
use Rattle.rules.specs.Results.{answer_number, answer_length}
use Rattle.rules.specs.Commands.{CommandArgs, Outcome, command_call}
use Rattle.rules.specs.Ground.{reading_number, read_command, packet_number, read_packet}
use Rattle.rules.specs.Demand1.{state_with}
use Rattle.rules.specs.declared.State.{State}

-- WHAT IS CHANGED: q is p but for one thing; the check byte of a command, byte 7, is left free here, and is asked to be right below

-- another APID: the low three bits of byte 0, and byte 1
pub record OtherApid (p q : List ℕ) : Type 0 where
  pub as_long : length q ≡ length p
  pub head : byte q 0 / 8 ≡ byte p 0 / 8
  pub apid : byte q 0 % 8 * 256 + byte q 1 ≢ byte p 0 % 8 * 256 + byte p 1

-- an unknown function code
pub record OtherCode (p q : List ℕ) : Type 0 where
  pub as_long : length q ≡ length p
  pub seven_bits : byte q 6 < 128
  pub none_of_six : (byte q 6 ≢ 0) × (byte q 6 ≢ 1) × (byte q 6 ≢ 4) × (byte q 6 ≢ 7) × (byte q 6 ≢ 8) × (byte q 6 ≢ 9)

-- a byte more or a byte less, with its length field
pub record OtherLength (p q : List ℕ) : Type 0 where
  pub by_one : (length q ≡ length p + 1) ⊎ (length p ≡ length q + 1)
  pub field : two q 4 + 7 ≡ length q

-- another unit: the high four bits of byte 8
pub record OtherUnit (p q : List ℕ) : Type 0 where
  pub as_long : length q ≡ length p
  pub unit : byte q 8 / 16 ≢ byte p 8 / 16
  pub transaction : byte q 8 % 16 ≡ byte p 8 % 16

-- byte i of q is that of p, where both have one
abbrev pub Same : List ℕ → List ℕ → ℕ → Type 0
Same p q i = i < length p → i < length q → byte q i ≡ byte p i

-- A COMMAND'S LAYOUT SPOILED, whatever else the packet holds: under 8 bytes; version, type, second-header flag, sequence flags, zero bit, length field; check byte
abbrev pub LayoutSpoiled : List ℕ → Type 0
LayoutSpoiled q =
    (length q < 8) ⊎ (byte q 0 / 32 ≢ 0) ⊎ (byte q 0 / 16 % 2 ≢ 1) ⊎ (byte q 0 / 8 % 2 ≢ 1) ⊎ (byte q 2 / 64 ≢ 3) ⊎ (byte q 6 / 128 ≢ 0)
    ⊎ (two q 4 + 7 ≢ length q)
    ⊎ (xor_all q ≢ 255)

-- THE COMMAND CALL

-- the same call with the packet q
abbrev pub call_with : State → CommandArgs → List ℕ → Outcome
call_with s c q = command_call s (record { packet = q; symbols = c.symbols; image = c.image; reply = c.reply })

-- it gets number n and leaves the state `after`; image and reply stay
pub record Gets (s : State) (c : CommandArgs) (q : List ℕ) (n : ℕ) (after : State) : Type 0 where
  pub number : answer_number (call_with s c q).answer ≡ n
  pub state : (call_with s c q).state ≡ after
  pub image : (call_with s c q).image ≡ c.image
  pub reply : ((call_with s c q).buffer ≡ c.reply) × (answer_length (call_with s c q).answer ≡ 0)

-- one more refused, and no other part changed
abbrev pub refused_once : State → State
refused_once s = state_with s s.places s.last s.replies s.values s.packets s.accepted ((s.refused + 1) % 65536)

-- of a command that is answered 0
pub record CommandFault (s : State) (c : CommandArgs) (q : List ℕ) : Type 0 where
  -- the check byte right again
  pub apid : OtherApid c.packet q → ((i : ℕ) → i ≢ 0 → i ≢ 1 → i ≢ 7 → Same c.packet q i) → xor_all q ≡ 255 → Gets s c q 5 s
  pub code : OtherCode c.packet q → ((i : ℕ) → i ≢ 6 → i ≢ 7 → Same c.packet q i) → xor_all q ≡ 255 → Gets s c q 6 (refused_once s)
  pub bytes : OtherLength c.packet q → ((i : ℕ) → i ≢ 4 → i ≢ 5 → i ≢ 7 → Same c.packet q i) → xor_all q ≡ 255 → Gets s c q 7 (refused_once s)
  pub unit : OtherUnit c.packet q → ((i : ℕ) → i ≢ 7 → i ≢ 8 → Same c.packet q i) → xor_all q ≡ 255 → Gets s c q 8 s
  -- the check byte alone changed
  pub check : length q ≡ length c.packet → byte q 7 ≢ byte c.packet 7 → ((i : ℕ) → i ≢ 7 → Same c.packet q i) → Gets s c q 4 (refused_once s)
  pub header : LayoutSpoiled q → Gets s c q 4 (refused_once s)

-- THE COMMAND READER, of a packet p that it reads: another unit is no fault there
abbrev pub number_read : List ℕ → ℕ
number_read q = reading_number (read_command q).reading

pub record ReaderFault (p q : List ℕ) : Type 0 where
  pub apid : OtherApid p q → ((i : ℕ) → i ≢ 0 → i ≢ 1 → i ≢ 7 → Same p q i) → xor_all q ≡ 255 → number_read q ≡ 5
  pub code : OtherCode p q → ((i : ℕ) → i ≢ 6 → i ≢ 7 → Same p q i) → xor_all q ≡ 255 → number_read q ≡ 6
  pub bytes : OtherLength p q → ((i : ℕ) → i ≢ 4 → i ≢ 5 → i ≢ 7 → Same p q i) → xor_all q ≡ 255 → number_read q ≡ 7
  pub unit : OtherUnit p q → ((i : ℕ) → i ≢ 7 → i ≢ 8 → Same p q i) → xor_all q ≡ 255 → number_read q ≡ 0
  pub check : length q ≡ length p → byte q 7 ≢ byte p 7 → ((i : ℕ) → i ≢ 7 → Same p q i) → number_read q ≡ 4
  pub header : LayoutSpoiled q → number_read q ≡ 4

-- THE DUMP PACKET READER, of a packet p that it accepts

abbrev pub number_given : List ℕ → ℕ
number_given q = packet_number (read_packet q).reading

-- version, type, second-header flag, sequence flags, length field, whatever else the packet holds; or under 28 bytes
abbrev pub TelemetrySpoiled : List ℕ → Type 0
TelemetrySpoiled q =
    (length q < 28) ⊎ (byte q 0 / 32 ≢ 0) ⊎ (byte q 0 / 16 % 2 ≢ 0) ⊎ (byte q 0 / 8 % 2 ≢ 0) ⊎ (byte q 2 / 64 ≢ 3) ⊎ (two q 4 + 7 ≢ length q)

-- q is p but for the four bytes from `at` on
abbrev pub ButFour : ℕ → List ℕ → List ℕ → Type 0
ButFour at p q = (length q ≡ length p) × ((i : ℕ) → i ≢ at → i ≢ at + 1 → i ≢ at + 2 → i ≢ at + 3 → Same p q i)

pub record PacketFault (p q : List ℕ) : Type 0 where
  pub header : TelemetrySpoiled q → number_given q ≡ 4
  pub apid : OtherApid p q → ((i : ℕ) → i ≢ 0 → i ≢ 1 → Same p q i) → number_given q ≡ 5
  -- a byte more or less; another number of words in this packet
  pub bytes : OtherLength p q → ((i : ℕ) → i ≢ 4 → i ≢ 5 → Same p q i) → number_given q ≡ 7
  pub count : ButFour 24 p q → four q 24 ≢ four p 24 → number_given q ≡ 7
  -- a requested address that is no multiple of 4, no requested words, and data from no whole word of the range
  pub address : ButFour 12 p q → four q 12 % 4 ≢ 0 → number_given q ≡ 9
  pub words : ButFour 16 p q → four q 16 ≡ 0 → number_given q ≡ 9
  pub here : ButFour 20 p q → four q 20 % 4 ≢ 0 → number_given q ≡ 9

pub record OneFault : Type 0 where
  pub command : (s : State) (c : CommandArgs) (q : List ℕ) → AreBytes c.packet → AreBytes q → answer_number (command_call s c).answer ≡ 0 → CommandFault s c q
  pub reader : (p q : List ℕ) → AreBytes p → AreBytes q → number_read p ≡ 0 → ReaderFault p q
  pub packet : (p q : List ℕ) → AreBytes p → AreBytes q → number_given p ≡ 0 → PacketFault p q
