-- A dump packet's bytes from its fields, as `packet_bytes` of rules lays them down, and when they fit.
use Rattle.std.specs.Prelude.{◌≡◌, Bool, ◌&&◌, List, ◌++◌, ℕ, ◌+◌, ◌*◌, ◌≤◌, leb, eqb, length}
use Rattle.wire.specs.Bytes.{be, word_bytes}
use Rattle.rules.specs.Regions.{start_of}
use Rattle.rules.specs.Packets.{primary_header, identity}
use Rattle.rules.specs.Slots.{dump_apid, packet_header}
use Rattle.rules.specs.declared.DumpPacket.{DumpPacket}

-- the header of a packet with n words
abbrev pub head_bytes : DumpPacket → ℕ → List ℕ
head_bytes f n =
    primary_header 0 0 dump_apid f.header.count (packet_header + 4 * n) ++ identity f.header.unit f.header.transaction ++ be 4 f.tick
    ++ be 4 (start_of f.range)
    ++ be 4 f.range.words
    ++ be 4 f.here.0
    ++ be 4 n

-- the header, and then the data
unfoldable pub dump_packet_bytes : DumpPacket → List ℕ → List ℕ
dump_packet_bytes f ws = head_bytes f (length ws) ++ word_bytes ws

-- each field fits its bits, its count of words is the data's, and the packet fits the buffer
pub record PacketFits (f : DumpPacket) (ws buffer : List ℕ) : Type 0 where
  pub count : f.header.count ≤ 16383
  pub unit : f.header.unit ≤ 15
  pub transaction : f.header.transaction ≤ 4095
  pub most : length ws ≤ 1016
  pub words : f.words ≡ length ws
  pub room : packet_header + 4 * length ws ≤ length buffer

-- the same as a test, of n words and a buffer of `room` bytes
abbrev pub packet_fits : DumpPacket → ℕ → ℕ → Bool
packet_fits f n room =
    leb f.header.count 16383 && leb f.header.unit 15 && leb f.header.transaction 4095 && leb n 1016 && eqb f.words n
    && leb (packet_header + 4 * f.words) room
