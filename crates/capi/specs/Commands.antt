-- What the command writer and the two readers of the C interface (c/leatgarnet.h) leave: the number, the lent block or buffer, and the bytes.
use Rattle.std.specs.Prelude.{cond, List, ℕ, eqb, length, Option, Some, None, Result, Ok, Err}
use Rattle.rules.specs.Ground.{Wrote, write_command, read_command, reading_number, read_packet, packet_number}
use Rattle.rules.specs.Results.{answer_number, answer_length}
use Rattle.ground_blocks.specs.Fields.{header_in, command_in, data_in, block_words, field_words}
use Rattle.rules.specs.declared.Refusal.{Refusal}
use Rattle.rules.specs.declared.Telecommand.{Telecommand}
use Rattle.rules.specs.declared.DumpPacket.{DumpPacket}
use Rattle.rules.specs.declared.Command.{Command}

abbrev pub command_words : ℕ
command_words = 21

abbrev pub packet_words : ℕ
packet_words = 8

-- A COMMAND BLOCK WRITTEN AS A PACKET

pub record WriteLeft : Type 0 where
  pub number : ℕ
  pub bytes : ℕ
  pub buffer : List ℕ

abbrev pub wrote_left : Wrote → WriteLeft
wrote_left w = record { number = answer_number w.answer; bytes = answer_length w.answer; buffer = w.buffer }

abbrev pub write_left : List ℕ → List ℕ → Option Command → WriteLeft
write_left b buffer None = record { number = 6; bytes = 0; buffer = buffer }
write_left b buffer (Some k) = wrote_left (write_command (header_in b) k (data_in b) buffer)

-- a block of another length: 3, before all else
unfoldable pub lg_write_command : List ℕ → List ℕ → WriteLeft
lg_write_command b buffer =
    cond (eqb (length b) command_words) (write_left b buffer (command_in b)) (record { number = 3; bytes = 0; buffer = buffer })

-- A PACKET READ INTO A COMMAND BLOCK

pub record ReadLeft : Type 0 where
  pub number : ℕ
  pub block : List ℕ

-- the command's own words, the twelve beside it, and its last two
abbrev pub command_block : List ℕ → Result Telecommand Refusal → List ℕ → List ℕ
command_block b (Err r) ws = b
command_block b (Ok f) ws = block_words f ws

-- a block of another length: 3, before all else
unfoldable pub lg_read_command : List ℕ → List ℕ → ReadLeft
lg_read_command p b =
    cond (eqb (length b) command_words)
    (record { number = reading_number (read_command p).reading; block = command_block b (read_command p).reading (read_command p).words })
    (record { number = 3; block = b })

-- A DUMP PACKET READ

abbrev pub packet_block : List ℕ → Result DumpPacket Refusal → List ℕ
packet_block b (Err r) = b
packet_block b (Ok f) = field_words f

pub record PacketLeft : Type 0 where
  pub number : ℕ
  pub block : List ℕ
  pub bytes : ℕ

-- a block of another length: 3, before all else; the bytes are those of the data part
unfoldable pub lg_read_packet : List ℕ → List ℕ → PacketLeft
lg_read_packet p b =
    cond (eqb (length b) packet_words)
    (record {
      number = packet_number (read_packet p).reading;
      block = packet_block b (read_packet p).reading;
      bytes = length (read_packet p).part;
    })
    (record { number = 3; block = b; bytes = 0 })
