-- Paper 01, "Ground reader and writer", and paper 02, A2: the command writer, the command reader and the dump packet reader.
use Rattle.std.specs.Prelude.{Bool, false, ◌&&◌, not, List, [], ◌∷◌, ◌++◌, ℕ, ◌+◌, ◌*◌, ◌-◌, ◌/◌, ◌%◌, min, leb, ltb, eqb, length, drop, replicate, Option, Some, None, Result, Ok, Err}
use Rattle.lists.specs.Splice.{splice}
use Rattle.wire.specs.Bytes.{be_at}
use Rattle.rules.specs.Regions.{start_of, end_of, aligned}
use Rattle.rules.specs.States.{piece_words}
use Rattle.rules.specs.Packets.{primary_rules, apid_of, header_at, command_apid, well_formed, decode, data_words, packet_length, field_rules, zero_rules, name_words, command_bytes}
use Rattle.rules.specs.Commands.{is_unknown, wrong_length}
use Rattle.rules.specs.Slots.{dump_apid, packet_header}
use Rattle.rules.specs.Results.{number_of, Row, row, lowest}
use Rattle.rules.specs.declared.Header.{Header}
use Rattle.rules.specs.declared.Range.{Range}
use Rattle.rules.specs.declared.Command.{Command}
use Rattle.rules.specs.declared.Command.TheVariants.{Dump, Cancel, Load, PoolStatistics, SymbolValue, DumpSymbol}
use Rattle.rules.specs.declared.Refusal.{Refusal}
use Rattle.rules.specs.declared.Refusal.TheVariants.{BufferLength, Malformed, OtherApid, UnknownCode, PacketLength, BadField}
use Rattle.rules.specs.declared.CommandRead.{CommandRead}
use Rattle.rules.specs.declared.DumpPacket.{DumpPacket}
use Rattle.rules.specs.declared.Written.{Written}
use Rattle.rules.specs.declared.Telecommand.{Telecommand}

-- THE COMMAND WRITER

-- unit at most 15, transaction at most 4,095, sequence count at most 16,383
unfoldable pub header_rules : Header → Bool
header_rules h = leb h.unit 15 && leb h.transaction 4095 && leb h.count 16383

-- the writer's rows: 3 and 9
unfoldable pub writer_rows : Header → Command → List ℕ → List Row
writer_rows h k buffer =
    row BufferLength (ltb (length buffer) (packet_length k)) ∷ row BadField (not (header_rules h && field_rules k)) ∷ []

-- what the writer answers, and the buffer that it leaves
pub record Wrote : Type 0 where
  pub answer : Result Written Refusal
  pub buffer : List ℕ

abbrev pub conclude_write : Header → Command → List ℕ → List ℕ → Result (Unit {0}) Refusal → Wrote
conclude_write h k ws buffer (Err r) = record { answer = Err r; buffer = buffer }
conclude_write h k ws buffer (Ok tt) =
    record { answer = Ok (record { length = packet_length k }); buffer = splice buffer 0 (command_bytes h k ws) }

unfoldable pub write_command : Header → Command → List ℕ → List ℕ → Wrote
write_command h k ws buffer = conclude_write h k ws buffer (lowest (writer_rows h k buffer))

-- THE COMMAND READER

-- 9, as far as it can be seen without a symbol table
abbrev pub unreadable : List ℕ → Option Command → Bool
unreadable p None = false
unreadable p (Some k) = not (field_rules k && zero_rules p k)

-- the reader's rows: 4, 5, 6, 7 and 9
unfoldable pub reader_rows : List ℕ → List Row
reader_rows p =
    row Malformed (not (well_formed p))
    ∷ row OtherApid (not (eqb (apid_of p) command_apid))
    ∷ row UnknownCode (is_unknown (decode p))
    ∷ row PacketLength (wrong_length p (decode p))
    ∷ row BadField (unreadable p (decode p))
    ∷ []

-- the number of the reader's answer; the twelve words beside it are the eleven data words of a load and 0, those of a symbol's name, or zeros
abbrev pub reading_number : Result Telecommand Refusal → ℕ
reading_number a = number_of a

abbrev pub no_words : List ℕ
no_words = replicate 12 0

abbrev pub unread : Refusal → CommandRead
unread r = record { reading = Err r; words = no_words }

abbrev pub words_beside : List ℕ → Command → List ℕ
words_beside p (Dump q) = no_words
words_beside p Cancel = no_words
words_beside p (Load q) = data_words p ++ (0 ∷ [])
words_beside p (PoolStatistics i) = no_words
words_beside p (SymbolValue n) = name_words p
words_beside p (DumpSymbol q) = name_words p

abbrev pub fields_read : List ℕ → Option Command → CommandRead
fields_read p None = unread UnknownCode
fields_read p (Some k) = record { reading = Ok (record { header = header_at p 8; command = k }); words = words_beside p k }

abbrev pub conclude_read : List ℕ → Result (Unit {0}) Refusal → CommandRead
conclude_read p (Err r) = unread r
conclude_read p (Ok tt) = fields_read p (decode p)

unfoldable pub read_command : List ℕ → CommandRead
read_command p = conclude_read p (lowest (reader_rows p))

-- THE DUMP PACKET READER

-- the fields after the primary header: unit and transaction, tick, requested address and words, address and words of this packet's data
abbrev pub packet_fields : List ℕ → DumpPacket
packet_fields p =
    record {
      header = header_at p 6;
      tick = be_at 4 p 8;
      range = record { start = record { 0 = be_at 4 p 12 }; words = be_at 4 p 16 };
      here = record { 0 = be_at 4 p 20 };
      words = be_at 4 p 24;
    }

-- a range that some dump could ask for: a start that is a multiple of 4, 1 to 65,535 words, and no word past 2^32
abbrev pub could_be_dumped : Range → Bool
could_be_dumped r = aligned r && leb 1 r.words && leb r.words 65535 && leb (end_of r) 4294967296

-- `words` words from word `sent` of a range are one of its cuts: a multiple of the piece size below the request, and a whole piece or what is left
abbrev pub is_cut : Range → ℕ → ℕ → Bool
is_cut r sent words = eqb (sent % piece_words r) 0 && ltb sent r.words && eqb words (min (piece_words r) (r.words - sent))

-- the address of the data is that of some word of the range, and the data are the cut from that word
unfoldable pub cut_rules : DumpPacket → Bool
cut_rules f =
    could_be_dumped f.range && leb (start_of f.range) f.here.0 && eqb ((f.here.0 - start_of f.range) % 4) 0
    && is_cut f.range ((f.here.0 - start_of f.range) / 4) f.words

-- the dump packet reader's rows: 4, 5, 7 and 9
unfoldable pub packet_rows : List ℕ → List Row
packet_rows p =
    row Malformed (not (leb packet_header (length p) && primary_rules 0 0 p))
    ∷ row OtherApid (not (eqb (apid_of p) dump_apid))
    ∷ row PacketLength
    (not (leb 1 (packet_fields p).words && leb (packet_fields p).words (piece_words (packet_fields p).range) && eqb (length p) (packet_header + 4 * (packet_fields p).words)))
    ∷ row BadField (not (cut_rules (packet_fields p)))
    ∷ []

-- what the reader answers, and the part of the packet that it hands back: empty on a refusal
pub record PacketRead : Type 0 where
  pub reading : Result DumpPacket Refusal
  pub part : List ℕ

abbrev pub packet_number : Result DumpPacket Refusal → ℕ
packet_number a = number_of a

abbrev pub conclude_packet : List ℕ → Result (Unit {0}) Refusal → PacketRead
conclude_packet p (Err r) = record { reading = Err r; part = [] }
conclude_packet p (Ok tt) = record { reading = Ok (packet_fields p); part = drop packet_header p }

unfoldable pub read_packet : List ℕ → PacketRead
read_packet p = conclude_packet p (lowest (packet_rows p))
