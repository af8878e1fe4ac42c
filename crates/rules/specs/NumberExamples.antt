-- EXAMPLES OF EVERY NUMBER that E1 to E12 and the further examples leave out, on literal bytes, with the refused count after each; loads with their images;
-- and what demand 3 reads of a list of calls. The box is that of E1: unit 2, one region at 1000 hex of four words, both rights.
use Rattle.std.specs.Prelude.{◌≡◌, true, false, List, [], ◌∷◌, ◌++◌, map, ℕ, length, set, take, drop, replicate}
use Rattle.rules.specs.Ground.{read_command, reading_number, read_packet, packet_number}
use Rattle.rules.specs.Demand3.{Call, command, slot, Event, events, accepts, cancels, writes, packets, packet_in, slots}
use Rattle.rules.specs.Results.{verdict_number}
use Rattle.rules.specs.States.{start_up}
use Rattle.rules.specs.FurtherExamples.{region, cancel}
use Rattle.rules.specs.Packets.{command_bytes}
use Rattle.rules.specs.Examples.{range, both, box, fresh, header, dump, send, slot_at, numbers, images, written, usual, four}
use Rattle.rules.specs.declared.Command.TheVariants.{PoolStatistics}
use Rattle.rules.specs.declared.State.{State}

-- COMMAND PACKETS: E1's dump, and with one thing changed and the check byte right

-- E1's dump
abbrev pub accepted : List ℕ
accepted =
    0x1E ∷ 0x44 ∷ 0xC0 ∷ 0x00 ∷ 0x00 ∷ 0x09 ∷ 0x00 ∷ 0x78 ∷ 0x21 ∷ 0x23 ∷ 0x00 ∷ 0x02 ∷ 0x00 ∷ 0x00 ∷ 0x10 ∷ 0x04 ∷ []

-- APID 1605
abbrev pub other_apid : List ℕ
other_apid =
    0x1E ∷ 0x45 ∷ 0xC0 ∷ 0x00 ∷ 0x00 ∷ 0x09 ∷ 0x00 ∷ 0x79 ∷ 0x21 ∷ 0x23 ∷ 0x00 ∷ 0x02 ∷ 0x00 ∷ 0x00 ∷ 0x10 ∷ 0x04 ∷ []

-- function code 2
abbrev pub unknown_code : List ℕ
unknown_code =
    0x1E ∷ 0x44 ∷ 0xC0 ∷ 0x00 ∷ 0x00 ∷ 0x09 ∷ 0x02 ∷ 0x7A ∷ 0x21 ∷ 0x23 ∷ 0x00 ∷ 0x02 ∷ 0x00 ∷ 0x00 ∷ 0x10 ∷ 0x04 ∷ []

-- function code 127
abbrev pub highest_code : List ℕ
highest_code =
    0x1E ∷ 0x44 ∷ 0xC0 ∷ 0x00 ∷ 0x00 ∷ 0x09 ∷ 0x7F ∷ 0x07 ∷ 0x21 ∷ 0x23 ∷ 0x00 ∷ 0x02 ∷ 0x00 ∷ 0x00 ∷ 0x10 ∷ 0x04 ∷ []

-- a byte less, and its length field
abbrev pub one_byte_less : List ℕ
one_byte_less =
    0x1E ∷ 0x44 ∷ 0xC0 ∷ 0x00 ∷ 0x00 ∷ 0x08 ∷ 0x00 ∷ 0x7D ∷ 0x21 ∷ 0x23 ∷ 0x00 ∷ 0x02 ∷ 0x00 ∷ 0x00 ∷ 0x10 ∷ []

-- a byte more, and its length field
abbrev pub one_byte_more : List ℕ
one_byte_more =
    0x1E ∷ 0x44 ∷ 0xC0 ∷ 0x00 ∷ 0x00 ∷ 0x0A ∷ 0x00 ∷ 0x7B ∷ 0x21 ∷ 0x23 ∷ 0x00 ∷ 0x02 ∷ 0x00 ∷ 0x00 ∷ 0x10 ∷ 0x04
    ∷ 0x00 ∷ []

-- unit 3
abbrev pub other_unit : List ℕ
other_unit =
    0x1E ∷ 0x44 ∷ 0xC0 ∷ 0x00 ∷ 0x00 ∷ 0x09 ∷ 0x00 ∷ 0x68 ∷ 0x31 ∷ 0x23 ∷ 0x00 ∷ 0x02 ∷ 0x00 ∷ 0x00 ∷ 0x10 ∷ 0x04 ∷ []

-- the check byte spoiled
abbrev pub wrong_check : List ℕ
wrong_check =
    0x1E ∷ 0x44 ∷ 0xC0 ∷ 0x00 ∷ 0x00 ∷ 0x09 ∷ 0x00 ∷ 0x79 ∷ 0x21 ∷ 0x23 ∷ 0x00 ∷ 0x02 ∷ 0x00 ∷ 0x00 ∷ 0x10 ∷ 0x04 ∷ []

-- version 1
abbrev pub version_one : List ℕ
version_one =
    0x3E ∷ 0x44 ∷ 0xC0 ∷ 0x00 ∷ 0x00 ∷ 0x09 ∷ 0x00 ∷ 0x58 ∷ 0x21 ∷ 0x23 ∷ 0x00 ∷ 0x02 ∷ 0x00 ∷ 0x00 ∷ 0x10 ∷ 0x04 ∷ []

-- type 0
abbrev pub type_zero : List ℕ
type_zero =
    0x0E ∷ 0x44 ∷ 0xC0 ∷ 0x00 ∷ 0x00 ∷ 0x09 ∷ 0x00 ∷ 0x68 ∷ 0x21 ∷ 0x23 ∷ 0x00 ∷ 0x02 ∷ 0x00 ∷ 0x00 ∷ 0x10 ∷ 0x04 ∷ []

-- no second header
abbrev pub no_second_header : List ℕ
no_second_header =
    0x16 ∷ 0x44 ∷ 0xC0 ∷ 0x00 ∷ 0x00 ∷ 0x09 ∷ 0x00 ∷ 0x70 ∷ 0x21 ∷ 0x23 ∷ 0x00 ∷ 0x02 ∷ 0x00 ∷ 0x00 ∷ 0x10 ∷ 0x04 ∷ []

-- sequence flags 2
abbrev pub flags_two : List ℕ
flags_two =
    0x1E ∷ 0x44 ∷ 0x80 ∷ 0x00 ∷ 0x00 ∷ 0x09 ∷ 0x00 ∷ 0x38 ∷ 0x21 ∷ 0x23 ∷ 0x00 ∷ 0x02 ∷ 0x00 ∷ 0x00 ∷ 0x10 ∷ 0x04 ∷ []

-- the zero bit set
abbrev pub zero_bit_set : List ℕ
zero_bit_set =
    0x1E ∷ 0x44 ∷ 0xC0 ∷ 0x00 ∷ 0x00 ∷ 0x09 ∷ 0x80 ∷ 0xF8 ∷ 0x21 ∷ 0x23 ∷ 0x00 ∷ 0x02 ∷ 0x00 ∷ 0x00 ∷ 0x10 ∷ 0x04 ∷ []

-- a length field of one more
abbrev pub field_one_more : List ℕ
field_one_more =
    0x1E ∷ 0x44 ∷ 0xC0 ∷ 0x00 ∷ 0x00 ∷ 0x0A ∷ 0x00 ∷ 0x7B ∷ 0x21 ∷ 0x23 ∷ 0x00 ∷ 0x02 ∷ 0x00 ∷ 0x00 ∷ 0x10 ∷ 0x04 ∷ []

-- cancel
abbrev pub cancelled : List ℕ
cancelled =
    0x1E ∷ 0x44 ∷ 0xC0 ∷ 0x00 ∷ 0x00 ∷ 0x03 ∷ 0x01 ∷ 0x65 ∷ 0x21 ∷ 0x23 ∷ []

-- load of eleven words 01010101, 02020202, .. to 1000
abbrev pub eleven_words : List ℕ
eleven_words =
    0x1E ∷ 0x44 ∷ 0xC0 ∷ 0x01 ∷ 0x00 ∷ 0x35 ∷ 0x04 ∷ 0xD8 ∷ 0x2A ∷ 0xBC ∷ 0x00 ∷ 0x0B ∷ 0x00 ∷ 0x00 ∷ 0x10 ∷ 0x00
    ∷ 0x01 ∷ 0x01 ∷ 0x01 ∷ 0x01 ∷ 0x02 ∷ 0x02 ∷ 0x02 ∷ 0x02 ∷ 0x03 ∷ 0x03 ∷ 0x03 ∷ 0x03 ∷ 0x04 ∷ 0x04 ∷ 0x04 ∷ 0x04
    ∷ 0x05 ∷ 0x05 ∷ 0x05 ∷ 0x05 ∷ 0x06 ∷ 0x06 ∷ 0x06 ∷ 0x06 ∷ 0x07 ∷ 0x07 ∷ 0x07 ∷ 0x07 ∷ 0x08 ∷ 0x08 ∷ 0x08 ∷ 0x08
    ∷ 0x09 ∷ 0x09 ∷ 0x09 ∷ 0x09 ∷ 0x0A ∷ 0x0A ∷ 0x0A ∷ 0x0A ∷ 0x0B ∷ 0x0B ∷ 0x0B ∷ 0x0B ∷ []

-- load of seven words 01010101, 02020202, .. to 1000; the unused four are not 0
abbrev pub seven_words : List ℕ
seven_words =
    0x1E ∷ 0x44 ∷ 0xC0 ∷ 0x01 ∷ 0x00 ∷ 0x35 ∷ 0x04 ∷ 0xD4 ∷ 0x2A ∷ 0xBC ∷ 0x00 ∷ 0x07 ∷ 0x00 ∷ 0x00 ∷ 0x10 ∷ 0x00
    ∷ 0x01 ∷ 0x01 ∷ 0x01 ∷ 0x01 ∷ 0x02 ∷ 0x02 ∷ 0x02 ∷ 0x02 ∷ 0x03 ∷ 0x03 ∷ 0x03 ∷ 0x03 ∷ 0x04 ∷ 0x04 ∷ 0x04 ∷ 0x04
    ∷ 0x05 ∷ 0x05 ∷ 0x05 ∷ 0x05 ∷ 0x06 ∷ 0x06 ∷ 0x06 ∷ 0x06 ∷ 0x07 ∷ 0x07 ∷ 0x07 ∷ 0x07 ∷ 0x08 ∷ 0x08 ∷ 0x08 ∷ 0x08
    ∷ 0x09 ∷ 0x09 ∷ 0x09 ∷ 0x09 ∷ 0x0A ∷ 0x0A ∷ 0x0A ∷ 0x0A ∷ 0x0B ∷ 0x0B ∷ 0x0B ∷ 0x0B ∷ []

-- the value of the symbol A
abbrev pub value_of_a : List ℕ
value_of_a =
    0x1E ∷ 0x44 ∷ 0xC0 ∷ 0x00 ∷ 0x00 ∷ 0x35 ∷ 0x08 ∷ 0x1A ∷ 0x21 ∷ 0x23 ∷ 0x01 ∷ 0x00 ∷ 0x41 ∷ 0x00 ∷ 0x00 ∷ 0x00
    ∷ 0x00 ∷ 0x00 ∷ 0x00 ∷ 0x00 ∷ 0x00 ∷ 0x00 ∷ 0x00 ∷ 0x00 ∷ 0x00 ∷ 0x00 ∷ 0x00 ∷ 0x00 ∷ 0x00 ∷ 0x00 ∷ 0x00 ∷ 0x00
    ∷ 0x00 ∷ 0x00 ∷ 0x00 ∷ 0x00 ∷ 0x00 ∷ 0x00 ∷ 0x00 ∷ 0x00 ∷ 0x00 ∷ 0x00 ∷ 0x00 ∷ 0x00 ∷ 0x00 ∷ 0x00 ∷ 0x00 ∷ 0x00
    ∷ 0x00 ∷ 0x00 ∷ 0x00 ∷ 0x00 ∷ 0x00 ∷ 0x00 ∷ 0x00 ∷ 0x00 ∷ 0x00 ∷ 0x00 ∷ 0x00 ∷ 0x00 ∷ []

-- A DUMP PACKET: E2's
abbrev pub dump_packet : List ℕ
dump_packet =
    0x03 ∷ 0x14 ∷ 0xC0 ∷ 0x00 ∷ 0x00 ∷ 0x1D ∷ 0x21 ∷ 0x23 ∷ 0x00 ∷ 0x00 ∷ 0x00 ∷ 0x05 ∷ 0x00 ∷ 0x00 ∷ 0x10 ∷ 0x04
    ∷ 0x00 ∷ 0x00 ∷ 0x00 ∷ 0x02 ∷ 0x00 ∷ 0x00 ∷ 0x10 ∷ 0x04 ∷ 0x00 ∷ 0x00 ∷ 0x00 ∷ 0x02 ∷ 0x22 ∷ 0x22 ∷ 0x22 ∷ 0x22
    ∷ 0x33 ∷ 0x33 ∷ 0x33 ∷ 0x33 ∷ []

-- a symbol table of one record: A is FFFFFFFC hex
abbrev pub table_of_a : List ℕ
table_of_a = 0 ∷ 1 ∷ 0 ∷ 0 ∷ 0x41 ∷ replicate 47 0 ++ 0xFF ∷ 0xFF ∷ 0xFF ∷ 0xFC ∷ []

-- CALLS

abbrev pub send_lent : List ℕ → ℕ → List ℕ → Call
send_lent image reply p = command (record { packet = p; symbols = table_of_a; image = image; reply = replicate reply 0 })

abbrev pub refused_in : State → List Call → List ℕ
refused_in s cs = map (λ e. e.out.state.refused) (events s cs)

-- one after the other, on the usual image
abbrev pub send_all : List (List ℕ) → List Call
send_all ps = map (send four) ps

abbrev pub read_numbers : List (List ℕ) → List ℕ
read_numbers ps = map (λ p. reading_number (read_command p).reading) ps

abbrev pub packet_numbers : List (List ℕ) → List ℕ
packet_numbers ps = map (λ p. packet_number (read_packet p).reading) ps

-- a box with one region of eleven words
abbrev pub box_of_eleven : State
box_of_eleven = fresh (both 0x1000 11 ∷ [])

abbrev pub in_turn : List ℕ
in_turn = 0x01010101 ∷ 0x02020202 ∷ 0x03030303 ∷ 0x04040404 ∷ 0x05050505 ∷ 0x06060606 ∷ 0x07070707 ∷ []

-- a box with a region of four words with both rights, all of it pool 1, which is damaged, and one of two words with load right alone: 9, 10, 11, a dump, 12, three
-- dumps, 13, 14, 15 and 19
abbrev pub crowded : State
crowded = box (both 0x1000 4 ∷ region 0x2000 2 true false ∷ []) (range 0x1000 4)

abbrev pub in_order : List Call
in_order =
    map (send (replicate 6 0))
    (dump 1 1 0x1002 ∷ dump 1 1 0x3000 ∷ dump 1 1 0x2000 ∷ dump 1 1 0x1000 ∷ dump 1 1 0x1000 ∷ dump 2 1 0x1000 ∷ dump 3 1 0x1000 ∷ dump 4 1 0x1000
    ∷ dump 5 1 0x1000 ∷ cancel 9 ∷ command_bytes (header 0 1) (PoolStatistics 1) [] ∷ dump 5 5 0x1000 ∷ [])

-- A LIST OF CALLS as demand 3 reads it: a dump with number 123 hex, a slot with a short buffer, one with a short image, one that sends it; the dump again, its
-- cancel, a slot, and the dump a third time with a slot
abbrev pub calls : List Call
calls =
    send four accepted ∷ slot (record { tick = 1; image = four; buffer = replicate 4091 0 }) ∷ slot_at (take 3 four) 2 ∷ slot_at four 3
    ∷ send four accepted ∷ send four cancelled ∷ slot_at four 4 ∷ send four accepted ∷ slot_at four 5 ∷ []

abbrev pub seen : List Event
seen = events usual calls

pub record NumberExamples : Type 0 where
  -- the command call: 4 to 8, and the refused count; then 0
  pub one_fault : numbers usual (send_all (wrong_check ∷ other_apid ∷ unknown_code ∷ highest_code ∷ one_byte_less ∷ one_byte_more ∷ other_unit ∷ accepted ∷ []))
      ≡ 4 ∷ 5 ∷ 6 ∷ 6 ∷ 7 ∷ 7 ∷ 8 ∷ 0 ∷ []
  pub one_fault_counted : refused_in usual (send_all (wrong_check ∷ other_apid ∷ unknown_code ∷ highest_code ∷ one_byte_less ∷ one_byte_more ∷ other_unit ∷ accepted ∷ []))
      ≡ 1 ∷ 1 ∷ 2 ∷ 3 ∷ 4 ∷ 5 ∷ 5 ∷ 5 ∷ []
  -- 9 to 15 and 19 are counted, one each
  pub in_order_lem : numbers crowded in_order ≡ 9 ∷ 10 ∷ 11 ∷ 0 ∷ 12 ∷ 0 ∷ 0 ∷ 0 ∷ 13 ∷ 14 ∷ 15 ∷ 19 ∷ []
  pub in_order_counted : refused_in crowded in_order ≡ 1 ∷ 2 ∷ 3 ∷ 3 ∷ 4 ∷ 4 ∷ 4 ∷ 4 ∷ 5 ∷ 6 ∷ 7 ∷ 8 ∷ []
  -- each part of the header that 4 names, and a packet of seven bytes
  pub headers : numbers usual (send_all (version_one ∷ type_zero ∷ no_second_header ∷ flags_two ∷ zero_bit_set ∷ field_one_more ∷ take 7 accepted ∷ []))
      ≡ 4 ∷ 4 ∷ 4 ∷ 4 ∷ 4 ∷ 4 ∷ 4 ∷ []
  -- an image of one word more and one less: 2; a reply buffer of 31 bytes: 3, after 2 and before 4; of 32: 0
  pub lent : numbers usual
      (send_lent (four ++ 0 ∷ []) 32 accepted ∷ send_lent (take 3 four) 31 wrong_check ∷ send_lent four 31 wrong_check ∷ send_lent four 32 accepted ∷ [])
      ≡ 2 ∷ 2 ∷ 3 ∷ 0 ∷ []
  pub lent_counted : refused_in usual (send_lent (four ++ 0 ∷ []) 32 accepted ∷ send_lent four 31 wrong_check ∷ []) ≡ 0 ∷ 0 ∷ []
  -- a packet buffer of 4,091 bytes: 3; of 4,092: 0
  pub slot_short : numbers usual (send four accepted ∷ slot (record { tick = 1; image = four; buffer = replicate 4091 0 }) ∷ slot_at four 1 ∷ []) ≡ 0 ∷ 3 ∷ 0 ∷ []
  -- the command reader, which asks no unit
  pub reader : read_numbers (wrong_check ∷ other_apid ∷ unknown_code ∷ highest_code ∷ one_byte_less ∷ one_byte_more ∷ other_unit ∷ accepted ∷ [])
      ≡ 4 ∷ 5 ∷ 6 ∷ 6 ∷ 7 ∷ 7 ∷ 0 ∷ 0 ∷ []
  pub reader_headers : read_numbers (version_one ∷ type_zero ∷ no_second_header ∷ flags_two ∷ zero_bit_set ∷ field_one_more ∷ take 7 accepted ∷ [])
      ≡ 4 ∷ 4 ∷ 4 ∷ 4 ∷ 4 ∷ 4 ∷ 4 ∷ []
  -- the dump packet reader: sequence flags 2, and 27 bytes; APID 789; three words in a packet of two, and none; a byte less with its length field
  pub packet_layout : packet_numbers
      (set dump_packet 2 0x80 ∷ take 27 dump_packet ∷ set dump_packet 1 0x15 ∷ set dump_packet 27 3 ∷ set dump_packet 27 0 ∷ set (take 35 dump_packet) 5 0x1C ∷ [])
      ≡ 4 ∷ 4 ∷ 5 ∷ 7 ∷ 7 ∷ 7 ∷ []
  -- a requested address of 1006 hex; no requested words; three requested words; data from 1006 and from 1008 hex; and as E2 has it
  pub packet_cut : packet_numbers
      (set dump_packet 15 6 ∷ set dump_packet 19 0 ∷ set dump_packet 19 3 ∷ set dump_packet 23 6 ∷ set dump_packet 23 8 ∷ dump_packet ∷ [])
      ≡ 9 ∷ 9 ∷ 9 ∷ 9 ∷ 9 ∷ 0 ∷ []
  -- two pools that overlap, and two that are the same, are taken
  pub pools_overlap : map (λ ps. verdict_number (start_up (both 0x1000 4 ∷ []) 1 ps 2).verdict)
      ((range 0x1000 3 ∷ range 0x1004 3 ∷ []) ∷ (range 0x1000 4 ∷ range 0x1000 4 ∷ []) ∷ [])
      ≡ 0 ∷ 0 ∷ []
  -- loads: all eleven words; seven, where the unused four are not 0
  pub eleven : images box_of_eleven (send (replicate 11 9) eleven_words ∷ [])
      ≡ (in_turn ++ 0x08080808 ∷ 0x09090909 ∷ 0x0A0A0A0A ∷ 0x0B0B0B0B ∷ []) ∷ []
  pub seven : images box_of_eleven (send (replicate 11 9) seven_words ∷ []) ≡ (in_turn ++ replicate 4 9) ∷ []
  -- a value with its top bit
  pub value : written usual (send_lent four 32 value_of_a ∷ []) ≡ (0x03 ∷ 0x12 ∷ 0xC0 ∷ 0x00 ∷ 0x00 ∷ 0x05 ∷ 0x21 ∷ 0x23 ∷ 0xFF ∷ 0xFF ∷ 0xFF ∷ 0xFC ∷ []) ∷ []
  -- the tests of demand 3, call by call; the packets of the dump with number 123 hex before the next is accepted; the slots that count
  pub seen_numbers : numbers usual calls ≡ 0 ∷ 3 ∷ 2 ∷ 0 ∷ 0 ∷ 0 ∷ 16 ∷ 0 ∷ 0 ∷ []
  pub seen_accepts : map (accepts 0x123) seen ≡ true ∷ false ∷ false ∷ false ∷ true ∷ false ∷ false ∷ true ∷ false ∷ []
  pub seen_cancels : map (cancels 0x123) seen ≡ false ∷ false ∷ false ∷ false ∷ false ∷ true ∷ false ∷ false ∷ false ∷ []
  pub seen_writes : map (writes 0x123) seen ≡ false ∷ false ∷ false ∷ true ∷ false ∷ false ∷ false ∷ false ∷ true ∷ []
  pub seen_others : map (accepts 0x124) seen ++ map (cancels 0x122) seen ++ map (writes 0x023) seen ≡ replicate 27 false
  pub seen_packets : map packet_in (packets 0x123 (drop 1 seen)) ≡ set dump_packet 11 3 ∷ []
  pub seen_slots : map (λ n. length (slots (take n seen))) (1 ∷ 2 ∷ 3 ∷ 4 ∷ 6 ∷ 7 ∷ 9 ∷ []) ≡ 0 ∷ 0 ∷ 0 ∷ 1 ∷ 1 ∷ 2 ∷ 3 ∷ []
