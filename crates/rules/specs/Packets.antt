-- Paper 01, "Command packets": the primary header of CCSDS 133.0-B, the check byte, and the command layouts;
-- paper 02, A2: those of codes 8 and 9.
-- A byte past a packet's end reads as 0: no test that decides anything rests on one, since numbers 4 and 7 come first.
use Rattle.std.specs.Prelude.{Bool, true, ◌&&◌, cond, List, [], ◌∷◌, ◌++◌, ℕ, ◌+◌, ◌*◌, ◌-◌, ◌/◌, ◌%◌, leb, eqb, length, get_or, set, take, drop, replicate, Option, Some, None}
use Rattle.std.specs.Int.Bits.{bit_xor}
use Rattle.wire.specs.Bytes.{be, be_at, word_bytes, words_at}
use Rattle.wire.specs.Xor.{xor_all}
use Rattle.rules.specs.Regions.{aligned}
use Rattle.rules.specs.declared.Header.{Header}
use Rattle.rules.specs.declared.Range.{Range}
use Rattle.rules.specs.declared.Request.{Request}
use Rattle.rules.specs.declared.SymbolRequest.{SymbolRequest}
use Rattle.rules.specs.declared.Command.{Command}
use Rattle.rules.specs.declared.Command.TheVariants.{Dump, Cancel, Load, PoolStatistics, SymbolValue, DumpSymbol}

-- THE PRIMARY HEADER: six bytes

-- version (3 bits, 0), type (1), second-header flag (1), APID (11); sequence flags (2, always 3), sequence count (14); packet bytes minus 7 (16)
abbrev pub primary_header : ℕ → ℕ → ℕ → ℕ → ℕ → List ℕ
primary_header type second apid count bytes =
    be 2 (4096 * type + 2048 * second + apid) ++ be 2 (16384 * 3 + count) ++ be 2 (bytes - 7)

abbrev pub version_of : List ℕ → ℕ
version_of p = be_at 2 p 0 / 8192

abbrev pub type_of : List ℕ → ℕ
type_of p = be_at 2 p 0 / 4096 % 2

abbrev pub second_header_of : List ℕ → ℕ
second_header_of p = be_at 2 p 0 / 2048 % 2

abbrev pub apid_of : List ℕ → ℕ
apid_of p = be_at 2 p 0 % 2048

abbrev pub sequence_flags_of : List ℕ → ℕ
sequence_flags_of p = be_at 2 p 2 / 16384

abbrev pub sequence_count_of : List ℕ → ℕ
sequence_count_of p = be_at 2 p 2 % 16384

abbrev pub length_field_of : List ℕ → ℕ
length_field_of p = be_at 2 p 4

-- a primary header with this type and second-header flag, by its version, flags and length field
abbrev pub primary_rules : ℕ → ℕ → List ℕ → Bool
primary_rules type second p =
    eqb (version_of p) 0 && eqb (type_of p) type && eqb (second_header_of p) second && eqb (sequence_flags_of p) 3
    && eqb (length_field_of p + 7) (length p)

-- unit (4 bits) and transaction (12), which every packet has: a command at byte 8, telemetry at byte 6
abbrev pub identity : ℕ → ℕ → List ℕ
identity unit transaction = be 2 (4096 * unit + transaction)

abbrev pub unit_at : List ℕ → ℕ → ℕ
unit_at p at = be_at 2 p at / 4096

abbrev pub transaction_at : List ℕ → ℕ → ℕ
transaction_at p at = be_at 2 p at % 4096

-- header fields of a packet whose unit and transaction stand at byte `at`
abbrev pub header_at : List ℕ → ℕ → Header
header_at p at = record { count = sequence_count_of p; unit = unit_at p at; transaction = transaction_at p at }

-- COMMAND PACKETS, READ

abbrev pub command_apid : ℕ
command_apid = 1604

-- bytes 6 and 7: a zero bit, the function code, the check byte
abbrev pub zero_bit_of : List ℕ → ℕ
zero_bit_of p = get_or p 6 0 / 128

abbrev pub function_code_of : List ℕ → ℕ
function_code_of p = get_or p 6 0 % 128

-- what number 4 tests in a command
unfoldable pub well_formed : List ℕ → Bool
well_formed p = leb 8 (length p) && primary_rules 1 1 p && eqb (zero_bit_of p) 0 && eqb (xor_all p) 255

-- a command's unit and transaction
abbrev pub command_unit : List ℕ → ℕ
command_unit p = unit_at p 8

abbrev pub command_transaction : List ℕ → ℕ
command_transaction p = transaction_at p 8

-- size (16 bits) and address (32) of a dump or a load
abbrev pub request_of : List ℕ → Request
request_of p = record { size = be_at 2 p 10; address = record { 0 = be_at 4 p 12 } }

-- name size (8 bits) of a command that names a symbol; of a dump by name also offset (32 bits) and size (16), after the name
abbrev pub name_size_of : List ℕ → ℕ
name_size_of p = get_or p 10 0

abbrev pub symbol_request_of : List ℕ → SymbolRequest
symbol_request_of p = record { name = name_size_of p; offset = be_at 4 p 60; size = be_at 2 p 64 }

-- the command of a packet: by its function code, with its fields as they stand in the bytes
unfoldable pub decode : List ℕ → Option Command
decode p =
    cond (eqb (function_code_of p) 0) (Some (Dump (request_of p)))
    (cond (eqb (function_code_of p) 1) (Some Cancel)
    (cond (eqb (function_code_of p) 4) (Some (Load (request_of p)))
    (cond (eqb (function_code_of p) 7) (Some (PoolStatistics (be_at 2 p 10)))
    (cond (eqb (function_code_of p) 8) (Some (SymbolValue (name_size_of p)))
    (cond (eqb (function_code_of p) 9) (Some (DumpSymbol (symbol_request_of p))) None)))))

-- the eleven data words of a load
abbrev pub data_words : List ℕ → List ℕ
data_words p = words_at 11 p 16

-- the name in a command that names a symbol, and the 48 bytes that hold it, as twelve words
unfoldable pub name_in : List ℕ → List ℕ
name_in p = take (name_size_of p) (drop 12 p)

abbrev pub name_words : List ℕ → List ℕ
name_words p = words_at 12 p 12

-- COMMANDS

abbrev pub code_of : Command → ℕ
code_of (Dump q) = 0
code_of Cancel = 1
code_of (Load q) = 4
code_of (PoolStatistics i) = 7
code_of (SymbolValue n) = 8
code_of (DumpSymbol q) = 9

-- packet bytes
abbrev pub packet_length : Command → ℕ
packet_length (Dump q) = 16
packet_length Cancel = 10
packet_length (Load q) = 60
packet_length (PoolStatistics i) = 12
packet_length (SymbolValue n) = 60
packet_length (DumpSymbol q) = 68

-- the range that a dump or a load asks for
abbrev pub requested : Request → Range
requested q = record { start = q.address; words = q.size }

-- a name has 1 to 48 bytes
abbrev pub name_fits : ℕ → Bool
name_fits n = leb 1 n && leb n 48

-- what number 9 tests of a command's fields, without a symbol table
unfoldable pub field_rules : Command → Bool
field_rules (Dump q) = aligned (requested q) && leb 1 q.size
field_rules Cancel = true
field_rules (Load q) = aligned (requested q) && leb 1 q.size && leb q.size 11
field_rules (PoolStatistics i) = leb i 1
field_rules (SymbolValue n) = name_fits n
field_rules (DumpSymbol q) = name_fits q.name && leb 1 q.size

-- what number 9 tests of the bits that hold no field: the pad after the name size, and the last 16 bits of a dump by name
unfoldable pub zero_rules : List ℕ → Command → Bool
zero_rules p (Dump q) = true
zero_rules p Cancel = true
zero_rules p (Load q) = true
zero_rules p (PoolStatistics i) = true
zero_rules p (SymbolValue n) = eqb (get_or p 11 0) 0
zero_rules p (DumpSymbol q) = eqb (get_or p 11 0) 0 && eqb (be_at 2 p 66) 0

-- COMMAND PACKETS, WRITTEN

-- a load's eleven words as written: those beyond the size are 0
abbrev pub used_words : ℕ → List ℕ → List ℕ
used_words size ws = take 11 (take size ws ++ replicate 11 0)

-- name size (8 bits), pad (8, zero), and the 48 bytes of the name as written, from twelve words: those beyond its size are 0
abbrev pub name_bytes : ℕ → List ℕ → List ℕ
name_bytes n ws = take 48 (take n (word_bytes ws) ++ replicate 48 0)

abbrev pub name_field : ℕ → List ℕ → List ℕ
name_field n ws = n ∷ 0 ∷ name_bytes n ws

-- size (16 bits), address (32)
abbrev pub request_bytes : Request → List ℕ
request_bytes q = be 2 q.size ++ be 4 q.address.0

-- the body after unit and transaction
abbrev pub body_bytes : Command → List ℕ → List ℕ
body_bytes (Dump q) ws = request_bytes q
body_bytes Cancel ws = []
body_bytes (Load q) ws = request_bytes q ++ word_bytes (used_words q.size ws)
body_bytes (PoolStatistics i) ws = be 2 i
body_bytes (SymbolValue n) ws = name_field n ws
body_bytes (DumpSymbol q) ws = name_field q.name ws ++ be 4 q.offset ++ be 2 q.size ++ be 2 0

-- a packet whose byte 7 is 0, with the check byte there that makes the exclusive or of all bytes FF hex
unfoldable pub sealed : List ℕ → List ℕ
sealed p = set p 7 (bit_xor (xor_all p) 255)

-- primary header; zero bit and function code; check byte; unit and transaction; body
unfoldable pub command_bytes : Header → Command → List ℕ → List ℕ
command_bytes h k ws =
    sealed
    (primary_header 1 1 command_apid h.count (packet_length k) ++ (code_of k ∷ 0 ∷ []) ++ identity h.unit h.transaction ++ body_bytes k ws)
