-- Paper 02, A2: symbols, their values and dumps by name, computed with the definitions. The box is that of E1: unit 2, one region at 1000 hex of
-- four words, both rights.
use Rattle.std.specs.Prelude.{◌≡◌, true, false, List, [], ◌∷◌, ◌++◌, map, ℕ, length, set, take, replicate, Ok}
use Rattle.wire.specs.Bytes.{be, words_at}
use Rattle.rules.specs.Packets.{sealed, command_bytes}
use Rattle.symbols.specs.Table.{symbol_table, value_of}
use Rattle.rules.specs.Ground.{read_command, reading_number}
use Rattle.rules.specs.Demand3.{Call, command, Event, events}
use Rattle.rules.specs.Examples.{header, numbers, written, usual, four, slot_at}
use Rattle.rules.specs.declared.Command.TheVariants.{SymbolValue, DumpSymbol}
use Rattle.rules.specs.declared.State.{State}

-- A TABLE

-- a name of so many bytes, in its field of 48
abbrev pub in_field : List ℕ → List ℕ
in_field name = take 48 (name ++ replicate 48 0)

abbrev pub symbol : ℕ → List ℕ → ℕ → List ℕ
symbol kind name number = kind ∷ length name ∷ 0 ∷ 0 ∷ in_field name ++ be 4 number

-- "HEAT" and "HEATER", "H1", "H2", and a name of 48 bytes
abbrev pub heat : List ℕ
heat = 0x48 ∷ 0x45 ∷ 0x41 ∷ 0x54 ∷ []

abbrev pub heater : List ℕ
heater = heat ++ 0x45 ∷ 0x52 ∷ []

abbrev pub h1 : List ℕ
h1 = 0x48 ∷ 0x31 ∷ []

abbrev pub h2 : List ℕ
h2 = 0x48 ∷ 0x32 ∷ []

abbrev pub long : List ℕ
long = replicate 48 0x4C

-- two values, of which one's name begins the other's; an alias, and an alias of it; a value of a long name; an address near 2^32
abbrev pub symbols : List ℕ
symbols =
    symbol 0 heat 0x1004 ++ symbol 0 heater 0x1008 ++ symbol 1 h1 0 ++ symbol 1 h2 2 ++ symbol 0 long 0x1010
    ++ symbol 0 (0x54 ∷ []) 0xFFFFFFFC

-- COMMANDS, with the name's bytes in twelve words

abbrev pub value : ℕ → List ℕ → List ℕ
value t name = command_bytes (header 0 t) (SymbolValue (length name)) (words_at 12 (in_field name) 0)

abbrev pub by_name : ℕ → List ℕ → ℕ → ℕ → List ℕ
by_name t name offset size =
    command_bytes (header 0 t) (DumpSymbol (record { name = length name; offset = offset; size = size })) (words_at 12 (in_field name) 0)

abbrev pub send_with : List ℕ → List ℕ → Call
send_with table p = command (record { packet = p; symbols = table; image = four; reply = replicate 32 0 })

abbrev pub send : List ℕ → Call
send p = send_with symbols p

-- a packet with 1 in byte i, and the check byte for that
abbrev pub resealed : ℕ → List ℕ → List ℕ
resealed i p = sealed (set (set p 7 0) i 1)

-- the refused count, and the packet counts of APID 785 and 786, after each call
abbrev pub counts_in : Event → List ℕ
counts_in e = e.out.state.refused ∷ e.out.state.replies ∷ e.out.state.values ∷ []

abbrev pub counts : State → List Call → List (List ℕ)
counts s cs = map counts_in (events s cs)

pub record SymbolExamples : Type 0 where
  -- the value of an alias of an alias: the command's bytes, and the reply's
  pub alias_command : value 0x123 h2
      ≡ 0x1E ∷ 0x44 ∷ 0xC0 ∷ 0x00 ∷ 0x00 ∷ 0x35 ∷ 0x08 ∷ 0x22 ∷ 0x21 ∷ 0x23 ∷ 0x02 ∷ 0x00 ∷ 0x48 ∷ 0x32 ∷ 0x00 ∷ 0x00 ∷ 0x00 ∷ 0x00 ∷ 0x00 ∷ 0x00
      ∷ 0x00 ∷ 0x00 ∷ 0x00 ∷ 0x00 ∷ 0x00 ∷ 0x00 ∷ 0x00 ∷ 0x00 ∷ 0x00 ∷ 0x00 ∷ 0x00 ∷ 0x00 ∷ 0x00 ∷ 0x00 ∷ 0x00 ∷ 0x00 ∷ 0x00 ∷ 0x00 ∷ 0x00 ∷ 0x00
      ∷ 0x00 ∷ 0x00 ∷ 0x00 ∷ 0x00 ∷ 0x00 ∷ 0x00 ∷ 0x00 ∷ 0x00 ∷ 0x00 ∷ 0x00 ∷ 0x00 ∷ 0x00 ∷ 0x00 ∷ 0x00 ∷ 0x00 ∷ 0x00 ∷ 0x00 ∷ 0x00 ∷ 0x00 ∷ 0x00
      ∷ []
  pub alias_reply : written usual (send (value 0x123 h2) ∷ send (value 0x123 h2) ∷ [])
      ≡ (0x03 ∷ 0x12 ∷ 0xC0 ∷ 0x00 ∷ 0x00 ∷ 0x05 ∷ 0x21 ∷ 0x23 ∷ 0x00 ∷ 0x00 ∷ 0x10 ∷ 0x04 ∷ [])
      ∷ (0x03 ∷ 0x12 ∷ 0xC0 ∷ 0x01 ∷ 0x00 ∷ 0x05 ∷ 0x21 ∷ 0x23 ∷ 0x00 ∷ 0x00 ∷ 0x10 ∷ 0x04 ∷ [])
      ∷ []
  -- two words from eight bytes before a symbol whose name has 48 bytes: the command's bytes, and the packet's
  pub back_command : by_name 0x124 long 0xFFFFFFF8 2
      ≡ 0x1E ∷ 0x44 ∷ 0xC0 ∷ 0x00 ∷ 0x00 ∷ 0x3D ∷ 0x09 ∷ 0x61 ∷ 0x21 ∷ 0x24 ∷ 0x30 ∷ 0x00 ∷ 0x4C ∷ 0x4C ∷ 0x4C ∷ 0x4C ∷ 0x4C ∷ 0x4C ∷ 0x4C ∷ 0x4C
      ∷ 0x4C ∷ 0x4C ∷ 0x4C ∷ 0x4C ∷ 0x4C ∷ 0x4C ∷ 0x4C ∷ 0x4C ∷ 0x4C ∷ 0x4C ∷ 0x4C ∷ 0x4C ∷ 0x4C ∷ 0x4C ∷ 0x4C ∷ 0x4C ∷ 0x4C ∷ 0x4C ∷ 0x4C ∷ 0x4C
      ∷ 0x4C ∷ 0x4C ∷ 0x4C ∷ 0x4C ∷ 0x4C ∷ 0x4C ∷ 0x4C ∷ 0x4C ∷ 0x4C ∷ 0x4C ∷ 0x4C ∷ 0x4C ∷ 0x4C ∷ 0x4C ∷ 0x4C ∷ 0x4C ∷ 0x4C ∷ 0x4C ∷ 0x4C ∷ 0x4C
      ∷ 0xFF ∷ 0xFF ∷ 0xFF ∷ 0xF8 ∷ 0x00 ∷ 0x02 ∷ 0x00 ∷ 0x00
      ∷ []
  pub back_packet : written usual (send (by_name 0x124 long 0xFFFFFFF8 2) ∷ slot_at four 5 ∷ [])
      ≡ []
      ∷ (0x03 ∷ 0x14 ∷ 0xC0 ∷ 0x00 ∷ 0x00 ∷ 0x1D ∷ 0x21 ∷ 0x24 ∷ 0x00 ∷ 0x00 ∷ 0x00 ∷ 0x05 ∷ 0x00 ∷ 0x00 ∷ 0x10 ∷ 0x08 ∷ 0x00 ∷ 0x00
      ∷ 0x00 ∷ 0x02 ∷ 0x00 ∷ 0x00 ∷ 0x10 ∷ 0x08 ∷ 0x00 ∷ 0x00 ∷ 0x00 ∷ 0x02 ∷ 0x33 ∷ 0x33 ∷ 0x33 ∷ 0x33 ∷ 0x44 ∷ 0x44 ∷ 0x44 ∷ 0x44 ∷ [])
      ∷ []
  -- a name that begins another's is a name of its own
  pub prefix : map (value_of symbols) (heat ∷ heater ∷ h1 ∷ h2 ∷ long ∷ []) ≡ 0x1004 ∷ 0x1008 ∷ 0x1004 ∷ 0x1004 ∷ 0x1010 ∷ []
  pub unknown : numbers usual (send (value 1 (take 3 heat)) ∷ send (value 1 (heat ++ 0x45 ∷ [])) ∷ send (by_name 1 (take 47 long) 0 1) ∷ [])
      ≡ 18 ∷ 18 ∷ 18 ∷ []
  -- 17 before 9, 9 for the name before 18, 18 before 9 for the size, and 9 for the address before 10
  pub order : numbers usual
      (send_with (1 ∷ []) (value 1 []) ∷ send (value 1 []) ∷ send (by_name 1 h1 0 0) ∷ send (by_name 1 (0x58 ∷ []) 0 0) ∷ send (by_name 1 (0x54 ∷ []) 0 1)
      ∷ send (by_name 1 (0x54 ∷ []) 4 1)
      ∷ [])
      ≡ 17 ∷ 9 ∷ 9 ∷ 18 ∷ 10 ∷ 9 ∷ []
  -- the offset is signed and the sum does not wrap: below 0, not a multiple of 4, a word before the region, its first word
  pub offsets : numbers usual
      (map (λ o. send (by_name 1 heat o 1)) (0xFFFFEFFB ∷ 0xFFFFEFFC ∷ 2 ∷ 0xFFFFFFF8 ∷ 0x80000000 ∷ 0x7FFFFFFC ∷ 0xFFFFFFFC ∷ []))
      ≡ 9 ∷ 10 ∷ 9 ∷ 10 ∷ 9 ∷ 10 ∷ 0 ∷ []
  -- up to the region's last word, and one word more
  pub runs_out_lem : numbers usual (map (λ n. send (by_name n heat 8 n)) (1 ∷ 2 ∷ []) ++ map (λ n. send (by_name n heat 0 n)) (3 ∷ 4 ∷ [])) ≡ 0 ∷ 19 ∷ 0 ∷ 19 ∷ []
  -- 17 and 18 are counted, and a told value raises the count of APID 786 alone
  pub counted : counts usual (send_with (1 ∷ []) (value 1 h1) ∷ send (value 1 (0x58 ∷ [])) ∷ send (value 1 h1) ∷ [])
      ≡ (1 ∷ 0 ∷ 0 ∷ []) ∷ (2 ∷ 0 ∷ 0 ∷ []) ∷ (2 ∷ 0 ∷ 1 ∷ []) ∷ []
  -- no records are a table; a byte too many, another kind, no name, a long one, two equal names, an alias of itself and of a later record are not
  pub tables : map symbol_table
      ([] ∷ symbols ∷ (0 ∷ symbols) ∷ symbol 2 h1 0 ∷ symbol 0 [] 0 ∷ symbol 0 (replicate 49 0x4C) 0 ∷ (symbol 0 h1 0 ++ symbol 0 h1 4) ∷ symbol 1 h1 0
      ∷ (symbol 1 h1 1 ++ symbol 0 h2 0)
      ∷ (0 ∷ 1 ∷ 0 ∷ 0 ∷ 0x41 ∷ replicate 46 0 ++ 1 ∷ be 4 0)
      ∷ (0 ∷ 1 ∷ 0 ∷ 1 ∷ in_field (0x41 ∷ []) ++ be 4 0)
      ∷ (0 ∷ 1 ∷ 1 ∷ 0 ∷ in_field (0x41 ∷ []) ++ be 4 0)
      ∷ [])
      ≡ true ∷ true ∷ false ∷ false ∷ false ∷ false ∷ false ∷ false ∷ false ∷ false ∷ false ∷ false ∷ []
  -- two names of which one has a zero byte more: a table, and each has its own value
  pub zero_byte : symbol_table (symbol 0 h1 1 ++ symbol 0 (h1 ++ 0 ∷ []) 4) ≡ true
  pub zero_byte_values : map (value_of (symbol 0 h1 1 ++ symbol 0 (h1 ++ 0 ∷ []) 4)) (h1 ∷ (h1 ++ 0 ∷ []) ∷ []) ≡ 1 ∷ 4 ∷ []
  -- the pad, the zero bits (of an unknown name too) and a byte of the name field past the name, each 1
  pub set_bits : numbers usual
      (send (resealed 11 (value 1 h1)) ∷ send (resealed 67 (by_name 1 h1 0 1)) ∷ send (resealed 66 (by_name 1 (0x58 ∷ []) 0 1)) ∷ send (resealed 59 (value 1 h1)) ∷ [])
      ≡ 9 ∷ 9 ∷ 9 ∷ 0 ∷ []
  -- both commands, written and read
  pub read : (read_command (by_name 0x124 long 0xFFFFFFF8 2)).reading
      ≡ Ok (record { header = header 0 0x124; command = DumpSymbol (record { name = 48; offset = 0xFFFFFFF8; size = 2 }) })
  pub read_words : (read_command (value 0x123 h2)).words ≡ 0x48320000 ∷ replicate 11 0
  -- the name's bytes beyond its size are written 0
  pub beyond : command_bytes (header 0 0x123) (SymbolValue 2) (0x48324142 ∷ replicate 11 0x43434343) ≡ value 0x123 h2
  -- a size of 0 in a dump by name is the reader's 9, without a table
  pub unread : reading_number (read_command (by_name 1 h1 0 0)).reading ≡ 9
