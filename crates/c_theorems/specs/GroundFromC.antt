-- What the command writer and the two readers are to C: the ground's calls over blocks of words. With FromC this fixes what the definitions of the
-- calls from C share with the code.
use Rattle.std.specs.Prelude.{◌≡◌, ◌≢◌, true, false, cond, List, [], ◌∷◌, ◌++◌, map, ℕ, ◌<◌, leb, eqb, length, get_or, take, drop, replicate, Ok, Err}
use Rattle.rules.specs.Cases.{one_of}
use Rattle.rules.specs.Ground.{write_command, read_command, read_packet}
use Rattle.rules.specs.Results.{number, answer_number, answer_length}
use Rattle.rules.specs.declared.Command.{Command}
use Rattle.rules.specs.declared.Command.TheVariants.{Dump, Cancel, Load, PoolStatistics, SymbolValue, DumpSymbol}
use Rattle.rules.specs.declared.DumpPacket.{DumpPacket}
use Rattle.rules.specs.declared.Header.{Header}
use Rattle.rules.specs.declared.Refusal.{Refusal}
use Rattle.rules.specs.declared.Request.{Request}
use Rattle.rules.specs.declared.SymbolRequest.{SymbolRequest}
use Rattle.rules.specs.declared.Telecommand.{Telecommand}
use Rattle.ground_blocks.specs.Fields.{head_words, tail_words, field_words}
use Rattle.capi.specs.Commands.{lg_write_command, lg_read_command, lg_read_packet}

-- a block of 21 words, with the code of a command
pub record CommandBlock (b : List ℕ) : Type 0 where
  pub words : length b ≡ 21
  pub code : one_of (get_or b 0 0) (0 ∷ 1 ∷ 4 ∷ 7 ∷ 8 ∷ 9 ∷ []) ≡ true

-- sequence count, unit and transaction fit their types
pub record HeadFits (b : List ℕ) : Type 0 where
  pub count : get_or b 1 0 < 65536
  pub unit : get_or b 2 0 < 256
  pub transaction : get_or b 3 0 < 65536

abbrev pub request : List ℕ → Request
request b = record { size = get_or b 4 0; address = record { 0 = get_or b 5 0 } }

abbrev pub symbol_request : List ℕ → SymbolRequest
symbol_request b = record { name = get_or b 19 0; offset = get_or b 20 0; size = get_or b 4 0 }

-- the block is written as this command, with the twelve words from word 7 on
abbrev pub WrittenAs : List ℕ → Command → Type 0
WrittenAs b k =
    (buffer : List ℕ)
    → let w = write_command (record { count = get_or b 1 0; unit = get_or b 2 0; transaction = get_or b 3 0 }) k (take 12 (drop 7 b)) buffer in
    lg_write_command b buffer ≡ record { number = answer_number w.answer; bytes = answer_length w.answer; buffer = w.buffer }

-- the packet bytes of a function code
abbrev pub room_for : ℕ → ℕ
room_for code = cond (eqb code 0) 16 (cond (eqb code 1) 10 (cond (eqb code 7) 12 (cond (eqb code 9) 68 60)))

-- it is answered 9, and 3 where the buffer is shorter than its packet
abbrev pub Nine : List ℕ → Type 0
Nine b =
    (buffer : List ℕ)
    → lg_write_command b buffer ≡ record { number = cond (leb (room_for (get_or b 0 0)) (length buffer)) 9 3; bytes = 0; buffer = buffer }

pub record GroundFromC : Type 0 where
  -- THE WORDS: function code, sequence count, unit, transaction, size, address, pool; name size and offset; then those of a dump packet
  pub dump_words : (h : Header) (q : Request) → head_words (record { header = h; command = Dump q })
      ≡ 0 ∷ h.count ∷ h.unit ∷ h.transaction ∷ q.size ∷ q.address.0 ∷ 0 ∷ []
  pub cancel_words : (h : Header) → head_words (record { header = h; command = Cancel }) ≡ 1 ∷ h.count ∷ h.unit ∷ h.transaction ∷ 0 ∷ 0 ∷ 0 ∷ []
  pub load_words : (h : Header) (q : Request) → head_words (record { header = h; command = Load q })
      ≡ 4 ∷ h.count ∷ h.unit ∷ h.transaction ∷ q.size ∷ q.address.0 ∷ 0 ∷ []
  pub pool_words_lem : (h : Header) (i : ℕ) → head_words (record { header = h; command = PoolStatistics i })
      ≡ 7 ∷ h.count ∷ h.unit ∷ h.transaction ∷ 0 ∷ 0 ∷ i ∷ []
  pub value_words : (h : Header) (n : ℕ) → head_words (record { header = h; command = SymbolValue n })
      ≡ 8 ∷ h.count ∷ h.unit ∷ h.transaction ∷ 0 ∷ 0 ∷ 0 ∷ []
  pub by_name_words : (h : Header) (q : SymbolRequest) → head_words (record { header = h; command = DumpSymbol q })
      ≡ 9 ∷ h.count ∷ h.unit ∷ h.transaction ∷ q.size ∷ 0 ∷ 0 ∷ []
  pub value_tail : (n : ℕ) → tail_words (SymbolValue n) ≡ n ∷ 0 ∷ []
  pub by_name_tail : (q : SymbolRequest) → tail_words (DumpSymbol q) ≡ q.name ∷ q.offset ∷ []
  pub no_tail : (q : Request) (i : ℕ) → map tail_words (Dump q ∷ Cancel ∷ Load q ∷ PoolStatistics i ∷ []) ≡ replicate 4 (0 ∷ 0 ∷ [])
  pub packet_words : (f : DumpPacket) → field_words f
      ≡ f.header.count ∷ f.header.unit ∷ f.header.transaction ∷ f.tick ∷ f.range.start.0 ∷ f.range.words ∷ f.here.0 ∷ f.words ∷ []
  -- THE COMMAND WRITER: the packet of the words that its code uses; a number wider than its field's type; another code; another length
  pub dump : (b : List ℕ) → CommandBlock b → HeadFits b → get_or b 0 0 ≡ 0 → get_or b 4 0 < 65536 → WrittenAs b (Dump (request b))
  pub cancel : (b : List ℕ) → CommandBlock b → HeadFits b → get_or b 0 0 ≡ 1 → WrittenAs b Cancel
  pub load : (b : List ℕ) → CommandBlock b → HeadFits b → get_or b 0 0 ≡ 4 → get_or b 4 0 < 65536 → WrittenAs b (Load (request b))
  pub pool : (b : List ℕ) → CommandBlock b → HeadFits b → get_or b 0 0 ≡ 7 → get_or b 6 0 < 65536 → WrittenAs b (PoolStatistics (get_or b 6 0))
  pub value : (b : List ℕ) → CommandBlock b → HeadFits b → get_or b 0 0 ≡ 8 → get_or b 19 0 < 256 → WrittenAs b (SymbolValue (get_or b 19 0))
  pub by_name : (b : List ℕ) → CommandBlock b → HeadFits b → get_or b 0 0 ≡ 9 → get_or b 4 0 < 65536 → get_or b 19 0 < 256 → WrittenAs b (DumpSymbol (symbol_request b))
  pub wide_count : (b : List ℕ) → CommandBlock b → 65535 < get_or b 1 0 → Nine b
  pub wide_unit : (b : List ℕ) → CommandBlock b → 255 < get_or b 2 0 → Nine b
  pub wide_transaction : (b : List ℕ) → CommandBlock b → 65535 < get_or b 3 0 → Nine b
  pub wide_size : (b : List ℕ) → CommandBlock b → one_of (get_or b 0 0) (0 ∷ 4 ∷ 9 ∷ []) ≡ true → 65535 < get_or b 4 0 → Nine b
  pub wide_pool : (b : List ℕ) → CommandBlock b → get_or b 0 0 ≡ 7 → 65535 < get_or b 6 0 → Nine b
  pub wide_name : (b : List ℕ) → CommandBlock b → one_of (get_or b 0 0) (8 ∷ 9 ∷ []) ≡ true → 255 < get_or b 19 0 → Nine b
  pub write_code : (b buffer : List ℕ) → length b ≡ 21 → one_of (get_or b 0 0) (0 ∷ 1 ∷ 4 ∷ 7 ∷ 8 ∷ 9 ∷ []) ≡ false
      → lg_write_command b buffer ≡ record { number = 6; bytes = 0; buffer = buffer }
  pub write_lengths : (b buffer : List ℕ) → length b ≢ 21 → lg_write_command b buffer ≡ record { number = 3; bytes = 0; buffer = buffer }
  -- THE COMMAND READER: the fields and the words beside them; a refusal; another length
  pub read : (p b : List ℕ) (f : Telecommand) → length b ≡ 21 → (read_command p).reading ≡ Ok f
      → lg_read_command p b ≡ record { number = 0; block = head_words f ++ (read_command p).words ++ tail_words f.command }
  pub unread : (p b : List ℕ) (r : Refusal) → length b ≡ 21 → (read_command p).reading ≡ Err r → lg_read_command p b ≡ record { number = number r; block = b }
  pub read_lengths : (p b : List ℕ) → length b ≢ 21 → lg_read_command p b ≡ record { number = 3; block = b }
  -- THE DUMP PACKET READER: the same, with how many bytes the data part has
  pub packet : (p b : List ℕ) (f : DumpPacket) → length b ≡ 8 → (read_packet p).reading ≡ Ok f
      → lg_read_packet p b ≡ record { number = 0; block = field_words f; bytes = length (read_packet p).part }
  pub no_packet : (p b : List ℕ) (r : Refusal) → length b ≡ 8 → (read_packet p).reading ≡ Err r
      → lg_read_packet p b ≡ record { number = number r; block = b; bytes = length (read_packet p).part }
  pub packet_lengths : (p b : List ℕ) → length b ≢ 8 → lg_read_packet p b ≡ record { number = 3; block = b; bytes = 0 }
