-- The command block and the dump packet block of the C interface (c/leatgarnet.h).
use Rattle.std.specs.Prelude.{cond, List, [], ◌∷◌, ◌++◌, ℕ, ◌+◌, min, leb, eqb, Option, Some, None}
use Rattle.rules.specs.Packets.{code_of}
use Rattle.rules.specs.Regions.{start_of}
use Rattle.rules.specs.declared.Command.{Command}
use Rattle.rules.specs.declared.Command.TheVariants.{Dump, Cancel, Load, PoolStatistics, SymbolValue, DumpSymbol}
use Rattle.rules.specs.declared.DumpPacket.{DumpPacket}
use Rattle.rules.specs.declared.Header.{Header}
use Rattle.rules.specs.declared.Request.{Request}
use Rattle.rules.specs.declared.SymbolRequest.{SymbolRequest}
use Rattle.rules.specs.declared.Telecommand.{Telecommand}
use Rattle.block.specs.Blocks.{word}
use Rattle.block.specs.Runs.{runs}

-- A COMMAND READ FROM WORDS

-- sequence count, unit, transaction: a number beyond its type stands as the type's greatest, which is out of the field's bounds too
abbrev pub header_in : List ℕ → Header
header_in b = record { count = min 65535 (word b 1); unit = min 255 (word b 2); transaction = min 65535 (word b 3) }

-- a size beyond 16 bits stands as 0, which is out of bounds too
abbrev pub size_in : ℕ → ℕ
size_in w = cond (leb w 65535) w 0

abbrev pub request_in : List ℕ → Request
request_in b = record { size = size_in (word b 4); address = record { 0 = word b 5 } }

abbrev pub symbol_request_in : List ℕ → SymbolRequest
symbol_request_in b = record { name = min 255 (word b 19); offset = word b 20; size = size_in (word b 4) }

-- the command by the function code
unfoldable pub command_in : List ℕ → Option Command
command_in b =
    cond (eqb (word b 0) 0) (Some (Dump (request_in b)))
    (cond (eqb (word b 0) 1) (Some Cancel)
    (cond (eqb (word b 0) 4) (Some (Load (request_in b)))
    (cond (eqb (word b 0) 7) (Some (PoolStatistics (min 65535 (word b 6))))
    (cond (eqb (word b 0) 8) (Some (SymbolValue (min 255 (word b 19))))
    (cond (eqb (word b 0) 9) (Some (DumpSymbol (symbol_request_in b))) None)))))

-- the twelve words beside the command
abbrev pub data_in : List ℕ → List ℕ
data_in b = runs (λ k. word b (7 + k) ∷ []) 12

-- A COMMAND AS WORDS

-- size, address and pool; what a code does not use is 0
abbrev pub body_words : Command → List ℕ
body_words (Dump q) = q.size ∷ q.address.0 ∷ 0 ∷ []
body_words Cancel = 0 ∷ 0 ∷ 0 ∷ []
body_words (Load q) = q.size ∷ q.address.0 ∷ 0 ∷ []
body_words (PoolStatistics i) = 0 ∷ 0 ∷ i ∷ []
body_words (SymbolValue n) = 0 ∷ 0 ∷ 0 ∷ []
body_words (DumpSymbol q) = q.size ∷ 0 ∷ 0 ∷ []

-- after the twelve words: name size and offset; what a code does not use is 0
abbrev pub tail_words : Command → List ℕ
tail_words (Dump q) = 0 ∷ 0 ∷ []
tail_words Cancel = 0 ∷ 0 ∷ []
tail_words (Load q) = 0 ∷ 0 ∷ []
tail_words (PoolStatistics i) = 0 ∷ 0 ∷ []
tail_words (SymbolValue n) = n ∷ 0 ∷ []
tail_words (DumpSymbol q) = q.name ∷ q.offset ∷ []

-- function code, sequence count, unit, transaction, and the body
abbrev pub head_words : Telecommand → List ℕ
head_words f =
    code_of f.command ∷ f.header.count ∷ f.header.unit ∷ f.header.transaction ∷ body_words f.command

-- the 21 words of a command block: the command's own, the twelve beside it, and the last two
abbrev pub block_words : Telecommand → List ℕ → List ℕ
block_words f ws = head_words f ++ ws ++ tail_words f.command

-- A DUMP PACKET AS WORDS

-- sequence count, unit, transaction, tick, requested address, requested words, address of this packet's data, words in this packet
abbrev pub field_words : DumpPacket → List ℕ
field_words f =
    f.header.count ∷ f.header.unit ∷ f.header.transaction ∷ f.tick ∷ start_of f.range ∷ f.range.words ∷ f.here.0 ∷ f.words ∷ []
