-- THE TWO REPLIES from what was lent: the five words of pool statistics from the pool's own words, and the bytes of a told value from those of the
-- symbol table (paper 01, "What each command does"; paper 02, A2 and A4). No block, no figure and no value of the definitions stands here.
use Rattle.std.specs.Prelude.{◌≡◌, List, [], ◌∷◌, ◌++◌, ℕ, suc, ◌+◌, ◌*◌, ◌-◌, ◌/◌, ◌%◌, ◌<◌, max, length, get_or}
use Rattle.wire.specs.Bytes.{AreBytes}
use Rattle.wire.specs.ByByte.{byte, two, four}
use Rattle.rules.specs.GoodWhen.{Lies, first_word}
use Rattle.rules.specs.States.{pool_at}
use Rattle.rules.specs.Results.{answer_number}
use Rattle.rules.specs.Commands.{CommandArgs, command_call}
use Rattle.rules.specs.declared.State.{State}

-- POOL STATISTICS

-- free words, free blocks, the size of the largest free block (0 if there is none), used words, used blocks
pub record Five : Type 0 where
  pub free_words : ℕ
  pub free_blocks_lem : ℕ
  pub largest : ℕ
  pub used_words : ℕ
  pub used_blocks_lem : ℕ

-- These words have these figures: none has none; a first word w, and as many words after it as its low 31 bits say less one, are one block more, free if
-- the top bit is 0 and used if it is 1.
pub data Counted : List ℕ → Five → Type 0 where
  none : Counted [] (record { free_words = 0; free_blocks_lem = 0; largest = 0; used_words = 0; used_blocks_lem = 0 })
  free : (w : ℕ) (rest ws : List ℕ) (f : Five) → w / 2147483648 ≡ 0 → w % 2147483648 ≡ suc (length rest) → Counted ws f
      → Counted (w ∷ rest ++ ws)
      (record {
        free_words = f.free_words + w % 2147483648;
        free_blocks_lem = f.free_blocks_lem + 1;
        largest = max f.largest (w % 2147483648);
        used_words = f.used_words;
        used_blocks_lem = f.used_blocks_lem;
      })
  used : (w : ℕ) (rest ws : List ℕ) (f : Five) → w / 2147483648 ≡ 1 → w % 2147483648 ≡ suc (length rest) → Counted ws f
      → Counted (w ∷ rest ++ ws)
      (record {
        free_words = f.free_words;
        free_blocks_lem = f.free_blocks_lem;
        largest = f.largest;
        used_words = f.used_words + w % 2147483648;
        used_blocks_lem = f.used_blocks_lem + 1;
      })

-- the reply to pool statistics answered 0
pub record PoolReply (s : State) (c : CommandArgs) : Type 0 where
  -- where the pool lies: in a region from one of its words on
  pub region : ℕ
  pub offset : ℕ
  pub lies : Lies s.regions s.count (pool_at s.pools (two c.packet 10)) region offset
  -- its words, as the image has them
  pub words : List ℕ
  pub all : length words ≡ (pool_at s.pools (two c.packet 10)).words
  pub word : (k : ℕ) → k < length words → get_or words k 0 ≡ get_or c.image (first_word s.regions region + offset + k) 0
  -- their figures, and the five words of the reply
  pub five : Five
  pub counted : Counted words five
  pub free_words : four (command_call s c).buffer 12 ≡ five.free_words
  pub free_blocks_lem : four (command_call s c).buffer 16 ≡ five.free_blocks_lem
  pub usable : four (command_call s c).buffer 20 ≡ five.largest - 1
  pub used_words : four (command_call s c).buffer 24 ≡ five.used_words
  pub used_blocks_lem : four (command_call s c).buffer 28 ≡ five.used_blocks_lem

-- THE VALUE OF A SYMBOL

-- record i leads to record j: it is that record and holds a value, or it is an alias, and the lower-numbered record leads there that it names
pub data LeadsTo (t : List ℕ) : ℕ → ℕ → Type 0 where
  here : (i : ℕ) → byte t (56 * i) ≡ 0 → LeadsTo t i i
  through : (i j : ℕ) → byte t (56 * i) ≡ 1 → four t (56 * i + 52) < i → LeadsTo t (four t (56 * i + 52)) j → LeadsTo t i j

-- the reply to the value of a symbol answered 0
pub record ValueReply (s : State) (c : CommandArgs) : Type 0 where
  -- the record with the packet's name: as many bytes, and the same
  pub i : ℕ
  pub inside : 56 * i < length c.symbols
  pub size : byte c.symbols (56 * i + 1) ≡ byte c.packet 10
  pub name : (k : ℕ) → k < byte c.packet 10 → byte c.symbols (56 * i + 4 + k) ≡ byte c.packet (12 + k)
  -- the record that it leads to, whose last four bytes are bytes 8 to 11 of the reply
  pub j : ℕ
  pub leads : LeadsTo c.symbols i j
  pub value : (k : ℕ) → k < 4 → byte (command_call s c).buffer (8 + k) ≡ byte c.symbols (56 * j + 52 + k)

pub record Replies : Type 0 where
  -- words of 32 bits in the image
  pub pool : (s : State) (c : CommandArgs) → ((x : ℕ) → get_or c.image x 0 < 4294967296) → byte c.packet 6 ≡ 7
      → answer_number (command_call s c).answer ≡ 0 → PoolReply s c
  pub value : (s : State) (c : CommandArgs) → AreBytes c.symbols → byte c.packet 6 ≡ 8
      → answer_number (command_call s c).answer ≡ 0 → ValueReply s c
