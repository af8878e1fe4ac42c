-- Paper 01, "What each command does", and paper 02, A4: the blocks of a pool, their figures, and the reply.
use Rattle.std.specs.Prelude.{◌≡◌, Bool, true, false, cond, not, List, [], ◌∷◌, ◌++◌, ℕ, zero, suc, ◌+◌, ◌-◌, ◌%◌, max, leb, eqb, length}
use Rattle.wire.specs.Bytes.{be}
use Rattle.rules.specs.Packets.{primary_header, identity}

-- BLOCKS

pub record Block : Type 0 where
  pub used : Bool
  pub size : ℕ

-- a block's first word: used if the top bit is set, and the size in words, this one included, in the low 31 bits
abbrev pub block_of : ℕ → Block
block_of w = record { used = leb 2147483648 w; size = w % 2147483648 }

pub data Walk : Type 0 where
  damaged : Walk
  whole : List Block → Walk

abbrev pub after : Block → Walk → Walk
after b damaged = damaged
after b (whole bs) = whole (b ∷ bs)

-- The blocks of these words, the first k of which still belong to the block before. Damage: a block of size 0, or one past the end.
unfoldable pub blocks_from : ℕ → List ℕ → Walk
blocks_from zero [] = whole []
blocks_from (suc k) [] = damaged
blocks_from (suc k) (w ∷ ws) = blocks_from k ws
blocks_from zero (w ∷ ws) = cond (eqb (block_of w).size 0) damaged (after (block_of w) (blocks_from ((block_of w).size - 1) ws))

-- the blocks of a pool: they follow each other, and end exactly at its end
abbrev pub blocks_of : List ℕ → Walk
blocks_of pool = blocks_from 0 pool

abbrev pub is_damaged : Walk → Bool
is_damaged damaged = true
is_damaged (whole bs) = false

-- THE SAME IN LOGIC

-- The words of a pool are exactly these blocks, one after the other: each begins with its first word and has as many words as that says.
pub data Tiles : List ℕ → List Block → Type 0 where
  end : Tiles [] []
  next : (w : ℕ) (rest ws : List ℕ) (bs : List Block) → (block_of w).size ≡ suc (length rest) → Tiles ws bs → Tiles (w ∷ rest ++ ws) (block_of w ∷ bs)

-- FIGURES, over the blocks that `pick` picks

abbrev pub is_used : Block → Bool
is_used b = b.used

abbrev pub is_free : Block → Bool
is_free b = not b.used

abbrev pub words : (Block → Bool) → List Block → ℕ
words pick [] = 0
words pick (b ∷ bs) = cond (pick b) b.size 0 + words pick bs

abbrev pub blocks : (Block → Bool) → List Block → ℕ
blocks pick [] = 0
blocks pick (b ∷ bs) = cond (pick b) 1 0 + blocks pick bs

-- the size of the largest block, 0 if there is none
abbrev pub largest : (Block → Bool) → List Block → ℕ
largest pick [] = 0
largest pick (b ∷ bs) = max (cond (pick b) b.size 0) (largest pick bs)

-- Paper 02, A4: the largest block's size minus one, as its first word isn't usable. 0 if there is none: a number of this logic is never below 0.
abbrev pub usable : (Block → Bool) → List Block → ℕ
usable pick bs = largest pick bs - 1

-- THE REPLY: 32 bytes

abbrev pub reply_apid : ℕ
reply_apid = 785

abbrev pub reply_length : ℕ
reply_length = 32

-- primary header; unit and transaction; pool (16 bits); zero (16); then as words: free words, free blocks, usable words of the largest free
-- block, used words, used blocks
unfoldable pub reply_bytes : ℕ → ℕ → ℕ → ℕ → List Block → List ℕ
reply_bytes count unit transaction pool bs =
    primary_header 0 0 reply_apid count reply_length ++ identity unit transaction ++ be 2 pool ++ be 2 0
    ++ be 4 (words is_free bs)
    ++ be 4 (blocks is_free bs)
    ++ be 4 (usable is_free bs)
    ++ be 4 (words is_used bs)
    ++ be 4 (blocks is_used bs)
