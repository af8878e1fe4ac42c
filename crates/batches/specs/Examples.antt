-- Batches computed with the definitions, on literal bytes and words. Fresh states as in paper 01's "Checked examples": unit 2, and unless
-- said otherwise one region at 1000 hex of four words, both rights.
use Rattle.std.specs.Prelude.{◌≡◌, List, [], ◌∷◌, ◌++◌, map, ℕ, ◌*◌, replicate}
use Rattle.rules.specs.Examples.{range, both, box, four, usual}
use Rattle.rules.specs.SymbolExamples.{h2, symbols, value}
use Rattle.rules.specs.Regions.{no_range}
use Rattle.rules.specs.Results.{verdict_number}
use Rattle.rules.specs.States.{start_up}
use Rattle.rules.specs.declared.State.{State}
use Rattle.answers.specs.declared.ItemAnswer.{ItemAnswer}
use Rattle.batches.specs.Batch.{lends, on_state, bytes_from, Left, batch, filled, numbers_of, lengths_of}

-- E1's dump, E3's load, and the pool statistics of E11
abbrev pub e1 : List ℕ
e1 = 0x1E ∷ 0x44 ∷ 0xC0 ∷ 0x00 ∷ 0x00 ∷ 0x09 ∷ 0x00 ∷ 0x78 ∷ 0x21 ∷ 0x23 ∷ 0x00 ∷ 0x02 ∷ 0x00 ∷ 0x00 ∷ 0x10 ∷ 0x04 ∷ []

abbrev pub e3 : List ℕ
e3 =
    0x1E ∷ 0x44 ∷ 0xC0 ∷ 0x01 ∷ 0x00 ∷ 0x35 ∷ 0x04 ∷ 0xD6 ∷ 0x2A ∷ 0xBC ∷ 0x00 ∷ 0x01 ∷ 0x00 ∷ 0x00 ∷ 0x10 ∷ 0x00 ∷ 0x01 ∷ 0x02 ∷ 0x03 ∷ 0x04
    ∷ replicate 40 0

abbrev pub e11 : List ℕ
e11 = 0x1E ∷ 0x44 ∷ 0xC0 ∷ 0x00 ∷ 0x00 ∷ 0x05 ∷ 0x07 ∷ 0x64 ∷ 0x21 ∷ 0x23 ∷ 0x00 ∷ 0x01 ∷ []

abbrev pub answer : ℕ → ℕ → ItemAnswer
answer n l = record { number = n; length = l }

-- the number of a batch over E1's dump, with so many answer records lent
abbrev pub number_of : State → List ℕ → List ℕ → List ℕ → ℕ → ℕ
number_of s starts lengths replies records = verdict_number (batch on_state s (lends e1 starts lengths [] four replies) records).verdict

-- so many items, each E1's dump, with as many answer records and just enough bytes of the reply buffer
abbrev pub dumps : State → ℕ → ℕ
dumps s n = number_of s (replicate n 0) (replicate n 16) (replicate (32 * n) 0) n

-- one item with so many bytes of the reply buffer
abbrev pub one_dump : State → ℕ → ℕ
one_dump s room = number_of s (0 ∷ []) (16 ∷ []) (replicate room 0) 1

-- the state of a refused start-up: zero regions
abbrev pub refused_start : State
refused_start = (start_up [] 0 (no_range ∷ no_range ∷ []) 2).state

-- E1's dump, E3's load, an item that holds E3's load and runs one byte past the end of the buffer, and E1's dump again
abbrev pub mixed : Left State
mixed = (batch on_state usual (lends (e1 ++ e3) (0 ∷ 16 ∷ 16 ∷ 0 ∷ []) (16 ∷ 60 ∷ 61 ∷ 16 ∷ []) [] four (replicate 128 9)) 4).left

-- E1's dump and then pool statistics in E11's box, with a reply buffer of one byte more than two items need
abbrev pub figures : ℕ → ℕ → ℕ → ℕ → Left State
figures w x y z =
    (batch on_state (box (both 0x1000 6 ∷ []) (range 0x1000 6))
    (lends (e1 ++ e11) (0 ∷ 16 ∷ []) (16 ∷ 12 ∷ []) [] (0x80000002 ∷ w ∷ 0x00000004 ∷ x ∷ y ∷ z ∷ []) (replicate 65 9)) 2).left

-- the value of an alias of an alias and that of an unknown name, with one symbol table
abbrev pub told : Left State
told =
    (batch on_state usual
    (lends (value 0x123 h2 ++ value 0x124 (0x58 ∷ [])) (0 ∷ 60 ∷ 0 ∷ []) (60 ∷ 60 ∷ 60 ∷ []) symbols four (replicate 96 9)) 3).left

pub record BatchExamples : Type 0 where
  pub mixed_answers : mixed.answers ≡ answer 0 0 ∷ answer 0 0 ∷ answer 4 0 ∷ answer 12 0 ∷ []
  pub mixed_image : mixed.image ≡ 0x01020304 ∷ 0x22222222 ∷ 0x33333333 ∷ 0x44444444 ∷ []
  pub mixed_counts : mixed.state.accepted ∷ mixed.state.refused ∷ [] ≡ 2 ∷ 2 ∷ []
  pub mixed_replies : mixed.replies ≡ replicate 128 9
  -- the reply of item 1 at bytes 32 to 63; all others stay
  pub figures_replies : (w x y z : ℕ) → (figures w x y z).replies
      ≡ replicate 32 9
      ++ (0x03 ∷ 0x11 ∷ 0xC0 ∷ 0x00 ∷ 0x00 ∷ 0x19 ∷ 0x21 ∷ 0x23 ∷ 0x00 ∷ 0x01 ∷ 0x00 ∷ 0x00
      ∷ 0 ∷ 0 ∷ 0 ∷ 4 ∷ 0 ∷ 0 ∷ 0 ∷ 1 ∷ 0 ∷ 0 ∷ 0 ∷ 3 ∷ 0 ∷ 0 ∷ 0 ∷ 2 ∷ 0 ∷ 0 ∷ 0 ∷ 1 ∷ [])
      ++ 9 ∷ []
  -- of four lent answer records the first two are written; and as numbers and lengths apart
  pub figures_records : (w x y z : ℕ) → filled (replicate 4 (answer 9 9)) (figures w x y z).answers ≡ answer 0 0 ∷ answer 0 32 ∷ answer 9 9 ∷ answer 9 9 ∷ []
  pub figures_numbers : (w x y z : ℕ) → numbers_of (figures w x y z).answers ≡ 0 ∷ 0 ∷ []
  pub figures_lengths : (w x y z : ℕ) → lengths_of (figures w x y z).answers ≡ 0 ∷ 32 ∷ []
  -- two values told, of 12 bytes each, and 18 between them
  pub told_answers : told.answers ≡ answer 0 12 ∷ answer 18 0 ∷ answer 0 12 ∷ []
  pub told_replies : told.replies
      ≡ (0x03 ∷ 0x12 ∷ 0xC0 ∷ 0x00 ∷ 0x00 ∷ 0x05 ∷ 0x21 ∷ 0x23 ∷ 0x00 ∷ 0x00 ∷ 0x10 ∷ 0x04 ∷ replicate 52 9)
      ++ (0x03 ∷ 0x12 ∷ 0xC0 ∷ 0x01 ∷ 0x00 ∷ 0x05 ∷ 0x21 ∷ 0x23 ∷ 0x00 ∷ 0x00 ∷ 0x10 ∷ 0x04 ∷ replicate 20 9)
  -- start plus length at and over 2^32: an empty packet, and 4
  pub far_start : bytes_from (e1 ++ e3) 4294967295 2 ≡ []
  pub far_end : bytes_from (e1 ++ e3) 16 4294967295 ≡ []
  pub far_answers : (batch on_state usual (lends (e1 ++ e3) (4294967295 ∷ 16 ∷ []) (2 ∷ 4294967295 ∷ []) [] four (replicate 64 9)) 2).left.answers
      ≡ answer 4 0 ∷ answer 4 0 ∷ []
  -- 64 items and 65, 32 bytes of the reply buffer for one item and 31: 3 also where each item would get 1
  pub most : map (dumps usual) (64 ∷ 65 ∷ []) ++ map (dumps refused_start) (64 ∷ 65 ∷ []) ≡ 0 ∷ 3 ∷ 0 ∷ 3 ∷ []
  pub room : map (one_dump usual) (32 ∷ 31 ∷ []) ++ map (one_dump refused_start) (32 ∷ 31 ∷ []) ≡ 0 ∷ 3 ∷ 0 ∷ 3 ∷ []
  -- lists of unequal length, and no answer record
  pub unequal : number_of usual (0 ∷ []) [] (replicate 32 9) 1 ∷ number_of usual (0 ∷ []) (16 ∷ 16 ∷ []) (replicate 64 9) 2 ∷ number_of usual (0 ∷ []) (16 ∷ []) (replicate 32 9) 0 ∷ []
      ≡ 3 ∷ 3 ∷ 3 ∷ []
  pub refused_start_lem : (batch on_state refused_start (lends e1 (0 ∷ []) (16 ∷ []) [] four (replicate 32 9)) 1).left.answers ≡ answer 1 0 ∷ []
