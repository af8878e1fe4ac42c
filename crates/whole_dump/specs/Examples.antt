-- Checks computed with the definition, on literal bytes.
use Rattle.std.specs.Prelude.{◌≡◌, List, [], ◌∷◌, ◌++◌, ℕ, ◌+◌, replicate}
use Rattle.whole_dump.specs.Check.{check_dump}
use Rattle.whole_dump.specs.Whole.{back_to_back, lengths_of}

-- E2's packet: unit 2, transaction 123 hex, tick 5, two words from 1004 hex
abbrev pub e2 : List ℕ
e2 =
    0x03 ∷ 0x14 ∷ 0xC0 ∷ 0x00 ∷ 0x00 ∷ 0x1D ∷ 0x21 ∷ 0x23 ∷ 0 ∷ 0 ∷ 0 ∷ 5 ∷ 0 ∷ 0 ∷ 0x10 ∷ 0x04 ∷ 0 ∷ 0 ∷ 0 ∷ 2 ∷ 0 ∷ 0 ∷ 0x10 ∷ 0x04 ∷ 0 ∷ 0 ∷ 0 ∷ 2
    ∷ replicate 4 0x22
    ++ replicate 4 0x33

-- the packets of E8's dump of 1,017 words, here from 1000 hex, by unit and transaction, sequence count and tick
abbrev pub first : ℕ → ℕ → ℕ → ℕ → List ℕ
first u t count tick =
    0x03 ∷ 0x14 ∷ 0xC0 ∷ count ∷ 0x0F ∷ 0xF5 ∷ u ∷ t ∷ 0 ∷ 0 ∷ 0 ∷ tick ∷ 0 ∷ 0 ∷ 0x10 ∷ 0x00 ∷ 0 ∷ 0 ∷ 0x03 ∷ 0xF9 ∷ 0 ∷ 0 ∷ 0x10 ∷ 0x00 ∷ 0 ∷ 0 ∷ 0x03 ∷ 0xF8
    ∷ replicate 4064 7

abbrev pub second : ℕ → ℕ → ℕ → ℕ → List ℕ
second u t count tick =
    0x03 ∷ 0x14 ∷ 0xC0 ∷ count ∷ 0x00 ∷ 0x19 ∷ u ∷ t ∷ 0 ∷ 0 ∷ 0 ∷ tick ∷ 0 ∷ 0 ∷ 0x10 ∷ 0x00 ∷ 0 ∷ 0 ∷ 0x03 ∷ 0xF9 ∷ 0 ∷ 0 ∷ 0x1F ∷ 0xE0 ∷ 0 ∷ 0 ∷ 0 ∷ 1
    ∷ replicate 4 7

-- the second packet of 1,017 words from another address, a hundred hex times the given
abbrev pub elsewhere : ℕ → List ℕ
elsewhere a =
    0x03 ∷ 0x14 ∷ 0xC0 ∷ 0 ∷ 0x00 ∷ 0x19 ∷ 0x21 ∷ 0x23 ∷ 0 ∷ 0 ∷ 0 ∷ 5 ∷ 0 ∷ 0 ∷ a ∷ 0x00 ∷ 0 ∷ 0 ∷ 0x03 ∷ 0xF9 ∷ 0 ∷ 0 ∷ (a + 0x0F) ∷ 0xE0 ∷ 0 ∷ 0 ∷ 0 ∷ 1
    ∷ replicate 4 7

-- the second packet of 1,018 words, and the middle one of 2,033
abbrev pub longer : List ℕ
longer =
    0x03 ∷ 0x14 ∷ 0xC0 ∷ 0 ∷ 0x00 ∷ 0x1D ∷ 0x21 ∷ 0x23 ∷ 0 ∷ 0 ∷ 0 ∷ 5 ∷ 0 ∷ 0 ∷ 0x10 ∷ 0x00 ∷ 0 ∷ 0 ∷ 0x03 ∷ 0xFA ∷ 0 ∷ 0 ∷ 0x1F ∷ 0xE0 ∷ 0 ∷ 0 ∷ 0 ∷ 2
    ∷ replicate 8 7

abbrev pub middle : List ℕ
middle =
    0x03 ∷ 0x14 ∷ 0xC0 ∷ 0 ∷ 0x0F ∷ 0xF5 ∷ 0x21 ∷ 0x23 ∷ 0 ∷ 0 ∷ 0 ∷ 5 ∷ 0 ∷ 0 ∷ 0x10 ∷ 0x00 ∷ 0 ∷ 0 ∷ 0x07 ∷ 0xF1 ∷ 0 ∷ 0 ∷ 0x1F ∷ 0xE0 ∷ 0 ∷ 0 ∷ 0x03 ∷ 0xF8
    ∷ replicate 4064 7

-- the check of these packets as they are handed over
abbrev pub check : List (List ℕ) → ℕ
check ps = check_dump (back_to_back ps) (lengths_of ps)

pub record CheckExamples : Type 0 where
  pub e2_whole : check (e2 ∷ []) ≡ 0
  pub e2_twice : check (e2 ∷ e2 ∷ []) ≡ 65537
  pub no_packets : check_dump [] [] ≡ 131072
  -- two pieces, in both orders; sequence counts and ticks as they come
  pub in_order_lem : check (first 0x21 0x23 0 5 ∷ second 0x21 0x23 1 6 ∷ []) ≡ 0
  pub other_order : check (second 0x21 0x23 9 1 ∷ first 0x21 0x23 4 3 ∷ []) ≡ 0
  pub first_alone : check (first 0x21 0x23 0 5 ∷ []) ≡ 131073
  pub second_alone : check (second 0x21 0x23 1 6 ∷ []) ≡ 131072
  pub same_counts : check (first 0x21 0x23 9 5 ∷ second 0x21 0x23 9 5 ∷ []) ≡ 0
  -- the lowest of two missing pieces
  pub lowest : check (middle ∷ []) ≡ 131072
  -- another unit, transaction, requested address, requested words
  pub other_unit : check (first 0x21 0x23 0 5 ∷ second 0x31 0x23 1 6 ∷ []) ≡ 65537
  pub far_unit : check (first 0x21 0x23 0 5 ∷ second 0xA1 0x23 1 6 ∷ []) ≡ 65537
  pub other_transaction : check (first 0x21 0x23 0 5 ∷ second 0x21 0x24 1 6 ∷ []) ≡ 65537
  pub far_transaction : check (first 0x21 0x23 0 5 ∷ second 0x22 0x23 1 6 ∷ []) ≡ 65537
  pub same_address : check (first 0x21 0x23 0 5 ∷ elsewhere 0x10 ∷ []) ≡ 0
  pub other_address : check (first 0x21 0x23 0 5 ∷ elsewhere 0x20 ∷ []) ≡ 65537
  pub other_words : check (first 0x21 0x23 0 5 ∷ longer ∷ []) ≡ 65537
  -- a packet of no bytes, before and after a good one
  pub empty_first : check ([] ∷ e2 ∷ []) ≡ 65536
  pub empty_last : check (e2 ∷ [] ∷ []) ≡ 65537
  -- the list: odd, a byte more than it says, a byte less
  pub odd_list : check_dump e2 (0 ∷ 36 ∷ 0 ∷ []) ≡ 3
  pub one_over : check_dump (e2 ++ 0 ∷ []) (0 ∷ 36 ∷ []) ≡ 3
  pub bytes_alone : check_dump e2 [] ≡ 3
  pub one_short : check_dump e2 (0 ∷ 37 ∷ []) ≡ 65536
  pub past_the_end : check_dump e2 (0 ∷ 36 ∷ 0 ∷ 36 ∷ []) ≡ 65537
  -- the first of two bad packets; a bad one before a missing piece; 3 before both
  pub first_bad : check (e2 ∷ [] ∷ [] ∷ []) ≡ 65537
  pub third_bad : check (first 0x21 0x23 0 5 ∷ second 0x21 0x23 0 5 ∷ [] ∷ []) ≡ 65538
  pub bad_and_missing : check (second 0x21 0x23 1 6 ∷ second 0x21 0x23 2 7 ∷ []) ≡ 65537
  pub odd_and_bad : check_dump [] (0 ∷ 0 ∷ 0 ∷ []) ≡ 3
  pub left_over_and_bad : check_dump (0 ∷ []) (0 ∷ 0 ∷ []) ≡ 3
  -- 65 packets of no bytes, and 66
  pub most : check_dump [] (replicate 130 0) ≡ 65536
  pub over : check_dump [] (replicate 132 0) ≡ 3
  pub far_over : check_dump [] (replicate 512 0) ≡ 3
