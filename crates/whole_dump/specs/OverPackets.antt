-- The numbers once more, over packets as they are handed over and by what the packet reader gives of each: no test of the check and no byte offset
-- stands here, so that these fix both.
use Rattle.std.specs.Prelude.{◌≡◌, ◌≢◌, ◌⊎◌, List, [], ◌∷◌, ◌++◌, ℕ, suc, ◌+◌, ◌*◌, ◌≤◌, ◌<◌, length, get_or, take}
use Rattle.rules.specs.Regions.{start_of}
use Rattle.rules.specs.Ground.{packet_fields}
use Rattle.rules.specs.declared.DumpPacket.{DumpPacket}
use Rattle.whole_dump.specs.Check.{check_dump}
use Rattle.whole_dump.specs.Numbers.{IsRead}
use Rattle.whole_dump.specs.Whole.{back_to_back, lengths_of}

abbrev pub checked : List (List ℕ) → ℕ
checked ps = check_dump (back_to_back ps) (lengths_of ps)

-- the fields of packet i
abbrev pub fields_at : List (List ℕ) → ℕ → DumpPacket
fields_at ps i = packet_fields (get_or ps i [])

-- each packet is read, and any two are of one unit, transaction and range, with data at two addresses
abbrev pub Together : List (List ℕ) → Type 0
Together ps =
    ((i : ℕ) → i < length ps → IsRead (get_or ps i []))
    × ((i j : ℕ) → i < j → j < length ps
    → ((fields_at ps i).header.unit ≡ (fields_at ps j).header.unit)
    × ((fields_at ps i).header.transaction ≡ (fields_at ps j).header.transaction)
    × ((fields_at ps i).range ≡ (fields_at ps j).range)
    × ((fields_at ps i).here.0 ≢ (fields_at ps j).here.0))

-- the address of piece k of the range that the first packet names
abbrev pub piece_address : List (List ℕ) → ℕ → ℕ
piece_address ps k = start_of (fields_at ps 0).range + 4 * (1016 * k)

pub record OverPackets : Type 0 where
  -- 3: an odd list, over 65 packets, a byte more than the packets have; and nothing else, whatever the sum of the lengths
  pub odd : (ps : List (List ℕ)) (bytes : List ℕ) (x : ℕ) → check_dump bytes (lengths_of ps ++ x ∷ []) ≡ 3
  pub over : (ps : List (List ℕ)) (bytes : List ℕ) → 65 < length ps → check_dump bytes (lengths_of ps) ≡ 3
  pub left_over : (ps : List (List ℕ)) (b : ℕ) (rest : List ℕ) → check_dump (back_to_back ps ++ b ∷ rest) (lengths_of ps) ≡ 3
  pub taken : (ps : List (List ℕ)) (bytes : List ℕ) → length ps ≤ 65 → length bytes ≤ length (back_to_back ps) → check_dump bytes (lengths_of ps) ≢ 3
  -- no packet is bad exactly if they are together
  pub together : (ps : List (List ℕ)) → length ps ≤ 65 → Together ps → (checked ps ≡ 0) ⊎ ((k : ℕ) × (checked ps ≡ 131072 + k))
  pub whole : (ps : List (List ℕ)) → checked ps ≡ 0 → Together ps
  pub pieces : (ps : List (List ℕ)) (k : ℕ) → checked ps ≡ 131072 + k → Together ps
  -- else packet i is the first one with which they are not, and what comes after it does not matter
  pub bad : (ps : List (List ℕ)) (i : ℕ) → i < 65 → checked ps ≡ 65536 + i → Together (take i ps) × (Together (take (suc i) ps) → ⊥)
  pub after_bad : (ps qs : List (List ℕ)) (i : ℕ) → i < length ps → checked ps ≡ 65536 + i → length (take (suc i) ps ++ qs) ≤ 65
      → checked (take (suc i) ps ++ qs) ≡ 65536 + i
  -- a packet of which not all bytes are there is bad
  pub cut_short : (ps qs : List (List ℕ)) (p part : List ℕ) → Together ps → length part < length p → length (ps ++ p ∷ qs) ≤ 65
      → check_dump (back_to_back ps ++ part) (lengths_of (ps ++ p ∷ qs)) ≡ 65536 + length ps
  -- piece k is one of the range, no packet has its address, and of each lower piece one has
  pub missing : (ps : List (List ℕ)) (k : ℕ) → checked ps ≡ 131072 + k → (i : ℕ) → i < length ps
      → (1016 * k < (fields_at ps 0).range.words) × ((fields_at ps i).here.0 ≢ piece_address ps k)
  pub lowest : (ps : List (List ℕ)) (k : ℕ) → checked ps ≡ 131072 + k → (j : ℕ) → j < k
      → (i : ℕ) × (i < length ps) × ((fields_at ps i).here.0 ≡ piece_address ps j)
  pub no_packets : checked [] ≡ 131072
