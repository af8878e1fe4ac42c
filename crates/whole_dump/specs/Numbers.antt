-- Each number in logic, by the bytes: exactly in its case.
use Rattle.std.specs.Prelude.{◌≡◌, ◌≢◌, ◌↔◌, ◌⊎◌, List, ℕ, zero, suc, ◌+◌, ◌*◌, ◌≤◌, ◌<◌, length}
use Rattle.wire.specs.ByByte.{byte, two, four}
use Rattle.rules.specs.Ground.{read_packet, packet_number}
use Rattle.whole_dump.specs.Check.{packet_at, check_dump}

-- the bytes of the first i packets: the sum of their lengths
abbrev pub bytes_of : List ℕ → ℕ → ℕ
bytes_of lengths zero = 0
bytes_of lengths (suc i) = bytes_of lengths i + two lengths (2 * i)

-- two bytes for each of up to 65 packets, and no bytes left over after the last
pub record Fits (bytes lengths : List ℕ) : Type 0 where
  pub packets : ℕ
  pub two_each : length lengths ≡ 2 * packets
  pub few : packets ≤ 65
  pub none_left : length bytes ≤ bytes_of lengths packets

-- the packet reader accepts p
abbrev pub IsRead : List ℕ → Type 0
IsRead p = packet_number (read_packet p).reading ≡ 0

-- and the address of its data, at byte 20, is that of piece k of the requested range, which starts at the address at byte 12
abbrev pub HasPiece : List ℕ → ℕ → Type 0
HasPiece p k = IsRead p × (four p 20 ≡ four p 12 + 4 * (1016 * k))

-- unit and transaction, requested address, requested words
abbrev pub Agree : List ℕ → List ℕ → Type 0
Agree p q = (two p 6 ≡ two q 6) × (four p 12 ≡ four q 12) × (four p 16 ≡ four q 16)

module _ (bytes lengths : List ℕ) where
  -- there is a packet i
  abbrev pub Listed : ℕ → Type 0
  Listed i = 2 * i < length lengths

  -- packet i is not bad
  pub record Sound (i : ℕ) : Type 0 where
    pub inside : bytes_of lengths i + two lengths (2 * i) ≤ length bytes
    pub is_read_lem : IsRead (packet_at bytes lengths i)
    pub agrees : Agree (packet_at bytes lengths 0) (packet_at bytes lengths i)
    pub new : (j k : ℕ) → j < i → HasPiece (packet_at bytes lengths j) k → HasPiece (packet_at bytes lengths i) k → ⊥

  abbrev pub AllSound : Type 0
  AllSound = (i : ℕ) → Listed i → Sound i

  -- no packet has piece k, which is one of the first packet's range, or piece 0 if there is no packet
  pub record Missing (k : ℕ) : Type 0 where
    pub due : Listed 0 → 1016 * k < four (packet_at bytes lengths 0) 16
    pub first : length lengths ≡ 0 → k ≡ 0
    pub absent : (i : ℕ) → Listed i → HasPiece (packet_at bytes lengths i) k → ⊥

  -- the packet's bytes, where they are all there
  pub record PacketIs (i : ℕ) : Type 0 where
    pub as_long : length (packet_at bytes lengths i) ≡ two lengths (2 * i)
    pub each : (k : ℕ) → k < two lengths (2 * i) → byte (packet_at bytes lengths i) k ≡ byte bytes (bytes_of lengths i + k)

  pub record NumberWhen : Type 0 where
    pub three : (check_dump bytes lengths ≢ 3) ↔ Fits bytes lengths
    -- the first bad packet is bad, and none before it is
    pub bad : (i : ℕ) → i < 65
        → (check_dump bytes lengths ≡ 65536 + i) ↔ (Fits bytes lengths × Listed i × (Sound i → ⊥) × ((j : ℕ) → j < i → Sound j))
    -- the missing piece is missing, and no lower one is
    pub missing : (k : ℕ)
        → (check_dump bytes lengths ≡ 131072 + k) ↔ (Fits bytes lengths × AllSound × Missing k × ((j : ℕ) → j < k → Missing j → ⊥))
    pub zero : (check_dump bytes lengths ≡ 0) ↔ (Fits bytes lengths × AllSound × ((k : ℕ) → Missing k → ⊥))
    -- no other number
    pub others : (check_dump bytes lengths ≢ 0) → (check_dump bytes lengths ≢ 3)
        → (((i : ℕ) × (i < 65) × (check_dump bytes lengths ≡ 65536 + i)) ⊎ ((k : ℕ) × (k < 65) × (check_dump bytes lengths ≡ 131072 + k)))
    pub packet : (i : ℕ) → bytes_of lengths i + two lengths (2 * i) ≤ length bytes → PacketIs i

abbrev pub Numbers : Type 0
Numbers = (bytes lengths : List ℕ) → NumberWhen bytes lengths
