-- Paper 02, A2: the address that a dump by name reaches, and the reply that tells a symbol's value.
use Rattle.std.specs.Prelude.{◌≡◌, Bool, ◌&&◌, cond, List, ◌++◌, ℕ, ◌+◌, ◌-◌, ◌≤◌, ◌<◌, leb, ltb}
use Rattle.wire.specs.Bytes.{be}
use Rattle.rules.specs.Packets.{primary_header, identity}

-- A SIGNED OFFSET: 32 bits, two's complement

-- value plus offset as a whole number, with 2^32 added, so that it is none below 0
abbrev pub moved_up : ℕ → ℕ → ℕ
moved_up value offset = value + offset + cond (ltb offset 2147483648) 4294967296 0

-- the address is not below 0, and below 2^32
abbrev pub address_fits : ℕ → ℕ → Bool
address_fits value offset = leb 4294967296 (moved_up value offset) && ltb (moved_up value offset) 8589934592

abbrev pub address_of : ℕ → ℕ → ℕ
address_of value offset = moved_up value offset - 4294967296

-- THE SAME IN LOGIC: the byte address a, as a whole number, is v plus the signed offset: so many bytes on, or so many back
pub data Reached (v offset a : ℕ) : Type 0 where
  on : offset < 2147483648 → a ≡ v + offset → Reached v offset a
  back : (b : ℕ) → 2147483648 ≤ offset → offset + b ≡ 4294967296 → a + b ≡ v → Reached v offset a

-- THE REPLY that tells a value: 12 bytes

abbrev pub value_apid : ℕ
value_apid = 786

abbrev pub value_length : ℕ
value_length = 12

-- primary header; unit and transaction; value
unfoldable pub value_bytes : ℕ → ℕ → ℕ → ℕ → List ℕ
value_bytes count unit transaction value = primary_header 0 0 value_apid count value_length ++ identity unit transaction ++ be 4 value
