-- What decides the number: of each packet the version, type, flags, APID and length field, unit and transaction, the request, and the address and
-- number of its words. Sequence counts, ticks and data do not.
use Rattle.std.specs.Prelude.{◌≡◌, List, ℕ, ◌+◌, ◌*◌, ◌/◌, ◌<◌, ◌≤◌, length}
use Rattle.wire.specs.ByByte.{byte, two}
use Rattle.whole_dump.specs.Check.{check_dump}
use Rattle.whole_dump.specs.Numbers.{bytes_of}

-- two packets from index `at` on are the same but for sequence count (the low 14 bits of bytes 2 and 3), tick (8 to 11) and data (28 and on)
pub record SameHeader (p q : List ℕ) (at : ℕ) : Type 0 where
  pub start : (k : ℕ) → k < 2 → byte p (at + k) ≡ byte q (at + k)
  pub flags : two p (at + 2) / 16384 ≡ two q (at + 2) / 16384
  pub length_and_identity : (k : ℕ) → 4 ≤ k → k < 8 → byte p (at + k) ≡ byte q (at + k)
  pub request_and_own : (k : ℕ) → 12 ≤ k → k < 28 → byte p (at + k) ≡ byte q (at + k)

abbrev pub HeadersAlone : Type 0
HeadersAlone =
    (bytes other lengths : List ℕ) → length other ≡ length bytes → ((i : ℕ) → 2 * i < length lengths → SameHeader other bytes (bytes_of lengths i))
    → check_dump other lengths ≡ check_dump bytes lengths
