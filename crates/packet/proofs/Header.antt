-- Fields of the header, read by words of 32 bits.
-- Assumes nothing.
use mathlib.Core.Path.{◌≡◌, sym}
use mathlib.Core.Bool.{false, ◌&&◌, and-false}
use mathlib.Core.List.{List}
use Prim.Native.Nat.{ℕ, ◌+◌, ◌*◌, ◌/◌, ◌%◌, ◌<◌}
use native.Mathlib.Omega.{arith}
use lib.Dec.{eqb}
use lib.ListN.{length}
use borrow.Author.Tests.{ne_eqb}
use Rattle.wire.specs.Bytes.{AreBytes, be_at}
use Rattle.wire.proofs.Numbers.{be_at_below}
use Rattle.rules.specs.Packets.{version_of, type_of, second_header_of, sequence_flags_of, sequence_count_of, length_field_of, primary_rules, unit_at, transaction_at}

-- shorter than its header, a packet has no right length field
pub no_header : (p : List ℕ) (kind second : ℕ) → length p < 6 → false ≡ primary_rules kind second p
no_header p kind second h =
    rw (ne_eqb (length_field_of p + 7) (length p) (λ e. absurd (omega arith)))
    (sym (and-false (eqb (version_of p) 0 && eqb (type_of p) kind && eqb (second_header_of p) second && eqb (sequence_flags_of p) 3)))

module _ (p : List ℕ) (bytes : AreBytes p) (w : ℕ) where
  -- the first word
  module _ (e : w ≡ be_at 4 p 0) where
    low : be_at 2 p 2 < 65536
    low = be_at_below 2 p 2 bytes

    split : w ≡ be_at 2 p 0 * 65536 + be_at 2 p 2
    split = omega (arith, e)

    pub version_by_word : w / 536870912 ≡ version_of p
    version_by_word = omega (arith, split, low)

    pub type_by_word : w / 268435456 % 2 ≡ type_of p
    type_by_word = omega (arith, split, low)

    pub second_by_word : w / 134217728 % 2 ≡ second_header_of p
    second_by_word = omega (arith, split, low)

    pub flags_by_word : w / 16384 % 4 ≡ sequence_flags_of p
    flags_by_word = omega (arith, split, low)

    pub count_by_word : w % 16384 ≡ sequence_count_of p
    count_by_word = omega (arith, split, low)

  -- the word that ends with unit and transaction
  module _ (e : w ≡ be_at 4 p 6) where
    pub unit_by_word : w / 4096 % 16 ≡ unit_at p 8
    unit_by_word = omega (arith, e, be_at_below 2 p 8 bytes)

    pub transaction_by_word : w % 4096 ≡ transaction_at p 8
    transaction_by_word = omega (arith, e, be_at_below 2 p 8 bytes)
