-- The address that a dump by name reaches: what Values.antt computes is the whole number of Reached.
-- Assumes nothing.
use mathlib.Core.Path.{◌≡◌}
use mathlib.Core.Bool.{true}
use mathlib.Core.List.{List}
use Prim.Native.Nat.{ℕ, ◌+◌, ◌-◌, ◌≤◌, ◌<◌}
use native.Mathlib.Omega.{arith}
use lib.Dec.{leb, ltb}
use borrow.Author.Tests.{ltb-true, ltb-false, leb-true, lt-ltb, le-ltb, le-leb}
use Rattle.lists.proofs.Tests.{either, and_left, and_right, and_both}
use Rattle.wire.specs.Bytes.{AreBytes}
use Rattle.wire.specs.ByByte.{four}
use Rattle.rules.specs.Values.{moved_up, address_fits, address_of, Reached, on, back}

-- 2^32 above it
moved : {v offset a : ℕ} → Reached v offset a → moved_up v offset ≡ a + 4294967296
moved {v} {offset} {a} (on l e) = rw (lt-ltb offset 2147483648 l) (omega arith)
moved {v} {offset} {a} (back b l e f) = rw (le-ltb offset 2147483648 l) (omega arith)

-- an address that is reached is the one computed, and fits if it is below 2^32
pub reached_is : {v offset a : ℕ} → Reached v offset a → address_of v offset ≡ a
reached_is {v} {offset} {a} r = let e : moved_up v offset ≡ a + 4294967296 = moved r in omega arith

pub reached_fits : {v offset a : ℕ} → Reached v offset a → a < 4294967296 → address_fits v offset ≡ true
reached_fits {v} {offset} {a} r h =
    let e : moved_up v offset ≡ a + 4294967296 = moved r in
    and_both (le-leb 4294967296 (moved_up v offset) (omega arith)) (lt-ltb (moved_up v offset) 8589934592 (omega arith))

-- an address that fits is reached, by an offset of 32 bits
pub fits_reached : (v offset : ℕ) → offset ≤ 4294967296 → address_fits v offset ≡ true
    → Reached v offset (address_of v offset) × (address_of v offset < 4294967296)
fits_reached v offset most h =
    let low = leb-true 4294967296 (moved_up v offset) (and_left (leb 4294967296 (moved_up v offset)) (ltb (moved_up v offset) 8589934592) h) in
    let high = ltb-true (moved_up v offset) 8589934592 (and_right (leb 4294967296 (moved_up v offset)) (ltb (moved_up v offset) 8589934592) h) in
    let below : address_of v offset < 4294967296 = omega arith in
    either (ltb offset 2147483648)
    (λ e. let l = ltb-true offset 2147483648 e in let q : address_of v offset ≡ v + offset = rw e (omega arith) in (on l q, below))
    (λ e.
    let l = ltb-false offset 2147483648 e in
    let m : moved_up v offset ≡ v + offset = rw e (omega arith) in
    let q : address_of v offset + (4294967296 - offset) ≡ v = omega arith in
    (back (4294967296 - offset) l (omega arith) q, below))

-- as that of a packet's bytes is
pub offset_fits : (p : List ℕ) → AreBytes p → four p 60 < 4294967296
offset_fits p b = let w = b 60 in let x = b 61 in let y = b 62 in let z = b 63 in omega arith
