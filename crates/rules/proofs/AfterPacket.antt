-- What the place of a dump does after its next packet.
-- Assumes nothing.
use mathlib.Core.Path.{◌≡◌}
use Prim.Native.Nat.{◌+◌, ◌≤◌, ◌<◌}
use native.Mathlib.Omega.{arith}
use borrow.Author.Tests.{lt-ltb, le-ltb}
use Rattle.rules.specs.States.{piece_words}
use Rattle.rules.specs.Slots.{after_packet}
use Rattle.rules.specs.declared.ActiveDump.{ActiveDump}
use Rattle.rules.specs.declared.Context.TheVariants.{Idle, Busy}
use Rattle.rules.specs.declared.Range.{Range}

pub piece_some : (r : Range) → 0 < piece_words r
unfolding piece_words
piece_some r = omega arith

-- the dump with one more packet sent
abbrev pub moved : ActiveDump → ActiveDump
moved d = record { transaction = d.transaction; range = d.range; sent = d.sent + piece_words d.range }

pub after_more : (d : ActiveDump) → d.sent + piece_words d.range < d.range.words → after_packet d ≡ Busy (moved d)
unfolding after_packet
after_more d h = rw (lt-ltb (d.sent + piece_words d.range) d.range.words h)

pub after_last : (d : ActiveDump) → d.range.words ≤ d.sent + piece_words d.range → after_packet d ≡ Idle
unfolding after_packet
after_last d h = rw (le-ltb (d.sent + piece_words d.range) d.range.words h)

-- the same with the paper's piece size
pub sent_more : (d : ActiveDump) → d.sent + 1016 < d.range.words
    → after_packet d ≡ Busy (record { transaction = d.transaction; range = d.range; sent = d.sent + 1016 })
unfolding piece_words
sent_more d h = after_more d h

pub sent_all : (d : ActiveDump) → d.range.words ≤ d.sent + 1016 → after_packet d ≡ Idle
unfolding piece_words
sent_all d h = after_last d h
