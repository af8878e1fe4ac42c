-- A dump packet's bytes: those of the slot call, and those that a header and then the words leave; and when they fit.
-- Assumes nothing.
use mathlib.Core.Path.{◌≡◌, refl, sym, ◌∙◌}
use mathlib.Core.Bool.{Bool, true, false, ◌&&◌, not}
use mathlib.Core.List.{List}
use Prim.Native.Nat.{ℕ, ◌+◌, ◌*◌, ◌≤◌}
use native.Mathlib.Omega.{arith}
use lib.Dec.{leb, eqb}
use lib.ListN.{length}
use borrow.Author.Tests.{leb-true, le-leb, eqb-true, eq-eqb, not-true, not-false}
use Rattle.lists.specs.Splice.{splice}
use Rattle.lists.proofs.Runs.{splice_splice}
use Rattle.lists.proofs.Tests.{and_left, and_right, contra}
use Rattle.wire.specs.Bytes.{word_bytes}
use Rattle.wire.proofs.Lengths.{word_bytes_length}
use Rattle.rules.specs.Regions.{start_of}
use Rattle.rules.specs.Slots.{packet_header, packet_bytes}
use Rattle.rules.specs.declared.State.{State}
use Rattle.rules.specs.declared.ActiveDump.{ActiveDump}
use Rattle.rules.specs.declared.DumpPacket.{DumpPacket}
use Rattle.bulk.specs.DumpBytes.{head_bytes, dump_packet_bytes, PacketFits, packet_fits}

-- the packet that a slot call writes is the packet of these fields
pub slot_packet : (s : State) (tick : ℕ) (d : ActiveDump) (ws : List ℕ)
    → packet_bytes s tick d ws
    ≡ dump_packet_bytes
    (record {
      header = record { count = s.packets; unit = s.unit; transaction = d.transaction };
      tick = tick;
      range = d.range;
      here = record { 0 = start_of d.range + 4 * d.sent };
      words = length ws;
    })
    ws
unfolding packet_bytes dump_packet_bytes
slot_packet s tick d ws = refl

-- the header, and then the words right after it
pub head_then_words : (f : DumpPacket) (ws l b b' head : List ℕ) → PacketFits f ws l → word_bytes head ≡ head_bytes f f.words
    → b ≡ splice l 0 (word_bytes head) → b' ≡ splice b packet_header (word_bytes ws) → b' ≡ splice l 0 (dump_packet_bytes f ws)
unfolding dump_packet_bytes
head_then_words f ws l b b' head h e g g' =
    let k = word_bytes_length ws in
    rw (g', g, e, h.words) (splice_splice l (head_bytes f (length ws)) (word_bytes ws) 0 packet_header refl (omega arith))

-- the parts of six tests that hold
six_hold : (a b c d e g : Bool) → (a && b && c && d && e && g) ≡ true
    → (a ≡ true) × (b ≡ true) × (c ≡ true) × (d ≡ true) × (e ≡ true) × (g ≡ true)
six_hold a b c d e g h =
    let five = and_left (a && b && c && d && e) g h in
    let four = and_left (a && b && c && d) e five in
    let three = and_left (a && b && c) d four in
    let two = and_left (a && b) c three in (
      and_left a b two,
      and_right a b two,
      and_right (a && b) c three,
      and_right (a && b && c) d four,
      and_right (a && b && c && d) e five,
      and_right (a && b && c && d && e) g h,
    )

-- the test as the code asks it
module _ (f : DumpPacket) (ws buffer : List ℕ) {t : Bool} (e : t ≡ packet_fits f (length ws) (length buffer)) where
  pub test_fits : not t ≡ false → PacketFits f ws buffer
  test_fits h =
      let is =
      six_hold (leb f.header.count 16383) (leb f.header.unit 15) (leb f.header.transaction 4095) (leb (length ws) 1016)
      (eqb f.words (length ws))
      (leb (packet_header + 4 * f.words) (length buffer))
      (sym e ∙ not-false t h)
      in
      let words : f.words ≡ length ws = eqb-true _ _ is.4 in
      let room : packet_header + 4 * f.words ≤ length buffer = leb-true _ _ is.5 in
      record {
        count = leb-true _ _ is.0;
        unit = leb-true _ _ is.1;
        transaction = leb-true _ _ is.2;
        most = leb-true _ _ is.3;
        words = words;
        room = omega arith;
      }

  pub test_fails : not t ≡ true → PacketFits f ws buffer → ⊥
  test_fails n h =
      let room : packet_header + 4 * f.words ≤ length buffer = omega (arith, h.words, h.room) in
      let all : packet_fits f (length ws) (length buffer) ≡ true =
      rw (
        le-leb _ _ h.count,
        le-leb _ _ h.unit,
        le-leb _ _ h.transaction,
        le-leb _ _ h.most,
        eq-eqb _ _ h.words,
        le-leb _ _ room,
      )
      in
      contra (e ∙ all) (not-true t n)
