-- `bulk::put_packet` meets its contract.
-- Assumes nothing.
use mathlib.Core.Path.{refl}
use native.Mathlib.Omega.{arith}
use Rattle.bulk.proofs.Packet.{head_then_words, test_fits, test_fails}
use Rattle.bulk.proofs.put_packet.Goals as goal

pub returns : goal.returns
returns c =
    let fits = test_fits c.args.f c.args.words.now c.args.buffer.now c.packet_fits.ensures c.if-not-packet_fits.false-raw in (
      λ h. head_then_words _ _ _ _ _ _ h c.head_words-head.ensures (c.put_words.ensures.0 (omega (arith, fits.room)))
          (c.put_words-2.ensures.0 (omega (arith, fits.room))),
      λ none. absurd (none fits),
    )
