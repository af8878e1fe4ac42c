-- What the call that writes a packet promises, in the words of the decisions.
-- Assumes nothing.
use mathlib.Core.Path.{◌≡◌, refl, sym}
use mathlib.Core.Bool.{true, false, cond}
use mathlib.Core.List.{List}
use Prim.Native.Nat.{ℕ}
use lib.ListN.{length}
use Rattle.lists.specs.Splice.{splice}
use Rattle.lists.proofs.Tests.{either}
use Rattle.rules.specs.declared.DumpPacket.{DumpPacket}
use Rattle.bulk.specs.DumpBytes.{dump_packet_bytes, PacketFits, packet_fits}
use Rattle.bulk.proofs.Packet.{test_fits, test_fails}

-- a packet
pub packet_put : (f : DumpPacket) (ws buffer : List ℕ) {r : List ℕ}
    → (PacketFits f ws buffer → r ≡ splice buffer 0 (dump_packet_bytes f ws)) × ((PacketFits f ws buffer → ⊥) → r ≡ buffer)
    → r ≡ cond (packet_fits f (length ws) (length buffer)) (splice buffer 0 (dump_packet_bytes f ws)) buffer
packet_put f ws buffer h =
    either (packet_fits f (length ws) (length buffer))
    (λ e. rw e (h.0 (test_fits f ws buffer {t = true} (sym e) refl)))
    (λ e. rw e (h.1 (test_fails f ws buffer {t = false} (sym e) refl)))
