-- A batch of one packet, wherever it stands in the buffer, is the command call with that packet.
-- Assumes nothing.
use mathlib.Core.Path.{◌≡◌, ◌∙◌}
use mathlib.Core.List.{List, ◌++◌, append_assoc}
use Prim.Native.Nat.{ℕ, ◌+◌, ◌≤◌}
use native.Mathlib.Omega.{arith}
use lib.ListN.{length, length-append}
use lib.Seq.{take-append_seam, drop-append_seam}
use Rattle.batches.specs.AnItem.{AnItem}
use Rattle.batches.specs.Batch.{bytes_from}
use Rattle.batches.proofs.InPlain.{packet_inside}
use Rattle.batches.proofs.Promises.{promises}

module _ (before p after : List ℕ) where
  -- the packet lies in the buffer
  there : length before + length p ≤ length (before ++ p ++ after)
  there = simp length-append (omega arith)

  -- the bytes from its start on, as many as it has, are the packet
  its_bytes : bytes_from (before ++ p ++ after) (length before) (length p) ≡ p
  its_bytes =
      packet_inside (before ++ p ++ after) (length before) (length p) there
      ∙ rw (append_assoc, drop-append_seam before (p ++ after), take-append_seam p after)

-- so the call with one item is the call with the packet
pub an_item : AnItem
an_item s before p after symbols image replies records some long =
    rw (its_bytes before p after) at
    (promises.one_command s (before ++ p ++ after) (length before) (length p) symbols image replies records some long)
