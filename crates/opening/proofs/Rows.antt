-- The rows of a call, cut in two.
-- Assumes nothing.
use Rattle.std.specs.Prelude.{Option, Some, None, Result, Ok, Err}
use mathlib.Core.Path.{◌≡◌, refl}
use mathlib.Core.List.{List, [], ◌∷◌, ◌++◌}
use Rattle.lists.proofs.Tests.{either}
use mathlib.Core.Bool.{not}
use Prim.Native.Nat.{ℕ}
use lib.Dec.{eqb}
use lib.ListN.{length}
use Rattle.rules.specs.Results.{Row, row, lowest}
use Rattle.rules.specs.Packets.{apid_of, command_apid, well_formed, command_unit, decode, packet_length}
use Rattle.rules.specs.Commands.{is_unknown, wrong_length}
use Rattle.rules.specs.declared.Refusal.TheVariants.{UnknownCode, PacketLength, OtherUnit}
use Rattle.packet.specs.Frame.{frame_rows, headed_of, checked_by}
use Rattle.rules.specs.declared.Refusal.{Refusal}
use Rattle.rules.specs.declared.Command.{Command}

-- of two runs of rows the first decides, unless none of it applies
abbrev pub or_else : Result (Unit {0}) Refusal → Result (Unit {0}) Refusal → Result (Unit {0}) Refusal
or_else (Err r) v = Err r
or_else (Ok tt) v = v

pub lowest_join : (xs ys : List Row) → lowest (xs ++ ys) ≡ or_else (lowest xs) (lowest ys)
unfolding lowest
lowest_join [] ys = refl
lowest_join (x ∷ xs) ys = either x.applies (λ e. rw e) (λ e. rw e (lowest_join xs ys))

-- NUMBERS 4 TO 8: those before the function code, and those that it picks

abbrev pub after_code : List ℕ → ℕ → Option Command → Result (Unit {0}) Refusal
after_code p unit None = Err UnknownCode
after_code p unit (Some k) = checked_by p unit (packet_length k)

module _ (p : List ℕ) (unit : ℕ) where
  picked_lowest : (d : Option Command) → lowest (row UnknownCode (is_unknown d) ∷ row PacketLength (wrong_length p d) ∷ row OtherUnit (not (eqb (command_unit p) unit)) ∷ []) ≡ after_code p unit d
  unfolding lowest
  picked_lowest None = refl
  picked_lowest (Some k) =
      either (eqb (length p) (packet_length k))
      (λ l. rw l (either (eqb (command_unit p) unit) (λ u. rw u) (λ u. rw u)))
      (λ l. rw l)

  pub frame_lowest : lowest (frame_rows p unit) ≡ or_else (headed_of p) (after_code p unit (decode p))
  unfolding lowest frame_rows headed_of
  frame_lowest =
      either (well_formed p)
      (λ w. rw w (either (eqb (apid_of p) command_apid) (λ a. rw a (picked_lowest (decode p))) (λ a. rw a)))
      (λ w. rw w)
