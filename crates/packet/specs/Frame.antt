-- Numbers 4 to 8 of a command packet: what a box of some unit tests of the bytes alone.
use Rattle.std.specs.Prelude.{not, cond, List, [], ◌∷◌, ℕ, eqb, length, Result, Ok, Err}
use Rattle.rules.specs.Packets.{command_apid, apid_of, well_formed, command_unit, decode}
use Rattle.rules.specs.Results.{Row, row}
use Rattle.rules.specs.Commands.{is_unknown, wrong_length}
use Rattle.rules.specs.declared.Refusal.TheVariants.{Malformed, OtherApid, UnknownCode, PacketLength, OtherUnit}
use Rattle.rules.specs.declared.Refusal.{Refusal}

unfoldable pub frame_rows : List ℕ → ℕ → List Row
frame_rows p unit =
    row Malformed (not (well_formed p))
    ∷ row OtherApid (not (eqb (apid_of p) command_apid))
    ∷ row UnknownCode (is_unknown (decode p))
    ∷ row PacketLength (wrong_length p (decode p))
    ∷ row OtherUnit (not (eqb (command_unit p) unit))
    ∷ []

-- THE STEPS: before the function code, and after it

-- 4 and 5
unfoldable pub headed_of : List ℕ → Result (Unit {0}) Refusal
headed_of p = cond (well_formed p) (cond (eqb (apid_of p) command_apid) (Ok tt) (Err OtherApid)) (Err Malformed)

-- 7 and 8 of a packet that must have n bytes
abbrev pub checked_by : List ℕ → ℕ → ℕ → Result (Unit {0}) Refusal
checked_by p unit n = cond (eqb (length p) n) (cond (eqb (command_unit p) unit) (Ok tt) (Err OtherUnit)) (Err PacketLength)
