-- The start of a command packet, which is the same for every command.
use Rattle.std.specs.Prelude.{List, [], ◌∷◌, ◌++◌, ℕ}
use Rattle.rules.specs.Packets.{primary_header, command_apid}

-- the eight bytes before unit and transaction in a packet of n bytes, the check byte still 0
abbrev pub start_bytes : ℕ → ℕ → ℕ → List ℕ
start_bytes count code n = primary_header 1 1 command_apid count n ++ (code ∷ 0 ∷ [])
