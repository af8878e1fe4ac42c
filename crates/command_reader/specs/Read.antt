-- What the command reader makes of a packet that passed 4 and 5: by its function code, the command and its packet's length.
use Rattle.std.specs.Prelude.{Bool, cond, ◌&&◌, List, ℕ, eqb, length, Option, Some, None, Result, Ok, Err}
use Rattle.rules.specs.Packets.{header_at, decode, packet_length, field_rules, zero_rules}
use Rattle.rules.specs.declared.Command.{Command}
use Rattle.rules.specs.declared.Refusal.TheVariants.{UnknownCode, PacketLength, BadField}
use Rattle.rules.specs.declared.Refusal.{Refusal}
use Rattle.rules.specs.declared.Telecommand.{Telecommand}

-- 7 and 9 of a command whose packet must have n bytes, or its fields
abbrev pub given_as : List ℕ → ℕ → Bool → Command → Result Telecommand Refusal
given_as p n zeros k =
    cond (eqb (length p) n)
    (cond (field_rules k && zeros) (Ok (record { header = header_at p 8; command = k })) (Err BadField))
    (Err PacketLength)

-- 6, or what the command of the function code gives
abbrev pub read_as : List ℕ → Option Command → Result Telecommand Refusal
read_as p None = Err UnknownCode
read_as p (Some k) = given_as p (packet_length k) (zero_rules p k) k

-- 4 to 7 and 9, or the fields
abbrev pub read_by : List ℕ → Result (Unit {0}) Refusal → Result Telecommand Refusal
read_by p (Err r) = Err r
read_by p (Ok tt) = read_as p (decode p)
