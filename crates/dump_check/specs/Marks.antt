-- What the walk over the packets promises of the marks that it makes.
use Rattle.std.specs.Prelude.{◌≡◌, Bool, cond, ◌&&◌, List, ℕ, ◌<◌, length, get_or}
use Rattle.lists.specs.Below.{any_below}
use Rattle.rules.specs.Ground.{packet_fields, read_packet}
use Rattle.whole_dump.specs.Check.{most_packets, is_read, agree, piece_of, has, packet_at}

-- the piece of an accepted packet that agrees with the first; else a number that no piece has
abbrev pub piece_in : List ℕ → List ℕ → ℕ
piece_in first p = cond (is_read (read_packet p).reading && agree (packet_fields first) (packet_fields p)) (piece_of (packet_fields p)) most_packets

-- one of the first i packets has piece k
abbrev pub held : List ℕ → List ℕ → ℕ → ℕ → Bool
held bytes lengths i k = any_below (λ j. has k (packet_at bytes lengths j)) i

-- a mark for each piece, 1 where one of the first i packets has it
abbrev pub Marked : List ℕ → List ℕ → ℕ → List ℕ → Type 0
Marked bytes lengths i seen = (length seen ≡ most_packets) × ((k : ℕ) → k < most_packets → get_or seen k 0 ≡ cond (held bytes lengths i k) 1 0)
