-- What 0 means: the packets are, in some order, one packet for each piece of one dump.
use Rattle.std.specs.Prelude.{◌≡◌, ◌↔◌, ℕ, suc, ◌+◌, ◌*◌, ◌/◌, ◌%◌, ◌≤◌, length}
use mathlib.Core.List.{List, [], ◌∷◌, ◌++◌, Permᴰ}
use Rattle.wire.specs.Bytes.{AreBytes}
use Rattle.wire.specs.ByByte.{two, four}
use Rattle.rules.specs.Regions.{start_of}
use Rattle.rules.specs.Ground.{read_packet}
use Rattle.rules.specs.Demand3.{packets_due}
use Rattle.rules.specs.declared.Range.{Range}
use Rattle.whole_dump.specs.Check.{check_dump}
use Rattle.whole_dump.specs.Numbers.{IsRead}

-- packets as they are handed over: back to back, and the list of their lengths, two bytes each
abbrev pub back_to_back : List (List ℕ) → List ℕ
back_to_back [] = []
back_to_back (p ∷ ps) = p ++ back_to_back ps

abbrev pub lengths_of : List (List ℕ) → List ℕ
lengths_of [] = []
lengths_of (p ∷ ps) = length p / 256 ∷ length p % 256 ∷ lengths_of ps

-- the same packets in some other order
abbrev pub Reordered : List (List ℕ) → List (List ℕ) → Type 0
Reordered ps qs = Permᴰ ps qs

module _ (unit transaction : ℕ) (r : Range) where
  -- a packet with piece j of the range r, by its bytes
  pub record IsPiece (j : ℕ) (p : List ℕ) : Type 0 where
    pub is_read_lem : IsRead p
    pub unit_is : two p 6 / 4096 ≡ unit
    pub transaction_is : two p 6 % 4096 ≡ transaction
    pub address : four p 12 ≡ start_of r
    pub words : four p 16 ≡ r.words
    pub here : four p 20 ≡ start_of r + 4 * (1016 * j)

  -- packets with pieces j, j + 1 and so on
  abbrev pub InOrder : ℕ → List (List ℕ) → Type 0
  InOrder j [] = Unit {0}
  InOrder j (p ∷ ps) = IsPiece j p × InOrder (suc j) ps

pub record WholeDump (ps : List (List ℕ)) : Type 0 where
  pub unit : ℕ
  pub transaction : ℕ
  pub range : Range
  pub some : 1 ≤ range.words
  -- in the order of their addresses
  pub ordered : List (List ℕ)
  pub order : Reordered ps ordered
  pub each : InOrder unit transaction range 0 ordered
  pub all : length ordered ≡ packets_due range

-- their data, joined
abbrev pub data_of : List (List ℕ) → List ℕ
data_of [] = []
data_of (p ∷ ps) = (read_packet p).part ++ data_of ps

pub record ZeroMeans : Type 0 where
  pub whole : (bytes lengths : List ℕ) → AreBytes lengths
      → (check_dump bytes lengths ≡ 0) ↔ ((ps : List (List ℕ)) × WholeDump ps × (bytes ≡ back_to_back ps) × (lengths ≡ lengths_of ps))
  -- the data in the order of their addresses are as many words as the range has
  pub words : (ps : List (List ℕ)) (w : WholeDump ps) → length (data_of w.ordered) ≡ 4 * w.range.words
