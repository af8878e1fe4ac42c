-- Whose packet is next, and what of a busy dump's rules does not need the region table.
use Rattle.std.specs.Prelude.{◌≡◌, ◌↔◌, Bool, ◌&&◌, List, Option, None, Some, ℕ, ◌+◌, ◌%◌, ◌<◌, leb, ltb, eqb}
use Rattle.lists.specs.Below.{first_below}
use Rattle.rules.specs.Regions.{aligned}
use Rattle.rules.specs.States.{piece_words, context_at, busy_with}
use Rattle.rules.specs.Slots.{next_place}
use Rattle.rules.specs.declared.ActiveDump.{ActiveDump}
use Rattle.rules.specs.declared.Context.{Context}
use Rattle.rules.specs.declared.Context.TheVariants.{Idle, Busy}
use Rattle.rules.specs.declared.Place.{Place}
use Rattle.places.specs.declared.Seat.{Seat}

abbrev pub turn_of : ℕ → Context → Option Seat
turn_of p Idle = None
turn_of p (Busy d) = Some (record { place = p; dump = d })

-- the first busy place after the last one served, with its dump
unfoldable pub next_turn : List Place → ℕ → Option Seat
next_turn ps last = turn_of (next_place ps last) (context_at ps (next_place ps last))

-- the lowest of the first k places that is busy with transaction t, and k where there is none
unfoldable pub first_within : List Place → ℕ → ℕ → ℕ
first_within ps t k = first_below (λ i. busy_with t (context_at ps i)) k

-- the rules of a busy dump, but for its region
unfoldable pub dump_fields : ActiveDump → Bool
dump_fields d =
    leb d.transaction 4095 && leb 1 d.range.words && leb d.range.words 65535 && aligned d.range
    && eqb (d.sent % piece_words d.range) 0 && ltb d.sent d.range.words

-- THE NUMBERS (paper 01, "Result numbers"): 16 where no dump is busy, and 0 with the dump whose packet is next
abbrev pub turn_number : Option Seat → ℕ
turn_number None = 16
turn_number (Some x) = 0

-- each exactly in its case; whose turn it is: the first busy place after the last one served, going round
pub record TurnNumbers (ps : List Place) (last : ℕ) (r : Option Seat) : Type 0 where
  pub nobody : (turn_number r ≡ 16) ↔ ((i : ℕ) → i < 4 → context_at ps i ≡ Idle)
  pub next : (x : Seat) → r ≡ Some x
      → (k : ℕ) × (k < 4) × (x.place ≡ (last + 1 + k) % 4) × (context_at ps x.place ≡ Busy x.dump)
      × ((j : ℕ) → j < k → context_at ps ((last + 1 + j) % 4) ≡ Idle)
