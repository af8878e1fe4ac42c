-- Tied to demand 3: the packets of one dump, from any list of calls, in which a batch may stand, pass the check in any order.
use Rattle.std.specs.Prelude.{◌≡◌, List, ◌∷◌, ◌++◌, map, ℕ, ◌≤◌, length}
use Rattle.rules.specs.Demand3.{Call, LendsBytes, Event, events, packets, packets_due, packet_in, Accepted, Uncancelled}
use Rattle.rules.specs.Results.{verdict_number}
use Rattle.rules.specs.States.{start_up}
use Rattle.rules.specs.declared.Range.{Range}
use Rattle.rules.specs.declared.Region.{Region}
use Rattle.batches.specs.Lists.{Step, StepsLendBytes, events_along}
use Rattle.whole_dump.specs.Check.{check_dump}
use Rattle.whole_dump.specs.Whole.{back_to_back, lengths_of, Reordered}

-- an accepted dump that is not cancelled, in a list of calls that goes as far as its packet m: its packets, in any order
abbrev pub PassesInAnyOrder : List Event → Type 0
PassesInAnyOrder es =
    (before after : List Event) (e : Event) (t : ℕ) (r : Range)
    → es ≡ before ++ e ∷ after
    → Accepted t r e
    → Uncancelled t (packets_due r) after
    → packets_due r ≤ length (packets t after)
    → (ps : List (List ℕ)) → Reordered (map packet_in (packets t after)) ps
    → check_dump (back_to_back ps) (lengths_of ps) ≡ 0

abbrev pub OwnDumpsPass : Type 0
OwnDumpsPass =
    (rs : List Region) (n : ℕ) (pools : List Range) (unit : ℕ) → verdict_number (start_up rs n pools unit).verdict ≡ 0
    → (calls : List Call) → LendsBytes calls
    → PassesInAnyOrder (events (start_up rs n pools unit).state calls)

abbrev pub OwnDumpsPassWithBatches : Type 0
OwnDumpsPassWithBatches =
    (rs : List Region) (n : ℕ) (pools : List Range) (unit : ℕ) → verdict_number (start_up rs n pools unit).verdict ≡ 0
    → (xs : List Step) → StepsLendBytes xs
    → PassesInAnyOrder (events_along (start_up rs n pools unit).state xs)
