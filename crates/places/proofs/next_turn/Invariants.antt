-- `places::next_turn` meets its contract.
-- Assumes nothing.
use mathlib.Core.Bool.{false}
use mathlib.Core.Path.{◌≡◌}
use Rattle.lists.specs.Below.{any_below}
use Rattle.rules.specs.States.{context_at}
use Rattle.rules.specs.Slots.{is_busy, place_after}
use Rattle.places.proofs.next_turn.Given as goal

abbrev pub invariant-loop-k : goal.invariant-loop-k
invariant-loop-k g l = any_below (λ j. is_busy (context_at (g.P.Places.places l.ps) (place_after l.last j))) l.k ≡ false
