-- `lent_places::put_context` meets its contract.
-- Assumes nothing.
use mathlib.Core.Logic.{⊎_elim}
use Rattle.lent_places.proofs.Steps.{other_length, no_place, place_written}
use Rattle.lent_places.proofs.put_context.Goals as goal

pub returns-then-i-lt4 : goal.returns-then-i-lt4
returns-then-i-lt4 c = place_written _ _ _ c.if-b-eq80.true c.if-i-lt4.true c.context_words.ensures c.put_run.ensures.0

pub returns-else-b-eq80 : goal.returns-else-b-eq80
returns-else-b-eq80 c = ⊎_elim (λ h. no_place _ _ _ h.0 h.1) (λ h. other_length _ _ _ h) c.else-b-eq80.either
