-- `lent_places::first_idle` meets its contract.
-- Assumes nothing.
use mathlib.Core.Path.{◌∙◌}
use Rattle.lent_places.proofs.Steps.{first_idle_read}
use Rattle.lent_places.proofs.first_idle.Goals as goal

pub returns : goal.returns
returns c = c.first_idle.ensures ∙ first_idle_read c.args.ps.now
