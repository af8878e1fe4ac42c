-- `places::dump_fields` meets its contract.
-- Assumes nothing.
use mathlib.Core.Path.{refl}
use Rattle.rules.specs.States.{piece_words}
use Rattle.places.specs.Turns.{dump_fields}
use Rattle.places.proofs.dump_fields.Goals as goal

pub returns : goal.returns
unfolding dump_fields piece_words
returns c = refl
