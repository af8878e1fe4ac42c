-- The bounds of the places of a block.
-- Assumes nothing.
use native.Mathlib.Omega.{arith}
use Rattle.block.proofs.Parts.{bounds_part}
use Rattle.state.proofs.words.places_bounds.Goals as goal

pub returns : goal.returns
returns c =
    let part = bounds_part c.args.b.now 54 20 in
    rw (
      c.place_bounds.ensures,
      c.place_bounds-2.ensures,
      c.place_bounds-3.ensures,
      c.place_bounds-4.ensures,
      part 0 54 (omega arith) (omega arith),
      part 5 59 (omega arith) (omega arith),
      part 10 64 (omega arith) (omega arith),
      part 15 69 (omega arith) (omega arith),
    )
