-- `c_theorems::ground_from_c` states GroundFromC, which proofs/Ground.antt proves.
-- Assumes nothing.
use Rattle.c_theorems.proofs.Ground.{ground_from_c}
use Rattle.c_theorems.proofs.ground_from_c.Goals as goal

pub returns : goal.returns
returns c = ground_from_c
