-- `c_theorems::from_c` states FromC, which proofs/FromC.antt proves.
-- Assumes nothing.
use Rattle.c_theorems.proofs.FromC.{from_c}
use Rattle.c_theorems.proofs.from_c.Goals as goal

pub returns : goal.returns
returns c = from_c
