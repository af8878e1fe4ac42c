-- `c_theorems::batches_from_c` states BatchesFromC, which proofs/Batches.antt proves.
-- Assumes nothing.
use Rattle.c_theorems.proofs.Batches.{batches_from_c}
use Rattle.c_theorems.proofs.batches_from_c.Goals as goal

pub returns : goal.returns
returns c = batches_from_c
