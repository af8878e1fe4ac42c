-- `c_theorems::examples` states the examples, which proofs/Computed.antt proves.
-- Assumes nothing.
use Rattle.c_theorems.proofs.Computed.{computed}
use Rattle.c_theorems.proofs.examples.Goals as goal

pub returns : goal.returns
returns c = computed
