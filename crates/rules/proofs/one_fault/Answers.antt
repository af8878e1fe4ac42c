-- `rules::one_fault` states what one fault gets, which proofs/OneFault.antt proves.
-- Assumes nothing.
use Rattle.rules.proofs.OneFault.{one_fault}
use Rattle.rules.proofs.one_fault.Goals as goal

pub returns : goal.returns
returns c = one_fault
