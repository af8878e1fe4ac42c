-- `whole_dump::zero_means` states what 0 means, which proofs/Whole.antt proves from the cases of the numbers.
-- Assumes nothing.
use Rattle.whole_dump.proofs.Numbers.{numbers}
use Rattle.whole_dump.proofs.Whole.{zero_means}
use Rattle.whole_dump.proofs.zero_means.Goals as goal

pub returns : goal.returns
returns c = zero_means numbers
