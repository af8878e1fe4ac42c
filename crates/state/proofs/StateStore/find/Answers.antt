-- The lookup in a good state.
-- Assumes nothing.
use Rattle.rules.proofs.Located.{good_table}
use Rattle.regions.proofs.Answers.{found_in_order}
use Rattle.state.proofs.StateStore.find.Goals as goal

pub returns : goal.returns
returns c = λ good. let s = c.args.self.now in found_in_order s.regions s.count _ c.find_region.ensures.0 (good_table s good)
