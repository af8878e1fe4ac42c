-- `AnyWordsTable::entry` meets its contract.
-- Assumes nothing.
use mathlib.Core.Path.{sym}
use Rattle.lent_regions.proofs.Steps.{region_at_lem}
use Rattle.lent_regions.proofs.AnyWordsTable.entry.Goals as goal

pub returns : goal.returns
returns c = rw (c.word_at-rights.ensures, c.range_in.ensures) (sym (region_at_lem c.args.self.now.0.now c.args.i c.requires))
