-- `TableWordsTable::entry` meets its contract.
-- Assumes nothing.
use mathlib.Core.Path.{sym}
use Rattle.lent_regions.proofs.Steps.{region_at_lem}
use Rattle.lent_regions.proofs.TableWordsTable.entry.Goals as goal

pub returns : goal.returns
returns c = sym (region_at_lem c.args.self.now.words.now c.args.i c.requires)
