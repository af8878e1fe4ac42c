-- `symbols::is_named` meets its contract.
-- Assumes nothing.
use mathlib.Core.Path.{◌∙◌}
use Rattle.symbols.specs.Table.{name_at}
use Rattle.symbols.proofs.Names.{same_told}
use Rattle.symbols.proofs.is_named.Goals as goal

pub returns : goal.returns
returns c = rw c.name_of-own.ensures at c.eq.ensures ∙ same_told (name_at c.args.symbol.now 0) c.args.name.now
