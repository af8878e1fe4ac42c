-- `lists::by_index` states what the definitions say index by index, which proofs/ByIndex.antt proves.
-- Assumes nothing.
use Rattle.lists.proofs.ByIndex.{by_index}
use Rattle.lists.proofs.by_index.Goals as goal

pub returns : goal.returns
returns c = by_index
