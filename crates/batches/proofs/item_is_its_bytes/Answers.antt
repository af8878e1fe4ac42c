-- `batches::item_is_its_bytes` states that an item is its bytes, which proofs/AnItem.antt proves.
-- Assumes nothing.
use Rattle.batches.proofs.AnItem.{an_item}
use Rattle.batches.proofs.item_is_its_bytes.Goals as goal

pub returns : goal.returns
returns c = an_item
