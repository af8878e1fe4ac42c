-- `lent_state::put_none` meets its contract.
-- Assumes nothing.
use Rattle.lent_state.proofs.Started.{none_block}
use Rattle.lent_state.proofs.put_none.Goals as goal

pub returns : goal.returns
returns c = rw (c.fill.ensures.after (λ y h. h), c.requires, none_block)
