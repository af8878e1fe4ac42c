-- `lent_state::put_table` meets its contract.
-- Assumes nothing.
use mathlib.Core.Path.{refl}
use Rattle.lent_state.proofs.Started.{all_written}
use Rattle.lent_state.proofs.put_table.Goals as goal

pub returns : goal.returns
returns c =
    all_written c.args.t.now c.args.b.now c.requires.0 c.requires.1 c.requires.2 _ _ _ c.word_at-n.ensures c.word_at-unit.ensures refl
    _ _ _ _ c.set_word.ensures c.put_run.ensures.0 c.put_run-2.ensures.0 c.set_word-2.ensures
