-- `rules::silence_after_a_cancel` states the silence after a cancel, which proofs/Silence.antt proves from demand 2.
-- Assumes nothing.
use Rattle.rules.proofs.Silence.{silence}
use Rattle.rules.proofs.silence_after_a_cancel.Goals as goal

pub returns : goal.returns
returns c = silence
