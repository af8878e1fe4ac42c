-- `command_writer::put_identity` meets its contract.
-- Assumes nothing.
use Rattle.command_writer.proofs.Steps.{half_word, identity_stores}
use Rattle.command_writer.proofs.put_identity.Goals as goal

pub returns : goal.returns
returns c = let a = c.args in (identity_stores a.b.now a.id c.requires.0 c.requires.1, half_word a.id c.requires.0)
