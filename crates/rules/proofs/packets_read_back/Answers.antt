-- `rules::packets_read_back` states that packets are read back as laid down, which proofs/ReadBack.antt proves.
-- Assumes nothing.
use Rattle.rules.proofs.ReadBack.{read_back}
use Rattle.rules.proofs.packets_read_back.Goals as goal

pub returns : goal.returns
returns c = read_back
