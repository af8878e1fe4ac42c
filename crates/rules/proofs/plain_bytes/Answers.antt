-- `rules::plain_bytes` states what the shared definitions say in plain bytes, which proofs/PlainBytes.antt proves.
-- Assumes nothing.
use Rattle.rules.proofs.PlainBytes.{plain_bytes}
use Rattle.rules.proofs.plain_bytes.Goals as goal

pub returns : goal.returns
returns c = plain_bytes
