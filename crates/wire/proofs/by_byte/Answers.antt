-- `wire::by_byte` states what the definitions say byte by byte, which proofs/ByByte.antt proves.
-- Assumes nothing.
use Rattle.wire.proofs.ByByte.{by_byte}
use Rattle.wire.proofs.by_byte.Goals as goal

pub returns : goal.returns
returns c = by_byte
