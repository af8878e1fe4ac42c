-- `whole_dump::headers_alone` states that sequence counts, ticks and data do not decide, which proofs/HeadersAlone.antt proves.
-- Assumes nothing.
use Rattle.whole_dump.proofs.HeadersAlone.{headers_alone}
use Rattle.whole_dump.proofs.headers_alone.Goals as goal

pub returns : goal.returns
returns c = headers_alone
