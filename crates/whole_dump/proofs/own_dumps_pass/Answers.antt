-- `whole_dump::own_dumps_pass` states that the packets of a dump from any list of calls pass, which proofs/FromCalls.antt proves: they are a whole dump.
-- Assumes nothing.
use Rattle.whole_dump.proofs.Numbers.{numbers}
use Rattle.whole_dump.proofs.Whole.{whole_in}
use Rattle.whole_dump.proofs.FromCalls.{own_dumps_pass, with_batches}
use Rattle.whole_dump.proofs.own_dumps_pass.Goals as goal

pub returns : goal.returns
returns c = let own = own_dumps_pass (whole_in numbers) in (own, with_batches own)
