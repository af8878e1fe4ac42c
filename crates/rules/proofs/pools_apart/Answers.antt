-- `rules::pools_apart` states that each pool is judged as if the other were none, which proofs/PoolsApart.antt proves.
-- Assumes nothing.
use Rattle.rules.proofs.PoolsApart.{apart}
use Rattle.rules.proofs.pools_apart.Goals as goal

pub returns : goal.returns
returns c = apart
