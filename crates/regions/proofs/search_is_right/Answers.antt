-- `regions::search_is_right` states that the search by halving is right in a table by the rules, which proofs/InOrder.antt proves.
-- Assumes nothing.
use Rattle.regions.proofs.InOrder.{right_in_order}
use Rattle.regions.proofs.search_is_right.Goals as goal

pub returns : goal.returns
returns c = right_in_order
