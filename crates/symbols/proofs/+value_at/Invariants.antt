-- `symbols::value_at`'s measure: the record's number, which falls at each alias.
use Rattle.symbols.proofs.+value_at.Given as goal

abbrev pub decreases-value_at : goal.decreases-value_at
decreases-value_at l = l.i
