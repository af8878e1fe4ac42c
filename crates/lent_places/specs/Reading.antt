-- The places of 20 words as they are read: a transaction number of 16 bits, as a `Context` has it. A greater one, which no state's block has,
-- is taken modulo 2^16. Of a block that is a state these are the places that it has.
use Rattle.std.specs.Prelude.{List, [], ◌∷◌, ℕ, ◌*◌, ◌%◌}
use Rattle.rules.specs.declared.Context.{Context}
use Rattle.rules.specs.declared.Context.TheVariants.{Idle, Busy}
use Rattle.rules.specs.declared.Place.{Place}
use Rattle.block.specs.Blocks.{context_in}
use Rattle.block.specs.Runs.{runs}

abbrev pub context_read : Context → Context
context_read Idle = Idle
context_read (Busy d) = Busy (record { transaction = d.transaction % 65536; range = d.range; sent = d.sent })

unfoldable pub places_read : List ℕ → List Place
places_read ps = runs (λ i. record { context = context_read (context_in ps (5 * i)) } ∷ []) 4
