-- `lent_places::first_with` meets its contract.
-- Assumes nothing.
use mathlib.Core.Path.{◌≡◌, ◌∙◌}
use mathlib.Core.Bool.{true, false}
use Rattle.std.proofs.Common.{rules}
use Rattle.std.proofs.lemmas.Iterator.{first_from_Range}
use Rattle.places.specs.Turns.{first_within}
use Rattle.lent_places.proofs.Steps.{with, first_with_is}
use Rattle.lent_places.proofs.first_with.Goals as goal

pub returns : goal.returns
unfolding first_within
returns c =
    let a = c.args in
    let p = with a.ps.now a.t a.k _ c.min.ensures in
    c.unwrap_or.ensures
    ∙ first_with_is a.ps.now a.t a.k _ c.min.ensures _ (first_from_Range _ _ _ _ (λ i. p i ≡ true) (λ i. p i ≡ false) c.find.ensures.ran (λ x q h. search rules) (λ x q h. search rules))
