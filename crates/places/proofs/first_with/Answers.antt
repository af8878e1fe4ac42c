-- `places::first_with` meets its contract.
-- Assumes nothing.
use mathlib.Core.Path.{◌≡◌, ◌∙◌}
use mathlib.Core.Bool.{Bool, true, false}
use Prim.Native.Nat.{ℕ}
use Rattle.std.proofs.Common.{rules}
use Rattle.std.proofs.lemmas.Iterator.{first_from_Range}
use Rattle.rules.specs.States.{context_at, busy_with}
use Rattle.places.specs.Turns.{first_within}
use Rattle.places.proofs.Steps.{first_found_is}
use Rattle.places.proofs.first_with.Goals as goal

pub returns : goal.returns
unfolding first_within
returns g c =
    let p : ℕ → Bool = λ i. busy_with c.args.t (context_at (g.P.Places.places c.args.ps.now) i) in
    c.unwrap_or.ensures
    ∙ first_found_is p c.args.k _ (first_from_Range _ _ _ _ (λ i. p i ≡ true) (λ i. p i ≡ false) c.find.ensures.ran (λ x q h. search rules) (λ x q h. search rules))
