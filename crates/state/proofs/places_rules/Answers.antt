-- `state::places_rules` meets its contract.
-- Assumes nothing.
use mathlib.Core.Path.{◌≡◌, sym, ◌∙◌}
use native.Mathlib.Omega.{arith}
use borrow.Author.Tests.{eq-eqb, not-true}
use Rattle.rules.specs.States.{place_rules, places_rules}
use Rattle.state.proofs.Steps.{some_not}
use Rattle.state.proofs.places_rules.Goals as goal

pub returns-then-not-place_rules : goal.returns-then-not-place_rules
unfolding places_rules
returns-then-not-place_rules g c =
    let a = c.args in
    λ h four.
    rw (eq-eqb _ _ four) (some_not (place_rules (g.T.Table.entries a.rs.now) a.n (g.P.Places.places a.ps.now)) 4 c.loop-i-test.true
    (sym (c.place_rules.ensures h) ∙ c.if-not-place_rules.true))

pub returns : goal.returns
unfolding places_rules
returns g c =
    let e : c.loop-i.i ≡ 4 = omega arith in
    λ h four. rw (eq-eqb _ _ four) (sym (rw e at (c.loop-i.invariant.1 h)))
