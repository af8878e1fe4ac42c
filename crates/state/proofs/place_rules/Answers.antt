-- `state::place_rules` meets its contract.
-- Assumes nothing.
use mathlib.Core.Path.{sym, ◌∙◌}
use Rattle.state.proofs.Steps.{place_idle, place_busy}
use Rattle.state.proofs.place_rules.Goals as goal

pub returns-in-Idle : goal.returns-in-Idle
returns-in-Idle g c =
    let a = c.args in
    λ h. place_idle (g.T.Table.entries a.rs.now) a.n (g.P.Places.places a.ps.now) a.i (sym c.context-context.ensures ∙ c.in-Idle.is)

pub returns-in-Busy : goal.returns-in-Busy
returns-in-Busy g c =
    let a = c.args in
    λ h.
    place_busy (g.T.Table.entries a.rs.now) a.n (g.P.Places.places a.ps.now) a.i _ (sym c.context-context.ensures ∙ c.in-Busy.is) _ (c.dump_rules.ensures h) _
    c.first_with.ensures
