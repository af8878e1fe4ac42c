-- `state::dump_rules` meets its contract.
-- Assumes nothing.
use mathlib.Core.Path.{refl, ◌∙◌}
use Rattle.regions.proofs.Answers.{can_dump_of}
use Rattle.state.proofs.Steps.{dump_tested}
use Rattle.state.proofs.dump_rules.Goals as goal

pub returns-then-dump_fields : goal.returns-then-dump_fields
returns-then-dump_fields g c =
    let a = c.args in
    let rs = g.T.Table.entries a.rs.now in
    λ h.
    let t = dump_tested rs a.n a.d _ _ c.dump_fields.ensures (λ one. can_dump_of rs a.n a.d.range _ c.find_region.ensures.0 _ c.can_dump.ensures h one) in
    rw c.if-dump_fields.true at t

pub returns-else-dump_fields : goal.returns-else-dump_fields
returns-else-dump_fields g c =
    let a = c.args in
    let t = dump_tested (g.T.Table.entries a.rs.now) a.n a.d _ _ c.dump_fields.ensures (λ one. refl) in
    λ h. c.if-dump_fields.false ∙ (rw c.if-dump_fields.false at t)
