-- `state::pool_rules` meets its contract.
-- Assumes nothing.
use Prim.Native.Nat.{◌≤◌}
use native.Mathlib.Omega.{arith}
use borrow.Author.Tests.{eq-eqb, ne_eqb}
use Rattle.regions.proofs.Answers.{can_dump_of}
use Rattle.state.proofs.pool_rules.Goals as goal

pub returns-then-p-eq0-2 : goal.returns-then-p-eq0-2
returns-then-p-eq0-2 g c =
    let a = c.args in
    let some : 1 ≤ a.p.words = omega (arith, c.if-p-eq0.false) in
    λ h.
    rw (ne_eqb _ _ c.if-p-eq0.false, eq-eqb _ _ c.if-p-eq0-2.true)
    (can_dump_of (g.T.Table.entries a.rs.now) a.n a.p _ c.find_region.ensures.0 _ c.can_dump.ensures h some)
