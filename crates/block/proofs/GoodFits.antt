-- A good state with a table of 16 and two pools fits a block.
-- Assumes nothing.
use mathlib.Core.Path.{◌≡◌, refl, ap}
use mathlib.Core.List.{List}
use Prim.Native.Nat.{ℕ, ◌≤◌}
use native.Mathlib.Omega.{arith}
use lib.Dec.{ltb}
use lib.ListN.{length, get_or-eq_default}
use borrow.Author.Tests.{ltb-true, ltb-false}
use Rattle.lists.proofs.Tests.{either}
use Rattle.rules.specs.GoodWhen.{Good}
use Rattle.rules.specs.States.{context_at, idle_place}
use Rattle.rules.specs.declared.ActiveDump.{ActiveDump}
use Rattle.rules.specs.declared.Context.{Context}
use Rattle.rules.specs.declared.Context.TheVariants.{Idle, Busy}
use Rattle.rules.specs.declared.Place.{Place}
use Rattle.rules.specs.declared.State.{State}
use Rattle.block.specs.RoundTrip.{ContextFits, Fits}

context_fits : (c : Context) → ((d : ActiveDump) → c ≡ Busy d → d.transaction ≤ 4095) → ContextFits c
context_fits Idle h = tt
context_fits (Busy d) h = let l = h d refl in omega arith

past_last : (ps : List Place) (i : ℕ) → length ps ≤ i → context_at ps i ≡ Idle
past_last ps i h = ap (λ (p : Place). p.context) (get_or-eq_default ps idle_place h)

pub good_fits : (s : State) → Good s → length s.regions ≡ 16 → length s.pools ≡ 2 → Fits s
good_fits s g r p =
    let low = g.last in
    let a = g.replies in
    let v = g.values in
    let b = g.packets in
    let c = g.accepted in
    let d = g.refused in
    let n = g.start.sixteen in
    let u = g.start.unit_fits in
    let four = g.four in
    record {
      regions = r;
      count = omega arith;
      pools = p;
      unit = omega arith;
      places = g.four;
      contexts =
          λ i. either (ltb i 4) (λ h. context_fits (context_at s.places i) (λ d e. (g.dumps i d (ltb-true i 4 h) e).number))
          (λ h. let l = ltb-false i 4 h in rw (past_last s.places i (omega arith)) tt);
      last = omega arith;
      replies = omega arith;
      values = omega arith;
      packets = omega arith;
      accepted = omega arith;
      refused = omega arith;
    }
