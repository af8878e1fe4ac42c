-- `dump_check::bytes_listed` meets its contract.
-- Assumes nothing.
use mathlib.Core.Path.{◌≡◌, refl, sym, ap₂, ◌∙◌}
use Prim.Native.Nat.{◌+◌}
use native.Mathlib.Omega.{arith}
use borrow.Author.Rules.{rules}
use Rattle.lists.proofs.Below.{sum_more}
use Rattle.whole_dump.specs.Check.{length_at, bytes_before}
use Rattle.dump_check.proofs.bytes_listed.Goals as goal

pub loop-i-init : goal.loop-i-init
unfolding bytes_before
loop-i-init c = (refl, search rules)

pub loop-i-preserved : goal.loop-i-preserved
unfolding bytes_before
loop-i-preserved c =
    let lengths = c.args.lengths.now in
    (ap₂ (λ x y. x + y) c.loop-i.invariant.0 (c.from-total.ensures ∙ c.read16.ensures) ∙ sym (sum_more (length_at lengths) c.loop-i.i), search rules)
