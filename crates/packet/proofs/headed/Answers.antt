-- `packet::headed` meets its contract.
-- Assumes nothing.
use Prim.Native.Nat.{ℕ, ◌%◌}
use mathlib.Core.Path.{sym, ap, ◌∙◌}
use borrow.Author.Tests.{eq-eqb, ne_eqb}
use Rattle.packet.specs.Frame.{headed_of}
use Rattle.packet.proofs.headed.Goals as goal

pub returns-then-not-well_formed : goal.returns-then-not-well_formed
unfolding headed_of
returns-then-not-well_formed c = rw (sym c.well_formed-2.ensures ∙ c.if-not-well_formed.true)

pub returns-then-get16-ne1604 : goal.returns-then-get16-ne1604
unfolding headed_of
returns-then-get16-ne1604 c = rw (sym c.well_formed-2.ensures ∙ c.if-not-well_formed.false, ne_eqb _ _ (λ e. c.if-get16-ne1604.true (ap (λ (x : ℕ). x % 2048) c.get16.ensures ∙ e)))

pub returns : goal.returns
unfolding headed_of
returns c = rw (sym c.well_formed-2.ensures ∙ c.if-not-well_formed.false, eq-eqb _ _ (sym (ap (λ (x : ℕ). x % 2048) c.get16.ensures) ∙ c.if-get16-ne1604.false))
