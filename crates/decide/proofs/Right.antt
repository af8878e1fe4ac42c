-- A range of a word or more has a right exactly if the one region that holds it has.
-- Assumes nothing.
use mathlib.Core.Path.{◌≡◌, sym, ap, ◌∙◌}
use mathlib.Core.Bool.{Bool, true}
use mathlib.Core.List.{List}
use Prim.Native.Nat.{ℕ, ◌≤◌}
use Rattle.lists.proofs.Tests.{either, contra}
use Rattle.rules.specs.Regions.{region_at, table_rules, any_right, in_one_region, region_of}
use Rattle.rules.specs.GoodWhen.{LiesIn}
use Rattle.rules.proofs.Table.{one_out, one_in, holds_any, region_holds, holds_unique}
use Rattle.rules.specs.declared.Range.{Range}
use Rattle.rules.specs.declared.Region.{Region}

module _ (right : Region → Bool) (rs : List Region) (n : ℕ) (table : table_rules rs n ≡ true) (a : Range) (some : 1 ≤ a.words) (inside : in_one_region any_right rs n a ≡ true) where
  found : LiesIn any_right rs n a (region_of rs n a)
  found = region_holds rs n a inside

  -- a region with the right that holds the range is the one found
  only : in_one_region right rs n a ≡ true → right (region_at rs (region_of rs n a)) ≡ true
  only h =
      let r = one_out right rs n a h in
      let same : region_of rs n a ≡ r.0 = holds_unique rs n table a (region_of rs n a) r.0 some found (holds_any right rs n a r.0 r.1) in
      ap (λ (k : ℕ). right (region_at rs k)) same ∙ r.1.allowed

  pub right_there : in_one_region right rs n a ≡ right (region_at rs (region_of rs n a))
  right_there =
      either (right (region_at rs (region_of rs n a)))
      (λ e. one_in right rs n a (region_of rs n a) (record { in_use = found.in_use; from = found.from; to = found.to; allowed = e }) ∙ sym e)
      (λ e. either (in_one_region right rs n a) (λ h. absurd (contra (only h) e)) (λ h. h ∙ sym e))
