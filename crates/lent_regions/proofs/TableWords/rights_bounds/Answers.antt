-- `TableWords::rights_bounds` meets its contract.
-- Assumes nothing.
use mathlib.Core.Path.{refl, ◌∙◌}
use Prim.Native.Nat.{ℕ, ◌+◌, ◌*◌}
use lib.Dec.{leb}
use Rattle.std.proofs.Common.{rules, tests}
use Rattle.std.proofs.lemmas.Iterator.{YieldsList-from_range}
use Rattle.std.proofs.lemmas.Iterator.Search.{all_from_yields_List}
use Rattle.block.specs.Blocks.{word}
use Rattle.lent_regions.proofs.Steps.{rights_all}
use Rattle.lent_regions.proofs.TableWords.rights_bounds.Goals as goal

pub returns : goal.returns
returns c =
    let w = c.args.self.now.words.now in
    all_from_yields_List (λ (i : ℕ). leb (word w (3 * i + 2)) 3) _ _ c.all.result c.all.ensures.ran (YieldsList-from_range 0 c.min.result _ refl refl)
    (λ x b q k. search (rules, tests))
    ∙ rights_all w c.args.n c.min.result c.min.ensures
