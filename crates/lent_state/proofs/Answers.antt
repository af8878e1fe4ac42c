-- What the test of a table's block answers by its steps.
-- Assumes nothing.
use mathlib.Core.Path.{◌≡◌}
use mathlib.Core.Logic.{◌≢◌}
use mathlib.Core.Bool.{Bool, true, false, ◌&&◌, not, cond}
use mathlib.Core.List.{List, [], ◌∷◌}
use Prim.Native.Nat.{ℕ, ◌%◌}
use native.Mathlib.Omega.{arith}
use lib.Dec.{leb, eqb}
use lib.ListN.{length, take, drop}
use borrow.Author.Tests.{eq-eqb, leb-true}
use Rattle.lists.proofs.Tests.{either}
use Rattle.rules.specs.Regions.{image_length}
use Rattle.rules.specs.States.{start_rules}
use Rattle.rules.specs.declared.Range.{Range}
use Rattle.block.specs.Blocks.{word, range_in, regions_in, pools_in, regions_bounds, is_table}
use Rattle.block.proofs.Parts.{regions_part, rights_part}
use Rattle.state.proofs.Answers.{start_words_none, start_words_some}
use Rattle.lent_state.specs.Tests.{good_table}

-- v and r as the words of the table and the test of its rights are
module _ (t : List ℕ) (l : length t ≡ 54) (v : List ℕ) (ev : v ≡ take 48 (drop 6 t)) (r : Bool) (er : r ≡ regions_bounds v 0 (word t 1)) where
  table_is : is_table t ≡ (leb (word t 0) 255 && r)
  unfolding is_table
  table_is = rw (eq-eqb (length t) 54 l, er, ev, rights_part t 6 (word t 1))

  -- w as start-up's words are, the unit cut to a byte
  module _ (p q : Range) (ep : p ≡ range_in t 2) (eq : q ≡ range_in t 4) (w : ℕ)
      (ew : w ≡ cond (start_rules (regions_in v 0) (word t 1) (p ∷ q ∷ []) (word t 0 % 256)) (image_length (regions_in v 0) (word t 1)) 0) where
    start_of_unit : leb (word t 0) 255 ≡ true
        → w ≡ cond (start_rules (regions_in t 6) (word t 1) (pools_in t 2) (word t 0)) (image_length (regions_in t 6) (word t 1)) 0
    start_of_unit u =
        let l = leb-true (word t 0) 255 u in
        let e : word t 0 % 256 ≡ word t 0 = omega arith in
        rw (ev, regions_part t 6, ep, eq, e) at ew

    pub no_start : w ≡ 0 → false ≡ good_table t
    unfolding good_table
    no_start z =
        either (leb (word t 0) 255)
        (λ u.
        let e = start_words_none (regions_in t 6) (word t 1) (pools_in t 2) (word t 0) w (start_of_unit u) z in
        either r (λ h. rw (table_is, u, h, e)) (λ h. rw (table_is, u, h)))
        (λ u. rw (table_is, u))

    pub tested : w ≢ 0 → (leb (word t 0) 255 && r) ≡ good_table t
    unfolding good_table
    tested s =
        either (leb (word t 0) 255)
        (λ u.
        let e = (start_words_some (regions_in t 6) (word t 1) (pools_in t 2) (word t 0) w (start_of_unit u) s).0 in
        either r (λ h. rw (table_is, u, h, e)) (λ h. rw (table_is, u, h)))
        (λ u. rw (table_is, u))
