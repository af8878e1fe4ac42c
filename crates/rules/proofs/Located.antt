-- Where a range of a good state's table lies in the image, word by word.
-- Assumes nothing.
use mathlib.Core.Path.{◌≡◌, refl, ◌∙◌}
use mathlib.Core.Bool.{Bool, true}
use mathlib.Core.List.{List, [], ◌∷◌}
use Prim.Native.Nat.{ℕ, zero, suc, ◌+◌, ◌-◌, ◌/◌, ◌%◌, ◌≤◌}
use native.Mathlib.Omega.{arith}
use lib.ListN.{take}
use Rattle.rules.specs.Regions.{table_rules, start_of, range_at, any_right, words_below, image_index}
use Rattle.rules.specs.States.{good_state}
use Rattle.rules.specs.GoodWhen.{LiesIn, words_in, first_word, Lies}
use Rattle.rules.specs.declared.Range.{Range}
use Rattle.rules.specs.declared.Region.{Region}
use Rattle.rules.specs.declared.State.{State}
use Rattle.rules.proofs.Good.{good_out}
use Rattle.rules.proofs.Rules.{start_out}
use Rattle.rules.proofs.Table.{table_region, image_index_lem}

-- the table of a good state
pub good_table : (s : State) → good_state s ≡ true → table_rules s.regions s.count ≡ true
good_table s g = (start_out s.regions s.count s.pools s.unit (good_out s g).rules).table

-- one region more
words_more : (rs : List Region) (n : ℕ) → words_in (take (suc n) rs) ≡ words_in (take n rs) + (range_at rs n).words
words_more [] zero = refl
words_more [] (suc n) = refl
words_more (r ∷ rs) zero = omega arith
words_more (r ∷ rs) (suc n) = let h = words_more rs n in omega arith

-- the sum over the first n entries
pub words_sum : (rs : List Region) (n : ℕ) → words_below rs n ≡ words_in (take n rs)
unfolding words_below
words_sum rs zero = refl
words_sum rs (suc n) = let h = words_sum rs n in let m = words_more rs n in omega arith

module _ (rs : List Region) (n : ℕ) (a : Range) where
  -- a range that lies in a region from a word on lies in that region
  pub lies_in : (i offset : ℕ) → Lies rs n a i offset → LiesIn any_right rs n a i
  lies_in i offset l = record { in_use = l.in_use; from = let e = l.from in omega arith; to = let e = l.from in let t = l.to in omega arith; allowed = refl }

  -- and begins in the image at that word
  pub lies_index : table_rules rs n ≡ true → 1 ≤ a.words → (i offset : ℕ) → Lies rs n a i offset → (image_index rs n a).0 ≡ first_word rs i + offset
  lies_index table one i offset l =
      let e = l.from in
      let s = words_sum rs i in
      image_index_lem rs n table a i one (lies_in i offset l) ∙ omega arith

  -- an aligned range in a region lies there from one of its words on
  pub lies_from : table_rules rs n ≡ true → start_of a % 4 ≡ 0 → (right : Region → Bool) (i : ℕ) → LiesIn right rs n a i
      → Lies rs n a i ((start_of a - start_of (range_at rs i)) / 4)
  lies_from table aligned right i l =
      let r = table_region rs n table i l.in_use in
      let m = r.multiple in
      let f = l.from in
      let t = l.to in
      record { in_use = l.in_use; from = omega arith; to = omega arith }
