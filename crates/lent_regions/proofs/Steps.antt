-- Region i of a table in words against region i of the table, and a test of the indices below a number.
-- Assumes nothing.
use mathlib.Core.Path.{◌≡◌, refl, sym, ap, ◌∙◌}
use mathlib.Core.Bool.{Bool, ◌&&◌, and-true}
use mathlib.Core.List.{List}
use Prim.Native.Nat.{ℕ, zero, suc, ◌+◌, ◌*◌, ◌-◌, ◌<◌, min}
use native.Mathlib.Omega.{arith}
use lib.Dec.{leb}
use Rattle.std.proofs.Math.Bool.{and_assoc}
use Rattle.std.specs.List.{range_with_len, list_all}
use Rattle.lists.specs.Below.{all_below}
use Rattle.lists.proofs.Below.{all_same}
use Rattle.rules.specs.Regions.{no_region, region_at}
use Rattle.block.specs.Blocks.{word, region_in, regions_in, regions_bounds}
use Rattle.block.proofs.Runs.{list_at}

pub region_at_lem : (w : List ℕ) (i : ℕ) → i < 16 → region_at (regions_in w 0) i ≡ region_in w (3 * i)
region_at_lem w i l = let e : 0 + 3 * i ≡ 3 * i = omega arith in list_at no_region (λ k. region_in w (0 + 3 * k)) 16 i l ∙ ap (region_in w) e

-- the first index apart
all_first : (p : ℕ → Bool) (n : ℕ) → (p 0 && all_below (λ i. p (suc i)) n) ≡ all_below p (suc n)
all_first p zero = and-true (p 0)
all_first p (suc n) = sym (and_assoc (p 0) (all_below (λ i. p (suc i)) n) (p (suc n))) ∙ ap (λ b. b && p (suc n)) (all_first p n)

-- one after the other from a on
all_from : (p : ℕ → Bool) (a n : ℕ) → list_all p (range_with_len a n) ≡ all_below (λ i. p (a + i)) n
all_from p a zero = refl
all_from p a (suc n) =
    let e : a + 0 ≡ a = omega arith in
    rw (all_from p (a + 1) n, all_same (λ i. p (a + 1 + i)) (λ i. p (a + suc i)) n (λ i l. let e : a + 1 + i ≡ a + suc i = omega arith in ap p e))
    (rw e at (all_first (λ i. p (a + i)) n))

-- the rights of the entries in use
pub rights_all : (w : List ℕ) (n m : ℕ) → m ≡ min n 16 → list_all (λ i. leb (word w (3 * i + 2)) 3) (range_with_len 0 (m - 0)) ≡ regions_bounds w 0 n
unfolding regions_bounds
rights_all w n m em =
    let e : m - 0 ≡ min n 16 = omega arith in
    rw e (all_from (λ i. leb (word w (3 * i + 2)) 3) 0 (min n 16)
    ∙ all_same (λ i. leb (word w (3 * (0 + i) + 2)) 3) (λ i. leb (word w (0 + 3 * i + 2)) 3) (min n 16)
    (λ i l. let k : 3 * (0 + i) + 2 ≡ 0 + 3 * i + 2 = omega arith in ap (λ j. leb (word w j) 3) k))
