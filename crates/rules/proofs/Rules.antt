-- The rules that start-up tests, as facts one by one, and that they read only the entries in use.
-- Assumes nothing.
use mathlib.Core.Path.{◌≡◌, refl, sym, ap, ◌∙◌}
use mathlib.Core.Logic.{◌≢◌}
use mathlib.Core.Bool.{Bool, true, ◌&&◌}
use mathlib.Core.List.{List, ◌++◌}
use Prim.Native.Nat.{ℕ, zero, suc, ◌+◌, ◌-◌, ◌%◌, ◌≤◌, ◌<◌}
use native.Mathlib.Omega.{arith}
use lib.Dec.{leb}
use lib.ListN.{length, get_or, take, replicate, length-take, get_or-append, get_or-eq_default}
use lib.Seq.{take_all, get_or-take, get_or-append-add}
use borrow.Author.Tests.{leb-true, eqb-true, ne_eqb}
use Rattle.lists.proofs.Tests.{and_left, and_right, by_lt}
use Rattle.lists.proofs.Below.{all_same, any_same}
use Rattle.rules.specs.Regions.{start_of, aligned, no_region, region_at, range_at, region_rules, table_rules, dump_right, holds, in_one_region}
use Rattle.rules.specs.States.{pool_at, pool_rules, start_rules, entries_used}
use Rattle.rules.specs.declared.Range.{Range}
use Rattle.rules.specs.declared.Region.{Region}

-- THE RULES ONE BY ONE

-- a pool that is there
pub record PoolIs (rs : List Region) (n : ℕ) (p : Range) : Type 0 where
  pub multiple : start_of p % 4 ≡ 0
  pub region : in_one_region dump_right rs n p ≡ true

pub pool_out : (rs : List Region) (n : ℕ) (p : Range) → pool_rules rs n p ≡ true → p.words ≢ 0 → PoolIs rs n p
pool_out rs n p h some =
    let k : (aligned p && in_one_region dump_right rs n p) ≡ true = rw (ne_eqb p.words 0 some) at h in
    record {
      multiple = eqb-true _ _ (and_left (aligned p) (in_one_region dump_right rs n p) k);
      region = and_right (aligned p) (in_one_region dump_right rs n p) k;
    }

pub record StartIs (rs : List Region) (n : ℕ) (ps : List Range) (unit : ℕ) : Type 0 where
  pub table : table_rules rs n ≡ true
  pub pools : (i : ℕ) → i ≤ 1 → pool_rules rs n (pool_at ps i) ≡ true
  pub low : unit ≤ 15

module _ (rs : List Region) (n : ℕ) (ps : List Range) (unit : ℕ) where
  pub start_out : start_rules rs n ps unit ≡ true → StartIs rs n ps unit
  unfolding start_rules
  start_out h =
      let t = table_rules rs n in
      let a = pool_rules rs n (pool_at ps 0) in
      let b = pool_rules rs n (pool_at ps 1) in
      let u = leb unit 15 in
      let h2 = and_left (t && a && b) u h in
      let h1 = and_left (t && a) b h2 in
      record {
        table = and_left t a h1;
        pools = either_pool (and_right t a h1) (and_right (t && a) b h2);
        low = leb-true _ _ (and_right (t && a && b) u h);
      }
    where
      either_pool : pool_rules rs n (pool_at ps 0) ≡ true → pool_rules rs n (pool_at ps 1) ≡ true → (i : ℕ) → i ≤ 1 → pool_rules rs n (pool_at ps i) ≡ true
      either_pool h k zero l = h
      either_pool h k (suc zero) l = k
      either_pool h k (suc (suc i)) l = absurd (omega arith)

-- THE RULES READ ONLY THE ENTRIES IN USE

module _ (rs qs : List Region) (n : ℕ) (same : (i : ℕ) → i < n → region_at rs i ≡ region_at qs i) where
  same_range : (i : ℕ) → i < n → range_at rs i ≡ range_at qs i
  same_range i l = ap (λ (r : Region). r.range) (same i l)

  same_region : (i : ℕ) → i < n → region_rules rs i ≡ region_rules qs i
  same_region zero l = rw (same_range 0 l)
  same_region (suc i) l = rw (same_range (suc i) l, same_range i (omega arith))

  same_table : table_rules rs n ≡ table_rules qs n
  unfolding table_rules
  same_table = rw (all_same (region_rules rs) (region_rules qs) n same_region)

  same_holds : (right : Region → Bool) (a : Range) → in_one_region right rs n a ≡ in_one_region right qs n a
  unfolding in_one_region
  same_holds right a = any_same (holds right rs a) (holds right qs a) n (λ i l. rw (same_range i l, same i l))

  same_pool : (p : Range) → pool_rules rs n p ≡ pool_rules qs n p
  same_pool p = rw (same_holds dump_right p)

  pub same_rules : (ps : List Range) (unit : ℕ) → start_rules rs n ps unit ≡ start_rules qs n ps unit
  unfolding start_rules
  same_rules ps unit = rw (same_table, same_pool (pool_at ps 0), same_pool (pool_at ps 1))

-- an element of a list of equal elements, also past its end
pub replicate_at : {A : Type 0} (n i : ℕ) (a : A) → get_or (replicate n a) i a ≡ a
replicate_at zero i a = refl
replicate_at (suc n) zero a = refl
replicate_at (suc n) (suc i) a = replicate_at n i a

-- the entries in use are those of the table that start-up got
pub used_region : (rs : List Region) (n i : ℕ) → i < n → region_at (entries_used rs n) i ≡ region_at rs i
unfolding entries_used
used_region rs n i l =
    by_lt i (length rs)
    (λ k. let m : i < length (take n rs) = simp length-take (omega arith) in
    get_or-append (take n rs) unused no_region i m ∙ get_or-take n rs i no_region l)
    (λ k. let e : i ≡ length rs + (i - length rs) = omega arith in
    let past : get_or (rs ++ unused) i no_region ≡ no_region =
    ap (λ (x : ℕ). get_or (rs ++ unused) x no_region) e ∙ get_or-append-add rs unused (i - length rs) no_region ∙ replicate_at (16 - n) (i - length rs) no_region in
    rw (take_all n rs (omega arith)) (past ∙ sym (get_or-eq_default rs no_region k)))
  where
    unused : List Region
    unused = replicate (16 - n) no_region
