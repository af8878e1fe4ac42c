-- The bounds of a block's words, from the tests.
-- Assumes nothing.
use mathlib.Core.Path.{◌≡◌}
use mathlib.Core.Logic.{◌≢◌}
use mathlib.Core.Bool.{Bool, true, false, ◌&&◌}
use mathlib.Core.List.{List}
use Prim.Native.Nat.{ℕ, zero, suc, ◌+◌, ◌*◌, ◌≤◌, ◌<◌}
use native.Mathlib.Omega.{arith}
use lib.Dec.{leb, eqb}
use lib.ListN.{length}
use borrow.Author.Tests.{leb-true, eqb-true, ne_eqb}
use Rattle.lists.proofs.Tests.{and_left, and_right}
use Rattle.block.specs.Blocks.{word, regions_bounds, place_bounds, places_bounds, counts_bounds, is_block}

-- four tests that all pass
pub record Four (a b c d : Bool) : Type 0 where
  pub first : a ≡ true
  pub second : b ≡ true
  pub third : c ≡ true
  pub fourth : d ≡ true

pub four_out : (a b c d : Bool) → (a && b && c && d) ≡ true → Four a b c d
four_out a b c d h =
    let abc = and_left (a && b && c) d h in
    let ab = and_left (a && b) c abc in
    record { first = and_left a b ab; second = and_right a b ab; third = and_right (a && b) c abc; fourth = and_right (a && b && c) d h }

pub places_out : (b : List ℕ) → places_bounds b ≡ true → (i : ℕ) → i < 4 → place_bounds b (54 + 5 * i) ≡ true
places_out b h = at_place (four_out (place_bounds b 54) (place_bounds b 59) (place_bounds b 64) (place_bounds b 69) h)
  where
    at_place : Four (place_bounds b 54) (place_bounds b 59) (place_bounds b 64) (place_bounds b 69) → (i : ℕ) → i < 4 → place_bounds b (54 + 5 * i) ≡ true
    at_place f zero l = f.first
    at_place f (suc zero) l = f.second
    at_place f (suc (suc zero)) l = f.third
    at_place f (suc (suc (suc zero))) l = f.fourth
    at_place f (suc (suc (suc (suc i)))) l = absurd (omega arith)

pub record CountsBounds (b : List ℕ) : Type 0 where
  pub last : word b 74 ≤ 255
  pub replies : word b 75 ≤ 65535
  pub packets : word b 76 ≤ 65535
  pub accepted : word b 77 ≤ 65535
  pub refused : word b 78 ≤ 65535
  pub values : word b 79 ≤ 65535

pub counts_out : (b : List ℕ) → counts_bounds b ≡ true → CountsBounds b
counts_out b h =
    let p = leb (word b 74) 255 in
    let q = leb (word b 75) 65535 in
    let r = leb (word b 76) 65535 in
    let s = leb (word b 77) 65535 in
    let t = leb (word b 78) 65535 in
    let v = leb (word b 79) 65535 in
    let five = and_left (p && q && r && s && t) v h in
    let f = four_out p q r s (and_left (p && q && r && s) t five) in
    record {
      last = leb-true (word b 74) 255 f.first;
      replies = leb-true (word b 75) 65535 f.second;
      packets = leb-true (word b 76) 65535 f.third;
      accepted = leb-true (word b 77) 65535 f.fourth;
      refused = leb-true (word b 78) 65535 (and_right (p && q && r && s) t five);
      values = leb-true (word b 79) 65535 (and_right (p && q && r && s && t) v h);
    }

pub record BlockBounds (b : List ℕ) : Type 0 where
  pub words : length b ≡ 80
  pub regions : regions_bounds b 1 (word b 0) ≡ true
  pub unit : word b 53 ≤ 255
  pub places : places_bounds b ≡ true
  pub counts : CountsBounds b

pub block_out : (b : List ℕ) → is_block b ≡ true → BlockBounds b
unfolding is_block
block_out b h =
    let n = eqb (length b) 80 in
    let u = leb (word b 53) 255 in
    let rest = regions_bounds b 1 (word b 0) && u && places_bounds b && counts_bounds b in
    let f = four_out (regions_bounds b 1 (word b 0)) u (places_bounds b) (counts_bounds b) (and_right n rest h) in
    record {
      words = eqb-true (length b) 80 (and_left n rest h);
      regions = f.first;
      unit = leb-true (word b 53) 255 f.second;
      places = f.third;
      counts = counts_out b f.fourth;
    }

-- A BLOCK OF ANOTHER LENGTH

pub not_block : (b : List ℕ) → length b ≢ 80 → is_block b ≡ false
unfolding is_block
not_block b n = rw (ne_eqb (length b) 80 n)
