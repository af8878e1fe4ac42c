-- The region table: what it says of a range that lies whole in one region, and where that range is in the image.
-- Assumes nothing.
use mathlib.Core.Path.{◌≡◌, refl, ap}
use mathlib.Core.Bool.{Bool, true, ◌&&◌}
use mathlib.Core.List.{List}
use Prim.Native.Nat.{ℕ, zero, suc, ◌+◌, ◌%◌, ◌<◌, ◌≤◌}
use native.Mathlib.Omega.{arith}
use lib.Dec.{leb}
use lib.ListN.{length, length-take, length-drop}
use borrow.Author.Tests.{leb-true, le-leb, eqb-true}
use Rattle.lists.specs.Below.{all_below}
use Rattle.lists.proofs.Tests.{and_left, and_right, and_both, by_order}
use Rattle.lists.proofs.Below.{all_at, any_of, any_at, first_found, sum_part}
use Rattle.rules.specs.Regions.{start_of, end_of, aligned, within, region_at, range_at, end_before, region_rules, table_rules, any_right, holds, in_one_region, first_of, starts_inside, words_below, image_length, region_of, index_in, image_index, words_of}
use Rattle.rules.specs.GoodWhen.{LiesIn, StartsIn}
use Rattle.rules.specs.declared.Range.{Range}
use Rattle.rules.specs.declared.Region.{Region}

-- A RANGE IN A REGION

module _ (right : Region → Bool) (rs : List Region) (n : ℕ) (a : Range) where
  pub holds_out : (i : ℕ) → i < n → holds right rs a i ≡ true → LiesIn right rs n a i
  holds_out i l h =
      let w = and_left (within a (range_at rs i)) (right (region_at rs i)) h in
      record {
        in_use = l;
        from = leb-true _ _ (and_left (leb (start_of (range_at rs i)) (start_of a)) (leb (end_of a) (end_of (range_at rs i))) w);
        to = leb-true _ _ (and_right (leb (start_of (range_at rs i)) (start_of a)) (leb (end_of a) (end_of (range_at rs i))) w);
        allowed = and_right (within a (range_at rs i)) (right (region_at rs i)) h;
      }

  pub holds_in : (i : ℕ) → LiesIn right rs n a i → holds right rs a i ≡ true
  holds_in i h =
      and_both
      (and_both (le-leb (start_of (range_at rs i)) (start_of a) h.from) (le-leb (end_of a) (end_of (range_at rs i)) h.to))
      h.allowed

  pub one_out : in_one_region right rs n a ≡ true → (i : ℕ) × LiesIn right rs n a i
  unfolding in_one_region
  one_out h = let r = any_at (holds right rs a) n h in (r.0, holds_out r.0 r.1 r.2)

  pub one_in : (i : ℕ) → LiesIn right rs n a i → in_one_region right rs n a ≡ true
  unfolding in_one_region
  one_in i h = any_of (holds right rs a) n h.in_use (holds_in i h)

  pub holds_any : (i : ℕ) → LiesIn right rs n a i → LiesIn any_right rs n a i
  holds_any i h = record { in_use = h.in_use; from = h.from; to = h.to; allowed = refl }

-- a range in a region with some right lies in a region
pub one_any : (right : Region → Bool) (rs : List Region) (n : ℕ) (a : Range) → in_one_region right rs n a ≡ true → in_one_region any_right rs n a ≡ true
one_any right rs n a h = let r = one_out right rs n a h in one_in any_right rs n a r.0 (holds_any right rs n a r.0 r.1)

-- THE FIRST WORD OF A RANGE

module _ (rs : List Region) (n : ℕ) (a : Range) where
  pub starts_out : (i : ℕ) → LiesIn any_right rs n (first_of a) i → StartsIn rs n a i
  starts_out i h = record { in_use = h.in_use; from = h.from; word = h.to }

  pub starts_in : (i : ℕ) → StartsIn rs n a i → LiesIn any_right rs n (first_of a) i
  starts_in i h = record { in_use = h.in_use; from = h.from; to = h.word; allowed = refl }

  -- a range of a word or more starts in the region that holds it whole
  pub starts_there : 1 ≤ a.words → (i : ℕ) → LiesIn any_right rs n a i → StartsIn rs n a i
  starts_there one i h = let t = h.to in record { in_use = h.in_use; from = h.from; word = omega arith }

  pub starts_whole : 1 ≤ a.words → in_one_region any_right rs n a ≡ true → starts_inside rs n a ≡ true
  starts_whole one h = let r = one_out any_right rs n a h in one_in any_right rs n (first_of a) r.0 (starts_in r.0 (starts_there one r.0 r.1))

-- THE IMAGE

module _ (rs : List Region) (n : ℕ) (a : Range) where
  -- a range in region i lies whole in the image
  pub index_fits : (i : ℕ) → LiesIn any_right rs n a i → index_in rs a i + a.words ≤ image_length rs n
  unfolding words_below
  index_fits i h = let s = sum_part (λ (k : ℕ). (range_at rs k).words) n h.in_use in omega arith

  -- the region of a range that lies whole in one
  pub region_holds : in_one_region any_right rs n a ≡ true → LiesIn any_right rs n a (region_of rs n a)
  unfolding in_one_region region_of
  region_holds h = let r = first_found (holds any_right rs a) n h in holds_out any_right rs n a _ r.0 r.1

  pub image_fits : in_one_region any_right rs n a ≡ true → (image_index rs n a).0 + a.words ≤ image_length rs n
  unfolding image_index
  image_fits h = index_fits (region_of rs n a) (region_holds h)

  -- as many words as the range has
  pub words_length : (image : List ℕ) → in_one_region any_right rs n a ≡ true → length image ≡ image_length rs n
      → length (words_of rs n a image) ≡ a.words
  unfolding words_of
  words_length image h e = let f = image_fits h in simp (length-take, length-drop) (omega arith)

-- A TABLE BY THE RULES

pub record RegionIs (rs : List Region) (i : ℕ) : Type 0 where
  pub multiple : start_of (range_at rs i) % 4 ≡ 0
  pub some : 1 ≤ (range_at rs i).words
  pub most : (range_at rs i).words ≤ 1048576
  pub low : end_of (range_at rs i) ≤ 4294967296
  pub after : end_before rs i ≤ start_of (range_at rs i)

module _ (rs : List Region) (n : ℕ) (rules : table_rules rs n ≡ true) where
  pub table_count : (1 ≤ n) × (n ≤ 16)
  unfolding table_rules
  table_count =
      let h = and_left (leb 1 n && leb n 16) (all_below (region_rules rs) n) rules in
      (leb-true _ _ (and_left (leb 1 n) (leb n 16) h), leb-true _ _ (and_right (leb 1 n) (leb n 16) h))

  pub table_region : (i : ℕ) → i < n → RegionIs rs i
  unfolding table_rules
  table_region i l =
      let r = range_at rs i in
      let h = all_at (region_rules rs) n (and_right (leb 1 n && leb n 16) (all_below (region_rules rs) n) rules) l in
      let m = aligned r in
      let a = leb 1 r.words in
      let b = leb r.words 1048576 in
      let c = leb (end_of r) 4294967296 in
      let d = leb (end_before rs i) (start_of r) in
      let h3 = and_left (m && a && b && c) d h in
      let h2 = and_left (m && a && b) c h3 in
      let h1 = and_left (m && a) b h2 in
      record {
        multiple = eqb-true _ _ (and_left m a h1);
        some = leb-true _ _ (and_right m a h1);
        most = leb-true _ _ (and_right (m && a) b h2);
        low = leb-true _ _ (and_right (m && a && b) c h3);
        after = leb-true _ _ (and_right (m && a && b && c) d h);
      }

  -- regions follow each other
  pub ordered : (j : ℕ) → j < n → (i : ℕ) → i < j → end_of (range_at rs i) ≤ start_of (range_at rs j)
  ordered zero l i k = absurd (omega arith)
  ordered (suc m) l i k =
      let r = table_region (suc m) l in
      by_order i m
      (λ q. let o = ordered m (omega arith) i q in omega arith)
      (λ q. absurd (omega arith))
      (λ (e : i ≡ m). rw e r.after)

  -- a range of at least one word lies in one region at most
  pub holds_unique : (a : Range) (i j : ℕ) → 1 ≤ a.words → LiesIn any_right rs n a i → LiesIn any_right rs n a j → i ≡ j
  holds_unique a i j one hi hj =
      by_order i j
      (λ q. let o = ordered j hj.in_use i q in absurd (omega arith))
      (λ q. let o = ordered i hi.in_use j q in absurd (omega arith))
      (λ e. e)

  -- so it begins in the image where the words of its region say
  -- no other region than the one it starts in holds a range
  pub held_there : (a : Range) (i j : ℕ) → 1 ≤ a.words → StartsIn rs n a i → LiesIn any_right rs n a j → i ≡ j
  held_there a i j one h l =
      holds_unique (first_of a) i j (omega arith) (starts_in rs n a i h) (starts_in rs n a j (starts_there rs n a one j l))

  pub image_index_lem : (a : Range) (i : ℕ) → 1 ≤ a.words → LiesIn any_right rs n a i → (image_index rs n a).0 ≡ index_in rs a i
  unfolding image_index
  image_index_lem a i one h =
      let k : region_of rs n a ≡ i = holds_unique a (region_of rs n a) i one (region_holds rs n a (one_in any_right rs n a i h)) h in
      ap (index_in rs a) k

  -- the end of a range in a region is at most 2^32
  pub range_low : (a : Range) (i : ℕ) → LiesIn any_right rs n a i → end_of a ≤ 4294967296
  range_low a i h = let r = table_region i h.in_use in omega arith
