-- The search by halving: in a table by the rules it finds the region of paper 01; it compares at most five regions, and they settle its answer.
-- Assumes nothing.
use mathlib.Core.Path.{◌≡◌, refl, sym, ap, ◌∙◌}
use mathlib.Core.Bool.{Bool, true, false, ◌&&◌, cond}
use mathlib.Core.List.{List}
use Prim.Native.Nat.{ℕ, zero, suc, ◌+◌, ◌*◌, ◌-◌, ◌/◌, ◌≤◌, ◌<◌}
use native.Mathlib.Omega.{arith}
use lib.Dec.{leb, ltb}
use lib.ListN.{length, get_or}
use borrow.Author.Tests.{ltb-true, ltb-false, le-leb, lt-leb, lt-ltb, le-ltb}
use Rattle.lists.proofs.Tests.{either, contra, by_lt, by_order}
use Rattle.lists.proofs.Below.{first_is, first_none, first_found, none_of}
use Rattle.rules.specs.Regions.{end_of, within, region_at, range_at, table_rules, any_right, holds, in_one_region, first_of, region_of}
use Rattle.rules.specs.GoodWhen.{LiesIn}
use Rattle.rules.proofs.Table.{table_count, ordered, holds_in, holds_out}
use Rattle.rules.specs.declared.Range.{Range}
use Rattle.rules.specs.declared.Region.{Region}
use Rattle.regions.specs.Halving.{middle, next_first, one_left, comparisons, is_short, candidate, region_by_halving, compared, AtMostFive, NumberSettled, find_by_halving, RightInOrder}
use Rattle.regions.specs.Lookup.{found_number, found_in, find_region}

-- ONE ROUND

module _ (short : ℕ → Bool) (first left : ℕ) where
  pub left_end : (k : ℕ) → left ≤ 1 → one_left short k first left ≡ first
  unfolding one_left
  left_end zero l = refl
  left_end (suc k) l = rw (le-leb left 1 l)

  pub left_round : (k : ℕ) → 1 < left → one_left short (suc k) first left ≡ one_left short k (next_first short first left) (left - left / 2)
  unfolding one_left
  left_round k l = rw (lt-leb left 1 l)

  pub compared_end : (k : ℕ) → left ≤ 1 → length (comparisons short k first left) ≡ 1
  unfolding comparisons
  compared_end zero l = refl
  compared_end (suc k) l = rw (le-leb left 1 l)

  pub compared_round : (k : ℕ) → 1 < left
      → length (comparisons short (suc k) first left) ≡ suc (length (comparisons short k (next_first short first left) (left - left / 2)))
  unfolding comparisons
  compared_round k l = rw (lt-leb left 1 l)

-- IN ORDER

-- how many regions so many rounds narrow down to one
abbrev pub reach : ℕ → ℕ
reach zero = 1
reach (suc k) = 2 * reach k

-- all below it are short, and it is not short itself unless it is the last
record Narrowed (short : ℕ → Bool) (n r : ℕ) : Type 0 where
  in_use : r < n
  before : (i : ℕ) → i < r → short i ≡ true
  itself : (j : ℕ) → r < j → j < n → short r ≡ false

-- where all before a short one are short, halving finds the first that is not
module _ (short : ℕ → Bool) (n : ℕ) (down : (i j : ℕ) → i ≤ j → j < n → short j ≡ true → short i ≡ true) where
  stopped : (first left : ℕ) → left ≡ 1 → first + left ≤ n → ((i : ℕ) → i < first → short i ≡ true)
      → ((j : ℕ) → first + left ≤ j → j < n → short (first + left - 1) ≡ false) → Narrowed short n first
  stopped first left e fits before past =
      record {
        in_use = omega arith;
        before = before;
        itself = λ j r q. let z : first + left - 1 ≡ first = omega arith in rw z at (past j (omega arith) q);
      }

  narrowed : (k first left : ℕ) → 1 ≤ left → left ≤ reach k → first + left ≤ n → ((i : ℕ) → i < first → short i ≡ true)
      → ((j : ℕ) → first + left ≤ j → j < n → short (first + left - 1) ≡ false) → Narrowed short n (one_left short k first left)
  narrowed zero first left some most fits before past =
      let e : left ≤ 1 = most in rw (left_end short first left zero e) (stopped first left (omega arith) fits before past)
  narrowed (suc k) first left some most fits before past =
      by_lt 1 left
      (λ l.
      rw (left_round short first left k l)
      (either (short (middle first left))
      (λ e.
      let z : first + left / 2 + (left - left / 2) ≡ first + left = omega arith in
      rw e
      (narrowed k (first + left / 2) (left - left / 2) (omega arith) (omega arith) (omega arith)
      (λ i q. down i (middle first left) (omega arith) (omega arith) e)
      (λ j q r. rw z (past j (omega arith) r))))
      (λ e.
      rw e
      (narrowed k first (left - left / 2) (omega arith) (omega arith) (omega arith) before
      (λ j q r.
      either (short (first + (left - left / 2) - 1))
      (λ t. absurd (contra (down (middle first left) (first + (left - left / 2) - 1) (omega arith) (omega arith) t) e))
      (λ t. t))))))
      (λ l. rw (left_end short first left (suc k) l) (stopped first left (omega arith) fits before past))

module _ (rs : List Region) (n : ℕ) (rules : table_rules rs n ≡ true) (a : Range) where
  short_down : (i j : ℕ) → i ≤ j → j < n → is_short rs a j ≡ true → is_short rs a i ≡ true
  short_down i j l q h =
      by_order i j
      (λ k. let o = ordered rs n rules j q i k in let s = ltb-true (end_of (range_at rs j)) (end_of a) h in lt-ltb (end_of (range_at rs i)) (end_of a) (omega arith))
      (λ k. absurd (omega arith))
      (λ (e : i ≡ j). rw e h)

  left_narrowed : Narrowed (is_short rs a) n (candidate rs n a)
  unfolding candidate
  left_narrowed =
      let c = table_count rs n rules in
      narrowed (is_short rs a) n short_down _ 0 n c.0 c.1 (omega arith) (λ i l. absurd (omega arith)) (λ j l q. absurd (omega arith))

  not_held : (i : ℕ) → i < n → (LiesIn any_right rs n a i → ⊥) → holds any_right rs a i ≡ false
  not_held i l f = either (holds any_right rs a i) (λ h. absurd (f (holds_out any_right rs n a i l h))) (λ h. h)

  -- THE LAW: in a table by the rules the search by halving finds the region that holds the range whole, or that none does
  in_order_lem : region_by_halving rs n a ≡ region_of rs n a
  unfolding region_by_halving region_of
  in_order_lem =
      let r = candidate rs n a in
      let d = left_narrowed in
      let before : (i : ℕ) → i < r → holds any_right rs a i ≡ false =
      λ i l. not_held i (omega (arith, d.in_use)) (λ (h : LiesIn any_right rs n a i). let s = ltb-true (end_of (range_at rs i)) (end_of a) (d.before i l) in let t = h.to in absurd (omega arith))
      in
      either (holds any_right rs a r)
      (λ h. rw h (sym (first_is (holds any_right rs a) n d.in_use h before)))
      (λ h. rw h (sym (first_none (holds any_right rs a) n (none_of (holds any_right rs a) n (λ i l. by_order i r (before i)
      (λ q. not_held i l (λ (o : LiesIn any_right rs n a i). past i l q h (ltb-false (end_of (range_at rs r)) (end_of a) (d.itself i q l)) o)) (λ (e : i ≡ r). rw e h))))))
    where
      past : (i : ℕ) → i < n → candidate rs n a < i → holds any_right rs a (candidate rs n a) ≡ false
          → end_of a ≤ end_of (range_at rs (candidate rs n a)) → LiesIn any_right rs n a i → ⊥
      past i l q h t o =
          let r = candidate rs n a in
          let e = ordered rs n rules i l r q in
          let f = o.from in
          contra (holds_in any_right rs n a r (record { in_use = omega arith; from = omega arith; to = t; allowed = refl })) h

pub found_right : (rs : List Region) (n : ℕ) → table_rules rs n ≡ true → (a : Range) → find_by_halving rs n a ≡ find_region rs n a
unfolding find_by_halving find_region in_one_region region_of
found_right rs n rules a =
    let first : Range = first_of a in
    rw (in_order_lem rs n rules first)
    (either (in_one_region any_right rs n first)
    (λ h. let r = first_found (holds any_right rs first) n h in rw (h, lt-ltb (region_of rs n first) n r.0))
    (λ h. rw (h, first_none (holds any_right rs first) n h, le-ltb n n (omega arith))))

pub right_in_order : RightInOrder
right_in_order rs n a rules = (in_order_lem rs n rules a, found_right rs n rules a)

-- AT MOST FIVE

-- the two tests agree on the regions of a list
abbrev Agree : (ℕ → Bool) → (ℕ → Bool) → List ℕ → Type 0
Agree p q at = (j : ℕ) → j < length at → p (get_or at j 0) ≡ q (get_or at j 0)

module _ (short : ℕ → Bool) where
  pub few : (k first left : ℕ) → length (comparisons short k first left) ≤ k + 1
  unfolding comparisons
  few zero first left = omega arith
  few (suc k) first left =
      either (leb left 1)
      (λ l. rw l (omega arith))
      (λ l. let i = few k (next_first short first left) (left - left / 2) in rw l (omega arith))

  -- the region that is left is compared
  last_one : (k first left : ℕ)
      → (j : ℕ) × (j < length (comparisons short k first left)) × (get_or (comparisons short k first left) j 0 ≡ one_left short k first left)
  unfolding comparisons one_left
  last_one zero first left = (0, omega arith, refl)
  last_one (suc k) first left =
      either (leb left 1)
      (λ l. rw l (0, omega arith, refl))
      (λ l. let i = last_one k (next_first short first left) (left - left / 2) in rw l (suc i.0, omega (arith, i.1), i.2))

  -- another test that agrees on those leaves the same
  alike : (other : ℕ → Bool) (k first left : ℕ) → Agree other short (comparisons short k first left) → one_left other k first left ≡ one_left short k first left
  unfolding comparisons one_left
  alike other zero first left h = refl
  alike other (suc k) first left h =
      either (leb left 1)
      (λ l. rw l)
      (λ l.
      let g = rw l at h in
      let m : other (middle first left) ≡ short (middle first left) = g 0 (omega arith) in
      let i = alike other k (next_first short first left) (left - left / 2) (λ j q. g (suc j) (omega (arith, q))) in
      rw (l, m) i)

pub at_most_five : (rs : List Region) (n : ℕ) (a : Range) → AtMostFive rs n a
unfolding compared region_by_halving candidate
at_most_five rs n a =
    record {
      five = few (is_short rs a) _ 0 n;
      settle =
          λ other h.
          let same = alike (is_short rs a) (is_short other a) 4 0 n (λ j l. ap (λ (r : Region). ltb (end_of r.range) (end_of a)) (h j l)) in
          let at = last_one (is_short rs a) 4 0 n in
          let region = rw at.2 at (h at.0 at.1) in
          ap (λ k. cond (holds any_right other a k) k n) same ∙ ap (λ (r : Region). cond (within a r.range && true) (candidate rs n a) n) region;
    }

-- the number of what is found looks at no other region than the one that holds the first word
number_in : (rs : List Region) (a : Range) (k : ℕ) → found_number (found_in rs a k) ≡ cond (leb (end_of a) (end_of (range_at rs k))) 0 19
number_in rs a k = either (leb (end_of a) (end_of (range_at rs k))) (λ e. rw e) (λ e. rw e)

-- and that is the one that was left, which was compared
pub number_settled : (rs : List Region) (n : ℕ) (a : Range) → NumberSettled rs n a
unfolding compared find_by_halving region_by_halving candidate
number_settled rs n a =
    record {
      five = (at_most_five rs n (first_of a)).five;
      settle =
          λ other h.
          let first : Range = first_of a in
          let left : ℕ = candidate rs n first in
          let at = last_one (is_short rs first) 4 0 n in
          let region : region_at other left ≡ region_at rs left = rw at.2 at (h at.0 at.1) in
          let end : leb (end_of a) (end_of (range_at other left)) ≡ leb (end_of a) (end_of (range_at rs left)) =
          ap (λ (r : Region). leb (end_of a) (end_of r.range)) region in
          rw ((at_most_five rs n first).settle other h)
          (either (holds any_right rs first left)
          (λ e. rw e (either (ltb left n) (λ l. rw (l, number_in other a left, number_in rs a left, end)) (λ l. rw l)))
          (λ e. rw (e, le-ltb n n (omega arith))));
    }
