-- Laws of the tests, sums and searches over the indices below a number.
-- Assumes nothing.
use mathlib.Core.Path.{◌≡◌, refl, sym, ap₂, ◌∙◌}
use mathlib.Core.Bool.{Bool, true, false, ◌&&◌, ◌||◌}
use mathlib.Core.Logic.{⊎_elim}
use Prim.Native.Nat.{ℕ, zero, suc, ◌+◌, ◌≤◌, ◌<◌}
use native.Mathlib.Nat.{eq-or-lt_of_le}
use native.Mathlib.Numerals.{add-one}
use native.Mathlib.Omega.{arith}
use lib.Dec.{ltb}
use borrow.Author.Tests.{lt-ltb, le-ltb}
use Rattle.lists.specs.Below.{all_below, any_below, sum_below, first_below}
use Rattle.lists.proofs.Tests.{either, contra, and_left, and_right, or_left, or_right}

-- the last index below suc m, or one below m
last_or : {A : Type 0} {i m : ℕ} → i < suc m → (i ≡ m → A) → (i < m → A) → A
last_or {A} {i} {m} l f g = ⊎_elim f g (eq-or-lt_of_le {n = i} {m = m} (omega arith))

-- a test of all says so of each, and the other way round; likewise a test of some that fails
pub all_at : (p : ℕ → Bool) (n : ℕ) {i : ℕ} → all_below p n ≡ true → i < n → p i ≡ true
all_at p zero h l = absurd (omega arith)
all_at p (suc m) h l = last_or l (λ e. rw e (and_right (all_below p m) (p m) h)) (λ k. all_at p m (and_left (all_below p m) (p m) h) k)

pub all_of : (p : ℕ → Bool) (n : ℕ) → ((i : ℕ) → i < n → p i ≡ true) → all_below p n ≡ true
all_of p zero f = refl
all_of p (suc m) f = rw (all_of p m (λ i l. f i (omega arith)), f m (omega arith))

pub none_at : (p : ℕ → Bool) (n : ℕ) {i : ℕ} → any_below p n ≡ false → i < n → p i ≡ false
none_at p zero h l = absurd (omega arith)
none_at p (suc m) h l = last_or l (λ e. rw e (or_right (any_below p m) (p m) h)) (λ k. none_at p m (or_left (any_below p m) (p m) h) k)

pub none_of : (p : ℕ → Bool) (n : ℕ) → ((i : ℕ) → i < n → p i ≡ false) → any_below p n ≡ false
none_of p zero f = refl
none_of p (suc m) f = rw (none_of p m (λ i l. f i (omega arith)), f m (omega arith))

-- one that passes makes a test of some pass
pub any_of : (p : ℕ → Bool) (n : ℕ) {i : ℕ} → i < n → p i ≡ true → any_below p n ≡ true
any_of p n l h = either (any_below p n) (λ e. e) (λ e. absurd (contra h (none_at p n e l)))

-- THE LEAST INDEX

-- with an index that passes the search ends below n, at one that passes
pub first_found : (p : ℕ → Bool) (n : ℕ) → any_below p n ≡ true → (first_below p n < n) × (p (first_below p n) ≡ true)
first_found p zero h = absurd (contra h refl)
first_found p (suc m) h =
    either (any_below p m)
    (λ e. let r = first_found p m e in rw e (omega arith, r.1))
    (λ e. let q : p m ≡ true = rw e at h in rw (e, q) (omega arith, q))

-- and none before it passes
pub first_before : (p : ℕ → Bool) (n : ℕ) {j : ℕ} → j < first_below p n → p j ≡ false
first_before p zero l = absurd (omega arith)
first_before p (suc m) {j} l =
    either (any_below p m)
    (λ e. first_before p m (rw e at l))
    (λ e. either (p m)
    (λ q. none_at p m e (rw (e, q) at l))
    (λ q. none_at p (suc m) (rw (e, q)) (rw (e, q) at l)))

-- so there is some index that passes
pub any_at : (p : ℕ → Bool) (n : ℕ) → any_below p n ≡ true → (i : ℕ) × (i < n) × (p i ≡ true)
any_at p n h = let r = first_found p n h in (first_below p n, r.0, r.1)

pub first_is : (p : ℕ → Bool) (n : ℕ) {i : ℕ} → i < n → p i ≡ true → ((j : ℕ) → j < i → p j ≡ false) → first_below p n ≡ i
first_is p n {i} l h f =
    let r = first_found p n (any_of p n l h) in
    ⊎_elim
    (λ (e : first_below p n ≡ i). e)
    (λ (k : first_below p n < i). absurd (contra r.1 (f (first_below p n) k)))
    (eq-or-lt_of_le (not_after r))
  where
    not_after : (first_below p n < n) × (p (first_below p n) ≡ true) → first_below p n ≤ i
    not_after r = either (any_below p n) (λ e. le_of_not_lt (λ (k : i < first_below p n). contra h (first_before p n k))) (λ e. absurd (contra h (none_at p n e l)))
      where
        le_of_not_lt : ((i < first_below p n) → ⊥) → first_below p n ≤ i
        le_of_not_lt g = omega arith

-- none passes: the search ends at n
pub first_none : (p : ℕ → Bool) (n : ℕ) → any_below p n ≡ false → first_below p n ≡ n
first_none p zero h = refl
first_none p (suc m) h = rw (or_left (any_below p m) (p m) h, or_right (any_below p m) (p m) h)

-- so where the search ends says whether one passes
pub any_first : (p : ℕ → Bool) (n : ℕ) → any_below p n ≡ ltb (first_below p n) n
any_first p n =
    either (any_below p n)
    (λ e. e ∙ sym (lt-ltb (first_below p n) n (first_found p n e).0))
    (λ e. let q : n ≤ first_below p n = rw (first_none p n e) (omega arith) in e ∙ sym (le-ltb (first_below p n) n q))

-- ONE MORE TURN of a loop that counts up

pub all_more : (p : ℕ → Bool) (i : ℕ) → all_below p (i + 1) ≡ (all_below p i && p i)
all_more p i = rw add-one

pub none_more : (p : ℕ → Bool) (i : ℕ) → any_below p i ≡ false → p i ≡ false → any_below p (i + 1) ≡ false
none_more p i h k = rw (add-one, h, k)

pub sum_more : (f : ℕ → ℕ) (i : ℕ) → sum_below f (i + 1) ≡ sum_below f i + f i
sum_more f i = rw add-one

-- THEY READ ONLY BELOW n

pub all_same : (p q : ℕ → Bool) (n : ℕ) → ((i : ℕ) → i < n → p i ≡ q i) → all_below p n ≡ all_below q n
all_same p q zero f = refl
all_same p q (suc m) f = ap₂ (λ (x y : Bool). x && y) (all_same p q m (λ i l. f i (omega arith))) (f m (omega arith))

pub any_same : (p q : ℕ → Bool) (n : ℕ) → ((i : ℕ) → i < n → p i ≡ q i) → any_below p n ≡ any_below q n
any_same p q zero f = refl
any_same p q (suc m) f = ap₂ (λ (x y : Bool). x || y) (any_same p q m (λ i l. f i (omega arith))) (f m (omega arith))

pub first_same : (p q : ℕ → Bool) (n : ℕ) → ((i : ℕ) → i < n → p i ≡ q i) → first_below p n ≡ first_below q n
first_same p q zero f = refl
first_same p q (suc m) f =
    rw (any_same p q m (λ i l. f i (omega arith)), first_same p q m (λ i l. f i (omega arith)), f m (omega arith))

-- SUMS

-- a term fits in a sum beside those before it
pub sum_part : (f : ℕ → ℕ) (n : ℕ) {k : ℕ} → k < n → sum_below f k + f k ≤ sum_below f n
sum_part f zero l = absurd (omega arith)
sum_part f (suc m) {k} l = last_or l (λ e. rw e (omega arith)) (λ q. let h = sum_part f m q in omega arith)

-- terms of 0 from k on add nothing
pub sum_past : (f : ℕ → ℕ) (k n : ℕ) → k ≤ n → ((i : ℕ) → k ≤ i → f i ≡ 0) → sum_below f n ≡ sum_below f k
sum_past f k zero l z = let e : k ≡ 0 = omega arith in rw e
sum_past f k (suc m) l z =
    ⊎_elim
    (λ (e : k ≡ suc m). rw e)
    (λ (q : k < suc m). let r = sum_past f k m (omega arith) z in let s = z m (omega arith) in omega arith)
    (eq-or-lt_of_le l)
