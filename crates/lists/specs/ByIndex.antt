-- What the definitions of this crate say, index by index. Each is fixed here by a statement in which no other of them stands.
use Rattle.std.specs.Prelude.{◌≡◌, ◌↔◌, Bool, true, false, List, ℕ, ◌+◌, ◌≤◌, ◌<◌, length, get_or}
use Rattle.lists.specs.Below.{all_below, any_below, sum_below, first_below}
use Rattle.lists.specs.Splice.{splice}

-- l with v in the place of the elements from index `at` on, where they are that many
pub record Spliced (l : List ℕ) (at : ℕ) (v m : List ℕ) : Type 0 where
  pub as_long : length m ≡ length l
  pub written : (k : ℕ) → k < length v → get_or m (at + k) 0 ≡ get_or v k 0
  pub below : (x : ℕ) → x < at → get_or m x 0 ≡ get_or l x 0
  pub above : (x : ℕ) → at + length v ≤ x → get_or m x 0 ≡ get_or l x 0

pub record ByIndex : Type 0 where
  pub all : (p : ℕ → Bool) (n : ℕ) → (all_below p n ≡ true) ↔ ((i : ℕ) → i < n → p i ≡ true)
  pub any : (p : ℕ → Bool) (n : ℕ) → (any_below p n ≡ true) ↔ ((i : ℕ) × (i < n) × (p i ≡ true))
  pub sum_none : (f : ℕ → ℕ) → sum_below f 0 ≡ 0
  pub sum_more : (f : ℕ → ℕ) (n : ℕ) → sum_below f (n + 1) ≡ sum_below f n + f n
  -- the least index of which p holds; n exactly if there is none below n
  pub first : (p : ℕ → Bool) (n i : ℕ) → i < n → (first_below p n ≡ i) ↔ ((p i ≡ true) × ((j : ℕ) → j < i → p j ≡ false))
  pub first_none : (p : ℕ → Bool) (n : ℕ) → (first_below p n ≡ n) ↔ ((i : ℕ) → i < n → p i ≡ false)
  pub spliced : (l : List ℕ) (at : ℕ) (v : List ℕ) → at + length v ≤ length l → Spliced l at v (splice l at v)
