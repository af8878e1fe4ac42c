-- One turn of the walk: the figures so far, and the walk of the rest, make the walk of the pool.
-- Assumes nothing.
use mathlib.Core.Path.{◌≡◌, refl, ap}
use mathlib.Core.Logic.{◌≢◌}
use mathlib.Core.List.{List, [], ◌∷◌}
use Prim.Native.Nat.{ℕ, zero, suc, ◌+◌, ◌-◌, ◌≤◌, ◌<◌, max}
use native.Mathlib.Omega.{arith}
use Rattle.std.specs.Prelude.{Option, Some, None}
use lib.ListN.{length, drop, get_or, length-drop, drop_of_length-le}
use lib.Seq.{drop-cons, drop-drop}
use borrow.Author.Tests.{ne_eqb}
use Rattle.lists.proofs.Tests.{either}
use Rattle.rules.specs.Pools.{Block, block_of, Walk, damaged, whole, after, blocks_from, is_free, largest}
use Rattle.pool.specs.declared.Figures.{Figures}
use Rattle.pool.specs.declared.Tally.{Tally}
use Rattle.pool.specs.Answers.{figures_of, walked_of, tallied}

-- FIGURES

-- the figures of some blocks and of others
unfoldable pub together : Figures → Figures → Figures
together f g =
    record {
      free = f.free + g.free;
      freeblocks = f.freeblocks + g.freeblocks;
      usable = max f.usable g.usable;
      used = f.used + g.used;
      usedblocks = f.usedblocks + g.usedblocks;
    }

-- the figures with one more block
abbrev pub counted : Figures → Block → Figures
counted f b = together f (figures_of (b ∷ []))

pub same_figures : {f g : Figures}
    → (f.free ≡ g.free) × (f.freeblocks ≡ g.freeblocks) × (f.usable ≡ g.usable) × (f.used ≡ g.used) × (f.usedblocks ≡ g.usedblocks) → f ≡ g
same_figures e = λ i. record { free = e.0 i; freeblocks = e.1 i; usable = e.2 i; used = e.3 i; usedblocks = e.4 i }

pub same_tally : {t u : Tally} → (t.free ≡ u.free) × (t.freeblocks ≡ u.freeblocks) × (t.largest ≡ u.largest) × (t.blocks ≡ u.blocks) → t ≡ u
same_tally e = λ i. record { free = e.0 i; freeblocks = e.1 i; largest = e.2 i; blocks = e.3 i }

-- one is taken off the larger of two, or off each
each_less : (k l : ℕ) → max k l - 1 ≡ max (k - 1) (l - 1)
each_less k l = omega arith

larger_of_three : (k l m : ℕ) → max k (max l m) ≡ max (max k l) m
larger_of_three k l m = omega arith

-- one more block is counted first, or with the others
counted_first : (f : Figures) (b : Block) (bs : List Block) → together f (figures_of (b ∷ bs)) ≡ together (counted f b) (figures_of bs)
unfolding together
counted_first f b bs =
    let first = largest is_free (b ∷ []) in
    let rest = largest is_free bs in
    let e : largest is_free (b ∷ bs) ≡ max first rest = omega arith in
    let third : max f.usable (largest is_free (b ∷ bs) - 1) ≡ max (max f.usable (first - 1)) (rest - 1) =
    rw (e, each_less first rest) (larger_of_three f.usable (first - 1) (rest - 1)) in
    same_figures (omega arith, omega arith, third, omega arith, omega arith)

none_together : (f : Figures) → together (figures_of []) f ≡ f
unfolding together
none_together f = same_figures (omega arith)

together_none : (f : Figures) → together f (figures_of []) ≡ f
unfolding together
together_none f = same_figures (omega arith)

-- the figures that a tally tells once `at` words are passed: what is not free is used
abbrev pub told : Tally → ℕ → Figures
told t at = record { free = t.free; freeblocks = t.freeblocks; usable = t.largest - 1; used = at - t.free; usedblocks = t.blocks - t.freeblocks }

module _ (t : Tally) (b : Block) (at : ℕ) (words : t.free ≤ at) (blocks : t.freeblocks ≤ t.blocks) where
  pub told_next : told (tallied t b) (at + b.size) ≡ counted (told t at) b
  unfolding together tallied
  told_next = same_figures (either b.used (λ e. rw e (omega arith)) (λ e. rw e (omega arith)))

  pub tallied_words : (tallied t b).free ≤ at + b.size
  unfolding tallied
  tallied_words = either b.used (λ e. rw e (omega arith)) (λ e. rw e (omega arith))

  pub tallied_blocks : ((tallied t b).freeblocks ≤ (tallied t b).blocks) × ((tallied t b).blocks ≡ t.blocks + 1)
  unfolding tallied
  tallied_blocks = either b.used (λ e. rw e (omega arith)) (λ e. rw e (omega arith))

-- THE FIGURES SO FAR AND A WALK

abbrev pub joined : Figures → Walk → Option Figures
joined f damaged = None
joined f (whole bs) = Some (together f (figures_of bs))

-- nothing so far: the walk is left
pub joined_start : (x : Walk) → joined (figures_of []) x ≡ walked_of x
joined_start damaged = refl
joined_start (whole bs) = ap Some (none_together (figures_of bs))

joined_after : (f : Figures) (b : Block) (x : Walk) → joined f (after b x) ≡ joined (counted f b) x
joined_after f b damaged = refl
joined_after f b (whole bs) = ap Some (counted_first f b bs)

-- THE WORDS OF A BLOCK

-- the rest of a block is passed over
pass : (n : ℕ) (l : List ℕ) → n ≤ length l → blocks_from n l ≡ blocks_from 0 (drop n l)
unfolding blocks_from
pass zero l h = refl
pass (suc n) [] h = absurd (omega arith)
pass (suc n) (x ∷ l) h = pass n l (omega arith)

-- a block that runs past the end
past_end : (n : ℕ) (l : List ℕ) → length l < n → blocks_from n l ≡ damaged
unfolding blocks_from
past_end zero l h = absurd (omega arith)
past_end (suc n) [] h = refl
past_end (suc n) (x ∷ l) h = past_end n l (omega arith)

module _ (f : Figures) (l : List ℕ) (at : ℕ) where
  -- nothing is left: the figures are the walk's
  pub joined_end : length l ≤ at → joined f (blocks_from 0 (drop at l)) ≡ Some f
  unfolding blocks_from
  joined_end h = rw (drop_of_length-le l h) (ap Some (together_none f))

  module _ (here : at < length l) where
    abbrev first : Block
    first = block_of (get_or l at 0)

    -- the first word of a block of size 0
    pub joined_zero : first.size ≡ 0 → joined f (blocks_from 0 (drop at l)) ≡ None
    unfolding blocks_from
    joined_zero e = rw (drop-cons l at 0 here, e)

    module _ (some : first.size ≢ 0) where
      opened : blocks_from 0 (drop at l) ≡ after first (blocks_from (first.size - 1) (drop (suc at) l))
      unfolding blocks_from
      opened = rw (drop-cons l at 0 here, ne_eqb first.size 0 some)

      -- a block that does not fit
      pub joined_out : length l - at < first.size → joined f (blocks_from 0 (drop at l)) ≡ None
      joined_out h =
          let k : length (drop (suc at) l) < first.size - 1 = simp length-drop (omega arith) in
          rw (opened, past_end (first.size - 1) (drop (suc at) l) k)

      -- a block that fits
      pub joined_next : first.size ≤ length l - at → joined f (blocks_from 0 (drop at l)) ≡ joined (counted f first) (blocks_from 0 (drop (at + first.size) l))
      joined_next h =
          let n : ℕ = first.size - 1 in
          let k : n ≤ length (drop (suc at) l) = simp length-drop (omega arith) in
          let e : suc at + n ≡ at + first.size = omega arith in
          rw (opened, pass n (drop (suc at) l) k, drop-drop, e) (joined_after f first (blocks_from 0 (drop (at + first.size) l)))
