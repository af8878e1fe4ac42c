-- The walk over a pool finds exactly the blocks that the pool's words are, and their sizes add up to the pool's.
-- Assumes nothing.
use mathlib.Core.Path.{◌≡◌, refl, sym, ap, ◌∙◌}
use mathlib.Core.Logic.{◌≢◌, ◌↔◌}
use mathlib.Core.Bool.{Bool, true, false, cond}
use mathlib.Core.List.{List, [], ◌∷◌, ◌++◌, map}
use Prim.Native.Nat.{ℕ, zero, suc, ◌+◌, ◌-◌, max, ◌≤◌, ◌<◌}
use native.Mathlib.Omega.{arith}
use native.Mathlib.Nat.{pos_of_ne-zero}
use lib.Dec.{leb, eqb}
use lib.ListN.{length, take, drop, get_or, length-append, length-drop, take-append-drop}
use lib.Seq.{length-take-le, get_or-drop, get_or-append-add}
use borrow.Author.Tests.{eqb-false, ne_eqb, lt-leb, le-leb}
use Rattle.lists.proofs.Tests.{either, by_lt}
use Rattle.lists.specs.Splice.{splice}
use Rattle.wire.specs.ByByte.{two, four}
use Rattle.wire.proofs.Numbers.{be_back}
use Rattle.wire.proofs.ByByte.{in_four}
use Rattle.rules.specs.Pools.{Block, block_of, Walk, damaged, whole, after, blocks_from, blocks_of, words, blocks, largest, usable, is_free, is_used, reply_bytes, Tiles, end, next}
use Rattle.rules.specs.Demand2.{picked, size_sum, block_at, size_at, BlocksAre, free_blocks, without_first, FiguresAre, TelemetryHeader, BlockBits}

-- the rest of a block is passed over
pass : (rest ws : List ℕ) → blocks_from (length rest) (rest ++ ws) ≡ blocks_from 0 ws
unfolding blocks_from
pass [] ws = refl
pass (x ∷ rest) ws = pass rest ws

-- a block's first word, where the size is not 0
first : (w k : ℕ) (ws : List ℕ) → (block_of w).size ≡ suc k → blocks_from 0 (w ∷ ws) ≡ after (block_of w) (blocks_from k ws)
unfolding blocks_from
first w k ws e =
    let n : eqb (block_of w).size 0 ≡ false = ne_eqb (block_of w).size 0 (λ z. omega arith) in
    let p : (block_of w).size - 1 ≡ k = omega arith in
    rw (n, p)

pub tiles_blocks : {ws : List ℕ} {bs : List Block} → Tiles ws bs → blocks_of ws ≡ whole bs
unfolding blocks_from
tiles_blocks end = refl
tiles_blocks (next w rest ws bs e t) = first w (length rest) (rest ++ ws) e ∙ ap (after (block_of w)) (pass rest ws ∙ tiles_blocks t)

-- a walk that is whole has one block first
after_whole : (b : Block) (x : Walk) (bs : List Block) → after b x ≡ whole bs → (cs : List Block) × (x ≡ whole cs) × (b ∷ cs ≡ bs)
after_whole b damaged bs h = let z : ◌≡◌ {A = ℕ} 0 1 = cc in absurd (omega arith)
after_whole b (whole cs) bs h = (cs, refl, cc)

-- the words after the first k are the blocks
abbrev Found : ℕ → List ℕ → List Block → Type 0
Found k ws bs = (k ≤ length ws) × Tiles (drop k ws) bs

found : (k : ℕ) (ws : List ℕ) (bs : List Block) → blocks_from k ws ≡ whole bs → Found k ws bs
unfolding blocks_from
found zero [] [] h = (omega arith, end)
found zero [] (b ∷ bs) h = let z : ◌≡◌ {A = ℕ} 0 1 = cc in absurd (omega arith)
found (suc k) [] bs h = let z : ◌≡◌ {A = ℕ} 0 1 = cc in absurd (omega arith)
found (suc k) (w ∷ ws) bs h = let r = found k ws bs h in (omega arith, r.1)
found zero (w ∷ ws) bs h =
    here (eqb (block_of w).size 0) refl h (λ cs. found ((block_of w).size - 1) ws cs)
  where
    here : (t : Bool) → eqb (block_of w).size 0 ≡ t → cond t damaged (after (block_of w) (blocks_from ((block_of w).size - 1) ws)) ≡ whole bs
        → ((cs : List Block) → blocks_from ((block_of w).size - 1) ws ≡ whole cs → Found ((block_of w).size - 1) ws cs) → Found zero (w ∷ ws) bs
    here true e q more = let z : ◌≡◌ {A = ℕ} 0 1 = cc in absurd (omega arith)
    here false e q more =
        let k : ℕ = (block_of w).size - 1 in
        let one : 1 ≤ (block_of w).size = pos_of_ne-zero (eqb-false (block_of w).size 0 e) in
        let x = after_whole (block_of w) (blocks_from k ws) bs q in
        let r = more x.0 x.1 in
        let n : length (take k ws) ≡ k = length-take-le k ws r.0 in
        let t : Tiles (w ∷ take k ws ++ drop k ws) (block_of w ∷ x.0) = next w (take k ws) (drop k ws) x.0 (omega arith) r.1 in
        (omega arith, rw (take-append-drop k ws, x.2) at t)

pub blocks_tiles : (ws : List ℕ) (bs : List Block) → blocks_of ws ≡ whole bs → Tiles ws bs
blocks_tiles ws bs h = (found 0 ws bs h).1

-- THE BLOCKS ONE BY ONE

tiles_are : {ws : List ℕ} {bs : List Block} → Tiles ws bs → BlocksAre ws bs
tiles_are end = record { block = λ i h. absurd (omega arith); some = λ i h. absurd (omega arith); all = refl }
tiles_are (next w rest ws bs e t) =
    let r = tiles_are t in
    let n : length (rest ++ ws) ≡ length rest + length ws = length-append rest ws in
    let a = r.all in
    record { block = block (λ i h. r.block i h); some = some (λ i h. r.some i h); all = omega arith }
  where
    block : ((i : ℕ) → i < length bs → block_at bs i ≡ block_of (get_or ws (size_sum (take i bs)) 0))
        → (i : ℕ) → i < length (block_of w ∷ bs) → block_at (block_of w ∷ bs) i ≡ block_of (get_or (w ∷ rest ++ ws) (size_sum (take i (block_of w ∷ bs))) 0)
    block f zero h = refl
    block f (suc i) h =
        let k = size_sum (take i bs) in
        let on : (block_of w).size + k ≡ suc (length rest + k) = omega arith in
        rw (on, get_or-append-add rest ws k 0) (f i (omega arith))

    some : ((i : ℕ) → i < length bs → 1 ≤ size_at bs i) → (i : ℕ) → i < length (block_of w ∷ bs) → 1 ≤ size_at (block_of w ∷ bs) i
    some f zero h = omega arith
    some f (suc i) h = f i (omega arith)

are_tiles : (bs : List Block) (ws : List ℕ) → BlocksAre ws bs → Tiles ws bs
are_tiles [] [] r = end
are_tiles [] (w ∷ ws) r = let a = r.all in absurd (omega arith)
are_tiles (b ∷ bs) [] r = let a = r.all in let s = r.some 0 (omega arith) in absurd (omega arith)
are_tiles (b ∷ bs) (w ∷ ws) r =
    let a = r.all in
    let s = r.some 0 (omega arith) in
    let k : ℕ = b.size - 1 in
    let e : b ≡ block_of w = r.block 0 (omega arith) in
    let n : length (take k ws) ≡ k = length-take-le k ws (omega arith) in
    let d : length (drop k ws) ≡ length ws - k = length-drop k ws in
    let rest : BlocksAre (drop k ws) bs = record {
      block = λ i h.
          let on : b.size + size_sum (take i bs) ≡ suc (k + size_sum (take i bs)) = omega arith in
          let q : block_at bs i ≡ block_of (get_or (w ∷ ws) (b.size + size_sum (take i bs)) 0) = r.block (suc i) (omega arith) in
          rw (get_or-drop k ws (size_sum (take i bs)) 0) (rw on at q);
      some = λ i h. r.some (suc i) (omega arith);
      all = omega arith;
    } in
    let size : b.size ≡ suc (length (take k ws)) = omega arith in
    let t : Tiles (w ∷ take k ws ++ drop k ws) (block_of w ∷ bs) = next w (take k ws) (drop k ws) bs (sym (ap (λ (x : Block). x.size) e) ∙ size) (are_tiles bs (drop k ws) rest) in
    rw (take-append-drop k ws, sym e) at t

pub blocks_are : (pool : List ℕ) (bs : List Block) → Tiles pool bs ↔ BlocksAre pool bs
blocks_are pool bs = (tiles_are, are_tiles bs pool)

-- a block is free or used
shares : (b : Block) (x y : ℕ) → cond (is_free b) b.size 0 + x + (cond (is_used b) b.size 0 + y) ≡ b.size + (x + y)
shares b x y = either b.used (λ e. rw e (omega arith)) (λ e. rw e (omega arith))

pub tiles_words : {ws : List ℕ} {bs : List Block} → Tiles ws bs → words is_free bs + words is_used bs ≡ length ws
tiles_words end = refl
tiles_words (next w rest ws bs e t) =
    let h = tiles_words t in
    shares (block_of w) (words is_free bs) (words is_used bs) ∙ simp length-append (omega arith)

-- no figure is above the words of its blocks
figure_bound : {ws : List ℕ} {bs : List Block} (pick : Block → Bool) → Tiles ws bs → (blocks pick bs ≤ words pick bs) × (usable pick bs ≤ words pick bs)
figure_bound pick end = (omega arith, omega arith)
figure_bound pick (next w rest ws bs e t) =
    let h = figure_bound pick t in
    either (pick (block_of w)) (λ q. rw q (omega arith, omega arith)) (λ q. rw q (omega arith, omega arith))

-- so each of the five fits in a word if the pool's size does
pub record FiguresFit (bs : List Block) : Type 0 where
  pub free_words : words is_free bs < 4294967296
  pub free_blocks_lem : blocks is_free bs < 4294967296
  pub usable_free : usable is_free bs < 4294967296
  pub used_words : words is_used bs < 4294967296
  pub used_blocks_lem : blocks is_used bs < 4294967296

pub figures_fit : {ws : List ℕ} {bs : List Block} → Tiles ws bs → length ws < 4294967296 → FiguresFit bs
figures_fit t l =
    let s = tiles_words t in
    let f = figure_bound is_free t in
    let u = figure_bound is_used t in
    record {
      free_words = omega arith;
      free_blocks_lem = omega arith;
      usable_free = omega arith;
      used_words = omega arith;
      used_blocks_lem = omega arith;
    }

-- the five words of the reply are the figures
pub reply_figures : (count unit t pool : ℕ) (bs : List Block) (buffer : List ℕ) → FiguresFit bs → let p = splice buffer 0 (reply_bytes count unit t pool bs) in
    ((four p 12 ≡ words is_free bs) × (four p 16 ≡ blocks is_free bs) × (four p 20 ≡ usable is_free bs))
    × ((four p 24 ≡ words is_used bs) × (four p 28 ≡ blocks is_used bs))
unfolding splice reply_bytes
reply_figures count unit t pool bs buffer f =
    let p = splice buffer 0 (reply_bytes count unit t pool bs) in (
      (
        in_four p 12 _ (be_back 4 (words is_free bs) f.free_words),
        in_four p 16 _ (be_back 4 (blocks is_free bs) f.free_blocks_lem),
        in_four p 20 _ (be_back 4 (usable is_free bs) f.usable_free),
      ),
      (in_four p 24 _ (be_back 4 (words is_used bs) f.used_words), in_four p 28 _ (be_back 4 (blocks is_used bs) f.used_blocks_lem)),
    )

-- THE FIGURES IN LOGIC

-- one of these blocks has so many words
abbrev Reached : List Block → ℕ → Type 0
Reached bs n = (i : ℕ) × (i < length bs) × (size_at bs i ≡ n)

one_on : {i n : ℕ} → i < n → suc i < suc n
one_on l = omega arith

reached_first : (b : Block) (bs : List Block) (n : ℕ) → (n ≢ 0 → Reached bs n) → max b.size n ≢ 0 → Reached (b ∷ bs) (max b.size n)
reached_first b bs n rest some =
    by_lt b.size n
    (λ l. let e : n ≡ max b.size n = omega arith in let r = rest (λ z. some (sym e ∙ z)) in (suc r.0, one_on r.1, r.2 ∙ e))
    (λ l. let e : b.size ≡ max b.size n = omega arith in (0, omega arith, e))

larger_than_0 : (n : ℕ) → max 0 n ≡ n
larger_than_0 n = omega arith

-- over the blocks that a test picks
module _ (pick : Block → Bool) where
  picked_words : (bs : List Block) → words pick bs ≡ size_sum (picked pick bs)
  picked_words [] = refl
  picked_words (b ∷ bs) =
      let h = picked_words bs in
      either (pick b) (λ e. rw e (omega arith)) (λ e. rw e (omega arith))

  picked_blocks : (bs : List Block) → blocks pick bs ≡ length (picked pick bs)
  picked_blocks [] = refl
  picked_blocks (b ∷ bs) =
      let h = picked_blocks bs in
      either (pick b) (λ e. rw e (omega arith)) (λ e. rw e (omega arith))

  picked_bounds : (bs : List Block) (i : ℕ) → size_at (picked pick bs) i ≤ largest pick bs
  picked_bounds [] i = omega arith
  picked_bounds (b ∷ bs) i =
      either (pick b)
      (λ e. rw e (at i (λ j. picked_bounds bs j)))
      (λ e. let h = picked_bounds bs i in rw e (omega arith))
    where
      at : (i : ℕ) → ((j : ℕ) → size_at (picked pick bs) j ≤ largest pick bs) → size_at (b ∷ picked pick bs) i ≤ max b.size (largest pick bs)
      at zero f = omega arith
      at (suc j) f = let h = f j in omega arith

  -- a size other than 0 is that of a block that is there
  picked_reached : (bs : List Block) → largest pick bs ≢ 0 → Reached (picked pick bs) (largest pick bs)
  picked_reached [] n = absurd (n refl)
  picked_reached (b ∷ bs) n =
      either (pick b)
      (λ e. rw e (reached_first b (picked pick bs) (largest pick bs) (λ m. picked_reached bs m) (rw e at n)))
      (λ e. rw (e, larger_than_0 (largest pick bs)) (picked_reached bs (rw (e, larger_than_0 (largest pick bs)) at n)))

  -- a block that is there has a size other than 0
  picked_some : {ws : List ℕ} {bs : List Block} → Tiles ws bs → 1 ≤ length (picked pick bs) → largest pick bs ≢ 0
  picked_some end h = absurd (omega arith)
  picked_some (next w rest ws bs e t) h =
      either (pick (block_of w))
      (λ q. rw q (λ z. omega arith))
      (λ q. let r = picked_some t (rw q at h) in rw q (λ z. r (omega arith)))

-- one taken off each
each_less : (bs : List Block) → largest is_free (map without_first bs) ≡ usable is_free bs
each_less [] = refl
each_less (b ∷ bs) =
    let h = each_less bs in
    either b.used (λ e. rw e (omega arith)) (λ e. rw e (omega arith))

all_counted : (bs : List Block) → blocks is_free bs + blocks is_used bs ≡ length bs
all_counted [] = refl
all_counted (b ∷ bs) =
    let h = all_counted bs in
    either b.used (λ e. rw e (omega arith)) (λ e. rw e (omega arith))

pub figures_are : (pool : List ℕ) (bs : List Block) → Tiles pool bs → FiguresAre bs
figures_are pool bs t =
    let reached : 1 ≤ length (free_blocks bs) → (i : ℕ) × (i < length (free_blocks bs)) × (size_at (free_blocks bs) i ≡ usable is_free bs + 1) =
    λ h. let n = picked_some is_free t h in let r = picked_reached is_free bs n in let o = pos_of_ne-zero n in (r.0, r.1, omega arith) in
    record {
      free_words = picked_words is_free bs;
      free_blocks_lem = picked_blocks is_free bs;
      used_words = picked_words is_used bs;
      used_blocks_lem = picked_blocks is_used bs;
      all_blocks = all_counted bs;
      reached = reached;
      bounds = λ i h. let b = picked_bounds is_free bs i in omega arith;
      none = λ h. by_lt 0 (largest is_free bs)
          (λ l. let r = picked_reached is_free bs (λ z. omega arith) in absurd (omega arith))
          (λ l. omega arith);
      ones = λ h. by_lt 0 (largest is_free bs)
          (λ l. let r = picked_reached is_free bs (λ z. omega arith) in let one = h r.0 r.1 in omega arith)
          (λ l. omega arith);
      each = each_less bs;
    }

pub block_bits : (w : ℕ) → w < 4294967296 → BlockBits w
block_bits w h =
    by_lt w 2147483648
    (λ l. let e : leb 2147483648 w ≡ false = lt-leb 2147483648 w l in rw e (omega arith, omega arith))
    (λ l. let e : leb 2147483648 w ≡ true = le-leb 2147483648 w l in rw e (omega arith, omega arith))

-- the fields before the figures
pub reply_head : (count unit t pool : ℕ) (bs : List Block) → count ≤ 16383 → unit ≤ 15 → t ≤ 4095
    → TelemetryHeader 785 count unit t (reply_bytes count unit t pool bs)
unfolding reply_bytes
reply_head count unit t pool bs hc hu ht =
    record { kind = refl; sequence = omega arith; length_field = refl; identity = omega arith }

pub reply_pool : (count unit t pool : ℕ) (bs : List Block) (buffer : List ℕ) → pool ≤ 1 → let p = splice buffer 0 (reply_bytes count unit t pool bs) in
    (two p 8 ≡ pool) × (two p 10 ≡ 0)
unfolding splice reply_bytes
reply_pool count unit t pool bs buffer h = (omega arith, refl)
