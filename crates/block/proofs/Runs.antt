-- Laws of lists put one after the other: length, elements, and one turn of a loop that makes them.
-- Assumes nothing.
use mathlib.Core.Path.{◌≡◌, refl, sym, ap, ◌∙◌}
use mathlib.Core.Logic.{⊎_elim}
use mathlib.Core.List.{List, [], ◌∷◌, ◌++◌, append-nil, append_assoc}
use Prim.Native.Nat.{ℕ, zero, suc, ◌+◌, ◌*◌, ◌-◌, ◌≤◌, ◌<◌}
use native.Mathlib.Nat.{mul-suc, mul-zero, mul-le-mul_left, eq-or-lt_of_le}
use native.Mathlib.Numerals.{add-one}
use native.Mathlib.Omega.{arith}
use lib.ListN.{length, get_or, set, take, drop, replicate, length-append, length-take, length-drop, get_or-append}
use lib.Seq.{drop-length, set_at, append_snoc, get_or-append-add, get_or-take, get_or-drop, take_all, take-append-le, take-suc, take-add, ext_get_or}
use Rattle.lists.specs.Splice.{splice}
use Rattle.block.specs.Runs.{runs}

runs_more : {A : Type 0} (f : ℕ → List A) (i : ℕ) → runs f (i + 1) ≡ runs f i ++ f i
unfolding runs
runs_more f i = rw add-one

pub runs_length : {A : Type 0} (f : ℕ → List A) (w : ℕ) → ((i : ℕ) → length (f i) ≡ w) → (n : ℕ) → length (runs f n) ≡ w * n
unfolding runs
runs_length f w h zero = sym (mul-zero w)
runs_length f w h (suc n) = rw (length-append, runs_length f w h n, h n, mul-suc)

-- only the lists below n count
pub runs_same : {A : Type 0} (f g : ℕ → List A) (n : ℕ) → ((j : ℕ) → j < n → g j ≡ f j) → runs g n ≡ runs f n
unfolding runs
runs_same f g zero h = refl
runs_same f g (suc n) h = rw (runs_same f g n (λ j l. h j (omega arith)), h n (omega arith))

-- the first m of n lists
pub runs_take : {A : Type 0} (f : ℕ → List A) (w : ℕ) → ((i : ℕ) → length (f i) ≡ w) → (n m : ℕ) → m ≤ n → take (w * m) (runs f n) ≡ runs f m
unfolding runs
runs_take f w h zero m l = let e : m ≡ 0 = omega arith in rw (e, mul-zero w)
runs_take f w h (suc n) m l =
    ⊎_elim
    (λ (e : m ≡ suc n). rw e (all (runs_length f w h (suc n))))
    (λ (q : m < suc n). fewer (mul-le-mul_left w (below q)) (runs_take f w h n m (below q)))
    (eq-or-lt_of_le l)
  where
    below : m < suc n → m ≤ n
    below q = omega arith

    all : length (runs f n ++ f n) ≡ w * suc n → take (w * suc n) (runs f n ++ f n) ≡ runs f n ++ f n
    all k = take_all (w * suc n) (runs f n ++ f n) (omega arith)

    fewer : w * m ≤ w * n → take (w * m) (runs f n) ≡ runs f m → take (w * m) (runs f n ++ f n) ≡ runs f m
    fewer a r = let k = runs_length f w h n in take-append-le (w * m) (runs f n) (f n) (omega arith) ∙ r

-- AN ARRAY FILLED element by element

module _ {A : Type 0} (g : ℕ → A) (d : A) where
  pub fill_none : (n : ℕ) → replicate n d ≡ runs (λ k. g k ∷ []) 0 ++ replicate (n - 0) d
  unfolding runs
  fill_none n = let e : n - 0 ≡ n = omega arith in rw e

  pub fill_more : (n i : ℕ) → i < n
      → set (runs (λ k. g k ∷ []) i ++ replicate (n - i) d) i (g i) ≡ runs (λ k. g k ∷ []) (i + 1) ++ replicate (n - (i + 1)) d
  fill_more n i l =
      let e : n - i ≡ suc (n - (i + 1)) = omega arith in
      let k : length (runs (λ k. g k ∷ []) i) ≡ i = runs_length (λ k. g k ∷ []) 1 (λ i. refl) i ∙ omega arith in
      rw (e, set_at (runs (λ k. g k ∷ []) i) d (replicate (n - (i + 1)) d) (g i) i k, runs_more (λ k. g k ∷ []) i, append_snoc)

-- ELEMENTS

-- an element of the first list, and one of the second
pub in_front : {A : Type 0} (d : A) (xs ys : List A) (k : ℕ) → k < length xs → get_or (xs ++ ys) k d ≡ get_or xs k d
in_front d xs ys k l = get_or-append xs ys d k l

pub in_rest : {A : Type 0} (d : A) (xs ys : List A) (n k : ℕ) → length xs ≡ n → get_or (xs ++ ys) (n + k) d ≡ get_or ys k d
in_rest d xs ys n k e = ap (λ (m : ℕ). get_or (xs ++ ys) (m + k) d) (sym e) ∙ get_or-append-add xs ys k d

-- element k of list i
pub runs_at : {A : Type 0} (d : A) (f : ℕ → List A) (w : ℕ) → ((i : ℕ) → length (f i) ≡ w) → (n i k : ℕ) → i < n → k < w
    → get_or (runs f n) (w * i + k) d ≡ get_or (f i) k d
unfolding runs
runs_at d f w h zero i k l m = absurd (omega arith)
runs_at d f w h (suc n) i k l m =
    ⊎_elim
    (λ (e : i ≡ n). rw e (in_rest d (runs f n) (f n) (w * n) k (runs_length f w h n)))
    (λ (q : i < n). earlier q (runs_at d f w h n i k q m))
    (eq-or-lt_of_le {n = i} {m = n} (omega arith))
  where
    earlier : i < n → get_or (runs f n) (w * i + k) d ≡ get_or (f i) k d → get_or (runs f n ++ f n) (w * i + k) d ≡ get_or (f i) k d
    earlier q r =
        let a : w * i + w ≤ w * n = rw (mul-suc w i) at (mul-le-mul_left w q) in
        let b = runs_length f w h n in
        in_front d (runs f n) (f n) (w * i + k) (omega arith) ∙ r

-- element i of a list given element by element, and that list where each is known
pub list_at : {A : Type 0} (d : A) (g : ℕ → A) (n i : ℕ) → i < n → get_or (runs (λ k. g k ∷ []) n) i d ≡ g i
list_at d g n i l =
    let e : i ≡ 1 * i + 0 = omega arith in
    ap (λ (k : ℕ). get_or (runs (λ k. g k ∷ []) n) k d) e ∙ runs_at d (λ k. g k ∷ []) 1 (λ i. refl) n i 0 l (omega arith)

pub list_is : {A : Type 0} (d : A) (g : ℕ → A) (l : List A) (n : ℕ) → n ≤ length l → ((i : ℕ) → i < n → g i ≡ get_or l i d)
    → runs (λ k. g k ∷ []) n ≡ take n l
unfolding runs
list_is d g l zero m h = refl
list_is d g l (suc n) m h =
    rw (list_is d g l n (omega arith) (λ i q. h i (omega arith)), h n (omega arith), take-suc l n d m)

-- A LIST FROM ITS START, part after part

-- v are the elements of b from o on
pub front_more : (b v : List ℕ) (o : ℕ) → o + length v ≤ length b → ((k : ℕ) → k < length v → get_or v k 0 ≡ get_or b (o + k) 0)
    → take o b ++ v ≡ take (o + length v) b
front_more b v o room h =
    let n : length v ≡ length (take (length v) (drop o b)) = simp (length-take, length-drop) (omega arith) in
    let e : v ≡ take (length v) (drop o b) =
    ext_get_or 0 v (take (length v) (drop o b)) n (λ k l. h k l ∙ sym (get_or-take (length v) (drop o b) k 0 l ∙ get_or-drop o b k 0))
    in
    ap (λ (u : List ℕ). take o b ++ u) e ∙ sym (take-add o (length v) b)

pub front_runs : (b : List ℕ) (f : ℕ → List ℕ) (w o : ℕ) → ((i : ℕ) → length (f i) ≡ w) → (n : ℕ) → o + w * n ≤ length b
    → ((i k : ℕ) → i < n → k < w → get_or (f i) k 0 ≡ get_or b (o + w * i + k) 0) → take o b ++ runs f n ≡ take (o + w * n) b
unfolding runs
front_runs b f w o h zero room e = let z : o + w * 0 ≡ o = rw (mul-zero w) (omega arith) in rw z (append-nil (take o b))
front_runs b f w o h (suc n) room e =
    let s = mul-suc w n in
    let k = h n in
    let m : o + w * n + length (f n) ≡ o + w * suc n = omega arith in
    sym (append_assoc (take o b) (runs f n) (f n))
    ∙ ap (λ (u : List ℕ). u ++ f n) (front_runs b f w o h n (omega arith) (λ i k l q. e i k (omega arith) q))
    ∙ front_more b (f n) (o + w * n) (omega arith) (λ k l. e n k (omega arith) (omega arith))
    ∙ ap (λ (x : ℕ). take x b) m

-- A WRITE OF ALL WORDS of a list
pub splice_all : (l v : List ℕ) → length v ≡ length l → splice l 0 v ≡ v
unfolding splice
splice_all l v e = let k : 0 + length v ≡ length l = omega arith in rw (k, drop-length) (append-nil v)
