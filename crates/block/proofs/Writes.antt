-- Laws of a write in a list: in a part of it, of its own words, and beside another write.
-- Assumes nothing.
use mathlib.Core.Path.{◌≡◌, sym, ap, ◌∙◌}
use mathlib.Core.List.{List, [], ◌∷◌, ◌++◌, append-nil, append_assoc}
use Prim.Native.Nat.{ℕ, ◌+◌, ◌-◌, ◌≤◌}
use native.Mathlib.Nat.{suc-add}
use native.Mathlib.Omega.{arith}
use lib.ListN.{length, set, take, drop, length-append, length-take, length-drop, drop_of_length-le, take-append-drop}
use lib.Seq.{take-append_seam, take-append-le, drop-append-le, take-append-add, drop-append-add}
use Rattle.lists.specs.Splice.{splice}
use Rattle.lists.proofs.Splice.{splice_length}

-- A WRITE IN TWO LISTS, one after the other: in the first, in the second, and of all of the second

module _ (a z v : List ℕ) where
  pub write_left : (at : ℕ) → at + length v ≤ length a → splice (a ++ z) at v ≡ splice a at v ++ z
  unfolding splice
  write_left at h =
      let i : at ≤ length a = omega arith in
      rw (take-append-le at a z i, drop-append-le (at + length v) a z h, append_assoc, append_assoc)

  pub write_right : (n at : ℕ) → length a ≡ n → splice (a ++ z) (n + at) v ≡ a ++ splice z at v
  unfolding splice
  write_right n at e =
      let m : length a + at + length v ≡ length a + (at + length v) = omega arith in
      rw (← e, take-append-add, m, drop-append-add, append_assoc)

  pub write_end : (n : ℕ) → length a ≡ n → length z ≤ length v → splice (a ++ z) n v ≡ a ++ v
  unfolding splice
  write_end n e h =
      let k : length (a ++ z) ≤ length a + length v = simp length-append (omega arith) in
      rw (← e, take-append_seam, drop_of_length-le (a ++ z) k, append-nil)

pub set_right : (a z : List ℕ) (n k x : ℕ) → length a ≡ n → set (a ++ z) (n + k) x ≡ a ++ set z k x
set_right a z n k x e = rw (← e) (past a)
  where
    past : (a : List ℕ) → set (a ++ z) (length a + k) x ≡ a ++ set z k x
    past [] = let e : 0 + k ≡ k = omega arith in rw e
    past (y ∷ ys) = rw (suc-add, past ys)

-- A WRITE UP TO THE END, and of the list's own elements

pub write_to_end : (a v : List ℕ) (at : ℕ) → length a ≤ at + length v → splice a at v ≡ take at a ++ v
unfolding splice
write_to_end a v at h = rw (drop_of_length-le a h, append-nil)

module _ (l : List ℕ) (at n : ℕ) (low : at ≤ n) (fits : n ≤ length l) where
  pub front_of : take at l ≡ take at (take n l)
  front_of =
      let k : at ≤ length (take n l) = simp length-take (omega arith) in
      ap (take at) (sym (take-append-drop n l)) ∙ take-append-le at (take n l) (drop n l) k

  pub front_whole : take at l ++ drop at (take n l) ≡ take n l
  front_whole = ap (λ (u : List ℕ). u ++ drop at (take n l)) front_of ∙ take-append-drop at (take n l)

  pub own_written : splice l at (drop at (take n l)) ≡ l
  unfolding splice
  own_written =
      let e : at + length (drop at (take n l)) ≡ n = simp (length-drop, length-take) (omega arith) in
      rw (e, ← append_assoc (take at l) (drop at (take n l)) (drop n l), front_whole) (take-append-drop n l)

-- the first n elements after a write that ends there
pub front_written : (l : List ℕ) (at : ℕ) (v : List ℕ) (n : ℕ) → at + length v ≡ n → n ≤ length l → take n (splice l at v) ≡ take at (take n l) ++ v
unfolding splice
front_written l at v n e fits =
    let k : length (take at l ++ v) ≡ n = simp (length-append, length-take) (omega arith) in
    rw (← front_of l at n (omega arith) fits, e, ← append_assoc (take at l) v (drop n l))
    (ap (λ (x : ℕ). take x ((take at l ++ v) ++ drop n l)) (sym k) ∙ take-append_seam (take at l ++ v) (drop n l))

-- TWO WRITES APART: one that ends at `end`, and one from there on

module _ (f : ℕ) (v : List ℕ) (end : ℕ) (e : f + length v ≡ end) where
  module _ (a z : List ℕ) (n : length a ≡ end) where
    written_length : length (splice a f v) ≡ end
    written_length = splice_length a f v (omega arith) ∙ n

    parts_apart : (k : ℕ) (w : List ℕ) → splice (splice (a ++ z) (end + k) w) f v ≡ splice (splice (a ++ z) f v) (end + k) w
    parts_apart k w =
        ap (λ (u : List ℕ). splice u f v) (write_right a z w end k n)
        ∙ write_left a (splice z k w) v f (omega arith)
        ∙ sym (ap (λ (u : List ℕ). splice u (end + k) w) (write_left a z v f (omega arith)) ∙ write_right (splice a f v) z w end k written_length)

    part_apart : (k x : ℕ) → splice (set (a ++ z) (end + k) x) f v ≡ set (splice (a ++ z) f v) (end + k) x
    part_apart k x =
        ap (λ (u : List ℕ). splice u f v) (set_right a z end k x n)
        ∙ write_left a (set z k x) v f (omega arith)
        ∙ sym (ap (λ (u : List ℕ). set u (end + k) x) (write_left a z v f (omega arith)) ∙ set_right (splice a f v) z end k x written_length)

  module _ (l : List ℕ) (long : end ≤ length l) (at : ℕ) (past : end ≤ at) where
    front_length : length (take end l) ≡ end
    front_length = simp length-take (omega arith)

    pub writes_apart : (w : List ℕ) → splice (splice l at w) f v ≡ splice (splice l f v) at w
    writes_apart w =
        let k : at ≡ end + (at - end) = omega arith in
        let u = take-append-drop end l in
        rw k (rw u at (parts_apart (take end l) (drop end l) front_length (at - end) w))

    pub write_set_apart : (x : ℕ) → splice (set l at x) f v ≡ set (splice l f v) at x
    write_set_apart x =
        let k : at ≡ end + (at - end) = omega arith in
        let u = take-append-drop end l in
        rw k (rw u at (part_apart (take end l) (drop end l) front_length (at - end) x))
