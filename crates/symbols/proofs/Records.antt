-- Records: the rules of one in logic, and what two have to do with one another whose names are the same.
-- Assumes nothing.
use mathlib.Core.Path.{◌≡◌, sym, ap, ◌∙◌}
use mathlib.Core.Bool.{Bool, true, false, ◌&&◌, ◌||◌}
use mathlib.Core.List.{List}
use Prim.Native.Nat.{ℕ, ◌+◌, ◌*◌, ◌≤◌, ◌<◌}
use native.Mathlib.Omega.{arith}
use lib.Dec.{leb, ltb, eqb}
use lib.ListN.{length, get_or, length-drop}
use lib.Seq.{length-take-le, ext_get_or}
use borrow.Author.Tests.{ltb-true, leb-true, eqb-true, lt-ltb, le-ltb, le-leb, eq-eqb, eqb-false}
use Rattle.lists.proofs.Tests.{either, and_left, and_right, and_both, by_lt}
use Rattle.lists.proofs.Below.{all_at, all_of}
use Rattle.wire.specs.Bytes.{be_at}
use Rattle.wire.specs.ByByte.{four}
use Rattle.wire.proofs.ByByte.{at_two, at_four}
use Rattle.symbols.specs.Table.{kind_at, name_length_at, name_at, number_at, padded, IsSymbol}
use Rattle.symbols.specs.Record.{record_rules, HoldsName}
use Rattle.symbols.proofs.Numbers.{part_byte}

-- THE RULES

abbrev pub is_pad : List ℕ → ℕ → ℕ → Bool
is_pad t i j = ltb j (name_length_at t i) || eqb (get_or t (56 * i + 4 + j) 0) 0

-- the rules of a record, one more each time
abbrev kind_rule : List ℕ → ℕ → Bool
kind_rule t i = leb (kind_at t i) 1

abbrev some_rule : List ℕ → ℕ → Bool
some_rule t i = kind_rule t i && leb 1 (name_length_at t i)

abbrev most_rule : List ℕ → ℕ → Bool
most_rule t i = some_rule t i && leb (name_length_at t i) 48

abbrev zero_rule : List ℕ → ℕ → Bool
zero_rule t i = most_rule t i && eqb (be_at 2 t (56 * i + 2)) 0

abbrev pad_rule : List ℕ → ℕ → Bool
pad_rule t i = zero_rule t i && padded t i

abbrev lower_rule : List ℕ → ℕ → Bool
lower_rule t i = eqb (kind_at t i) 0 || ltb (number_at t i) i

-- the second of the two zero bytes
third_byte : (t : List ℕ) (i : ℕ) → get_or t (56 * i + 2 + 1) 0 ≡ get_or t (56 * i + 3) 0
third_byte t i = let e : 56 * i + 2 + 1 ≡ 56 * i + 3 = omega arith in ap (λ (k : ℕ). get_or t k 0) e

pub one_of : {k : ℕ} → k ≤ 1 → (k ≡ 0 → ⊥) → k ≡ 1
one_of l n = omega arith

module _ (t : List ℕ) (i : ℕ) where
  pub record_out : record_rules t i ≡ true → IsSymbol t i
  record_out h =
      let pad : pad_rule t i ≡ true = and_left (pad_rule t i) (lower_rule t i) h in
      let zero : zero_rule t i ≡ true = and_left (zero_rule t i) (padded t i) pad in
      let most : most_rule t i ≡ true = and_left (most_rule t i) (eqb (be_at 2 t (56 * i + 2)) 0) zero in
      let some : some_rule t i ≡ true = and_left (some_rule t i) (leb (name_length_at t i) 48) most in
      let none : be_at 2 t (56 * i + 2) ≡ 0 = eqb-true _ _ (and_right (most_rule t i) (eqb (be_at 2 t (56 * i + 2)) 0) zero) in
      let two = at_two t (56 * i + 2) in
      let fourth = third_byte t i in
      record {
        kind = leb-true _ _ (and_left (kind_rule t i) (leb 1 (name_length_at t i)) some);
        some = leb-true _ _ (and_right (kind_rule t i) (leb 1 (name_length_at t i)) some);
        most = leb-true _ _ (and_right (some_rule t i) (leb (name_length_at t i) 48) most);
        zeros = (omega arith, sym fourth ∙ omega arith);
        padding = λ j l k. pad_zero j l (all_at (is_pad t i) 48 (and_right (zero_rule t i) (padded t i) pad) k);
        lower = λ e. lower e (and_right (pad_rule t i) (lower_rule t i) h);
      }
    where
      pad_zero : (j : ℕ) → name_length_at t i ≤ j → is_pad t i j ≡ true → get_or t (56 * i + 4 + j) 0 ≡ 0
      pad_zero j l p = eqb-true _ _ (rw (le-ltb j (name_length_at t i) l) at p)

      lower : kind_at t i ≡ 1 → lower_rule t i ≡ true → four t (56 * i + 52) < i
      lower e p =
          let n : eqb (kind_at t i) 0 ≡ false = rw e in
          let q : number_at t i < i = ltb-true _ _ (rw n at p) in
          let f = at_four t (56 * i + 52) in
          omega arith

  pub record_in : IsSymbol t i → record_rules t i ≡ true
  record_in s =
      let z = s.zeros in
      let fourth = third_byte t i in
      let none : be_at 2 t (56 * i + 2) ≡ 0 = at_two t (56 * i + 2) ∙ omega arith in
      and_both
      (and_both
      (and_both
      (and_both (and_both (le-leb (kind_at t i) 1 s.kind) (le-leb 1 (name_length_at t i) s.some)) (le-leb (name_length_at t i) 48 s.most))
      (eq-eqb (be_at 2 t (56 * i + 2)) 0 none))
      (all_of (is_pad t i) 48 is_pad_lem))
      lower
    where
      is_pad_lem : (j : ℕ) → j < 48 → is_pad t i j ≡ true
      is_pad_lem j l =
          by_lt j (name_length_at t i)
          (λ h. rw (lt-ltb j (name_length_at t i) h))
          (λ h. rw (le-ltb j (name_length_at t i) h) (eq-eqb _ 0 (s.padding j h l)))

      lower : lower_rule t i ≡ true
      lower =
          let f = at_four t (56 * i + 52) in
          either (eqb (kind_at t i) 0)
          (λ e. rw e)
          (λ e. let k = s.kind in let one : kind_at t i ≡ 1 = one_of k (eqb-false (kind_at t i) 0 e) in let l = s.lower one in rw e (lt-ltb (number_at t i) i (omega arith)))

-- NAMES, each in the bytes of its own record

module _ (r : List ℕ) (bytes : length r ≡ 56) (h : HoldsName r) where
  pub name_length : length (name_at r 0) ≡ name_length_at r 0
  name_length = let m = h.most in length-take-le (name_length_at r 0) _ (simp length-drop (omega arith))

  pub name_byte : (k : ℕ) → k < name_length_at r 0 → get_or (name_at r 0) k 0 ≡ get_or r (4 + k) 0
  name_byte k l = part_byte r 4 (name_length_at r 0) k l

-- the names of two, by their whole fields: padding is zero
module _ (r s : List ℕ) (br : length r ≡ 56) (bs : length s ≡ 56) (hr : HoldsName r) (hs : HoldsName s) where
  pub lengths_same : name_at r 0 ≡ name_at s 0 → name_length_at r 0 ≡ name_length_at s 0
  lengths_same e = sym (name_length r br hr) ∙ ap length e ∙ name_length s bs hs

  pub fields_same : name_at r 0 ≡ name_at s 0 → (k : ℕ) → k < 48 → get_or r (4 + k) 0 ≡ get_or s (4 + k) 0
  fields_same e k l =
      let n = lengths_same e in
      by_lt k (name_length_at r 0)
      (λ h. sym (name_byte r br hr k h) ∙ ap (λ (u : List ℕ). get_or u k 0) e ∙ name_byte s bs hs k (omega arith))
      (λ h. hr.padding k h l ∙ sym (hs.padding k (omega arith) l))

  pub names_same : name_length_at r 0 ≡ name_length_at s 0 → ((k : ℕ) → k < 48 → get_or r (4 + k) 0 ≡ get_or s (4 + k) 0) → name_at r 0 ≡ name_at s 0
  names_same e f =
      let nr = name_length r br hr in
      let ns = name_length s bs hs in
      let m = hr.most in
      ext_get_or 0 (name_at r 0) (name_at s 0) (omega arith)
      (λ k l. name_byte r br hr k (omega arith) ∙ f k (omega arith) ∙ sym (name_byte s bs hs k (omega arith)))
