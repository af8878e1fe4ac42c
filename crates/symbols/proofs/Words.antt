-- The names of two symbols, compared eight bytes at a time, and that of a symbol with all before it.
-- Assumes nothing.
use mathlib.Core.Path.{◌≡◌, refl, sym, ◌∙◌}
use mathlib.Core.Bool.{Bool, true, false, not}
use mathlib.Core.List.{List, [], ◌∷◌}
use Prim.Native.Nat.{ℕ, zero, suc, ◌+◌, ◌*◌, ◌-◌, ◌/◌, ◌≤◌, ◌<◌}
use native.Mathlib.Omega.{arith}
use lib.Dec.{eqb}
use lib.ListN.{length, get_or}
use borrow.Author.Tests.{eqb-true, eqb-false, eq-eqb}
use Rattle.std.specs.List.{list_all, list_any}
use Rattle.lists.specs.Below.{all_below}
use Rattle.lists.proofs.Tests.{either, contra, and_left, and_right, and_both, or_left, or_right}
use Rattle.lists.proofs.Below.{all_at, all_of}
use Rattle.wire.specs.Bytes.{AreBytes}
use Rattle.symbols.specs.Table.{same_name, name_length_at, name_at}
use Rattle.symbols.specs.Record.{HoldsName}
use Rattle.symbols.specs.Words.{word, name_words, has_first, has_word, has_words}
use Rattle.symbols.proofs.Names.{same_in, apart_name}
use Rattle.symbols.proofs.Numbers.{number_same, bytes_same}
use Rattle.symbols.proofs.Records.{lengths_same, fields_same, names_same}

-- word k of a name field
word_of : (r : List ℕ) (k : ℕ) → k < 6 → get_or (name_words r).words k 0 ≡ word r k
word_of r zero l = refl
word_of r (suc zero) l = refl
word_of r (suc (suc zero)) l = refl
word_of r (suc (suc (suc zero))) l = refl
word_of r (suc (suc (suc (suc zero)))) l = refl
word_of r (suc (suc (suc (suc (suc zero))))) l = refl
word_of r (suc (suc (suc (suc (suc (suc k)))))) l = absurd (omega arith)

-- a symbol's bytes, and the name that they hold
pub record IsNamed (r : List ℕ) : Type 0 where
  pub size : length r ≡ 56
  pub bytes : AreBytes r
  pub name : HoldsName r

module _ (r s : List ℕ) (p : IsNamed r) (q : IsNamed s) where
  -- one name: the same words
  word_same : name_at r 0 ≡ name_at s 0 → (k : ℕ) → k < 6 → word s k ≡ word r k
  unfolding word
  word_same e k l = sym (number_same r s 8 (4 + 8 * k) bytes)
    where
      bytes : (j : ℕ) → j < 8 → get_or r (4 + 8 * k + j) 0 ≡ get_or s (4 + 8 * k + j) 0
      bytes j m =
          let x : 4 + (8 * k + j) ≡ 4 + 8 * k + j = omega arith in
          rw x at (fields_same r s p.size q.size p.name q.name e (8 * k + j) (omega arith))

  words_in : name_at r 0 ≡ name_at s 0 → has_words (name_words r) s ≡ true
  words_in e =
      and_both
      (all_of (has_word (name_words r) s) 6 (λ k l. rw (word_of r k l) (eq-eqb (word s k) (word r k) (word_same e k l))))
      (eq-eqb (name_length_at s 0) (name_length_at r 0) (sym (lengths_same r s p.size q.size p.name q.name e)))

  -- and the other way round
  byte_same : (k : ℕ) → eqb (word s k) (word r k) ≡ true → (j : ℕ) → 8 * k ≤ j → j < 8 * k + 8 → get_or r (4 + j) 0 ≡ get_or s (4 + j) 0
  unfolding word
  byte_same k h j l m =
      let x : 4 + 8 * k + (j - 8 * k) ≡ 4 + j = omega arith in
      rw x at (bytes_same r s p.bytes q.bytes 8 (4 + 8 * k) (sym (eqb-true _ _ h)) (j - 8 * k) (omega arith))

  words_out : has_words (name_words r) s ≡ true → name_at r 0 ≡ name_at s 0
  words_out h =
      let words = and_left (all_below (has_word (name_words r) s) 6) (eqb (name_length_at s 0) (name_length_at r 0)) h in
      let lengths = and_right (all_below (has_word (name_words r) s) 6) (eqb (name_length_at s 0) (name_length_at r 0)) h in
      names_same r s p.size q.size p.name q.name (sym (eqb-true _ _ lengths))
      (λ j l. byte_same (j / 8) (rw (word_of r (j / 8) (omega arith)) at (all_at (has_word (name_words r) s) 6 {i = j / 8} words (omega arith))) j (omega arith) (omega arith))

  pub words_same : has_words (name_words r) s ≡ same_name (name_at r 0) (name_at s 0)
  words_same =
      either (has_words (name_words r) s)
      (λ h. h ∙ sym (same_in (name_at r 0) (name_at s 0) (words_out h)))
      (λ h. h ∙ sym (apart_name (name_at r 0) (name_at s 0) (λ e. contra (words_in e) h)))

  pub first_apart : has_first (word r 0) s ≡ false → same_name (name_at r 0) (name_at s 0) ≡ false
  first_apart h = apart_name (name_at r 0) (name_at s 0) (λ e. eqb-false _ _ h (word_same e 0 (omega arith)))

-- a symbol and those before it
abbrev pub new_name : List ℕ → List ℕ → Bool
new_name r s = not (same_name (name_at r 0) (name_at s 0))

abbrev pub EachNamed : List (List ℕ) → Type 0
EachNamed before = (k : ℕ) → k < length before → IsNamed (get_or before k [])

module _ (r : List ℕ) (p : IsNamed r) where
  after : (s : List ℕ) (before : List (List ℕ)) → EachNamed (s ∷ before) → EachNamed before
  after s before h k l = h (suc k) (omega arith)

  -- where none has its first word, none has its name
  pub first_new : (before : List (List ℕ)) → EachNamed before → list_any (has_first (word r 0)) before ≡ false → true ≡ list_all (new_name r) before
  first_new [] h n = refl
  first_new (s ∷ before) h n =
      let a = first_apart r s p (h 0 (omega arith)) (or_left (has_first (word r 0) s) (list_any (has_first (word r 0)) before) n) in
      let b = first_new before (after s before h) (or_right (has_first (word r 0) s) (list_any (has_first (word r 0)) before) n) in
      rw (a, ← b)

  -- one that has its words has its name
  pub words_new : (before : List (List ℕ)) → EachNamed before → not (list_any (has_words (name_words r)) before) ≡ list_all (new_name r) before
  words_new [] h = refl
  words_new (s ∷ before) h =
      either (same_name (name_at r 0) (name_at s 0))
      (λ e. rw (words_same r s p (h 0 (omega arith)), e))
      (λ e. rw (words_same r s p (h 0 (omega arith)), e, words_new before (after s before h)))
