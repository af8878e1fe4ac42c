-- The eleven words of a load and the 48 bytes of a name: those that are used are written as given and the others as 0, and they stand so in
-- the packet.
-- Assumes nothing.
use mathlib.Core.Path.{◌≡◌, refl, sym, ap, ap₂, ◌∙◌}
use mathlib.Core.Bool.{true, ◌&&◌}
use mathlib.Core.List.{List, [], ◌∷◌, ◌++◌, append_assoc}
use Prim.Native.Nat.{ℕ, zero, suc, ◌+◌, ◌/◌, ◌%◌, ◌≤◌, ◌<◌}
use native.Mathlib.Nat.{add-zero, add_assoc}
use native.Mathlib.Omega.{arith}
use lib.Dec.{leb}
use lib.ListN.{length, get_or, take, replicate, length-append, length-take, length-replicate, get_or-eq_default}
use lib.Seq.{get_or-take, ext_get_or, take_all, take_at}
use borrow.Author.Tests.{leb-true}
use Rattle.lists.proofs.Tests.{and_right, by_lt}
use Rattle.wire.specs.Bytes.{AreBytes, be, be_at, word_bytes, words_at}
use Rattle.wire.proofs.Numbers.{be_at_skip}
use Rattle.wire.proofs.Undo.{words_back, words_part}
use Rattle.rules.specs.Regions.{aligned}
use Rattle.rules.specs.Packets.{data_words, name_words, requested, field_rules, used_words, name_bytes, sealed, command_bytes}
use Rattle.rules.specs.ReadBack.{AreWords}
use Rattle.rules.specs.declared.Command.TheVariants.{Load, SymbolValue, DumpSymbol}
use Rattle.rules.specs.declared.Header.{Header}
use Rattle.rules.specs.declared.Request.{Request}
use Rattle.rules.specs.declared.SymbolRequest.{SymbolRequest}
use Rattle.rules.proofs.Fits.{used_length, name_length}

-- THE FIRST OF A LIST, AND ZEROS

pub zeros_at : (n i : ℕ) → ◌≡◌ {A = ℕ} (get_or (replicate n 0) i 0) 0
zeros_at zero i = refl
zeros_at (suc n) zero = refl
zeros_at (suc n) (suc i) = zeros_at n i

-- zeros after a list read as its end does
pub padded_at : (n : ℕ) (ws : List ℕ) (i : ℕ) → get_or (ws ++ replicate n 0) i 0 ≡ get_or ws i 0
padded_at n [] i = zeros_at n i
padded_at n (w ∷ ws) zero = refl
padded_at n (w ∷ ws) (suc i) = padded_at n ws i

-- the first n of a list, and zeros up to m
abbrev pub filled : ℕ → ℕ → List ℕ → List ℕ
filled m n l = take m (take n l ++ replicate m 0)

module _ (m n : ℕ) (l : List ℕ) where
  filled_length : length (filled m n l) ≡ m
  filled_length = simp (length-take, length-append, length-replicate) (omega arith)

  filled_at : (i : ℕ) → i < m → get_or (filled m n l) i 0 ≡ get_or (take n l) i 0
  filled_at i h = get_or-take m (take n l ++ replicate m 0) i 0 h ∙ padded_at m (take n l) i

  pub filled_used : (i : ℕ) → i < n → i < m → get_or (filled m n l) i 0 ≡ get_or l i 0
  filled_used i h g = filled_at i g ∙ get_or-take n l i 0 h

  pub filled_rest : (i : ℕ) → n ≤ i → get_or (filled m n l) i 0 ≡ 0
  filled_rest i h =
      by_lt i m
      (λ g. filled_at i g ∙ get_or-eq_default (take n l) 0 (simp length-take (omega arith)))
      (λ g. get_or-eq_default (filled m n l) 0 (let e = filled_length in omega arith))

  filled_fit : (b : ℕ) → 0 < b → ((i : ℕ) → get_or l i 0 < b) → (i : ℕ) → get_or (filled m n l) i 0 < b
  filled_fit b some fit i =
      by_lt i n
      (λ h. by_lt i m
      (λ g. let e = filled_used i h g in let f = fit i in omega arith)
      (λ g. let e : get_or (filled m n l) i 0 ≡ 0 = get_or-eq_default (filled m n l) 0 (let k = filled_length in omega arith) in omega arith))
      (λ h. let e = filled_rest i h in omega arith)

  -- a list of m that reads the same, if what is beyond the first n is 0
  pub filled_all : (r : List ℕ) → length r ≡ m → ((i : ℕ) → get_or l i 0 ≡ get_or r i 0) → ((i : ℕ) → n ≤ i → get_or l i 0 ≡ 0) → filled m n l ≡ r
  filled_all r e same zero-after =
      ext_get_or 0 (filled m n l) r (filled_length ∙ sym e)
      (λ i h. by_lt i n
      (λ g. filled_used i g (let k = filled_length in omega arith) ∙ same i)
      (λ g. filled_rest i g ∙ sym (zero-after i g) ∙ same i))

-- A LOAD

module _ (size : ℕ) (ws : List ℕ) (i : ℕ) where
  pub used_word : i < size → i < 11 → get_or (used_words size ws) i 0 ≡ get_or ws i 0
  used_word = filled_used 11 size ws i

  pub unused_word : size ≤ i → get_or (used_words size ws) i 0 ≡ 0
  unused_word = filled_rest 11 size ws i

pub load_most : (q : Request) → field_rules (Load q) ≡ true → q.size ≤ 11
unfolding field_rules
load_most q f = leb-true _ _ (and_right (aligned (requested q) && leb 1 q.size) (leb q.size 11) f)

-- its packet's data words are those that were written
pub load_words : (h : Header) (q : Request) (ws : List ℕ) → AreWords ws → data_words (command_bytes h (Load q) ws) ≡ used_words q.size ws
unfolding command_bytes sealed
load_words h q ws fit =
    ap (λ (n : ℕ). words_at n (command_bytes h (Load q) ws) 16) (sym (used_length q.size ws))
    ∙ words_back (used_words q.size ws) (take 16 (command_bytes h (Load q) ws)) (filled_fit 11 q.size ws 4294967296 (omega arith) fit)

-- A NAME

-- lists of bytes
bytes_append : (u v : List ℕ) → AreBytes u → AreBytes v → AreBytes (u ++ v)
bytes_append [] v a b i = b i
bytes_append (x ∷ u) v a b zero = a 0
bytes_append (x ∷ u) v a b (suc i) = bytes_append u v (λ j. a (suc j)) b i

one_byte : (x : ℕ) → x < 256 → AreBytes (x ∷ [])
one_byte x h zero = h
one_byte x h (suc i) = omega arith

be_bytes : (n x : ℕ) → AreBytes (be n x)
be_bytes zero x = λ i. omega arith
be_bytes (suc n) x = bytes_append (be n (x / 256)) (x % 256 ∷ []) (be_bytes n (x / 256)) (one_byte (x % 256) (omega arith))

word_bytes_bytes : (ws : List ℕ) → AreBytes (word_bytes ws)
unfolding word_bytes
word_bytes_bytes [] = λ i. omega arith
word_bytes_bytes (w ∷ ws) = bytes_append (be 4 w) (word_bytes ws) (be_bytes 4 w) (word_bytes_bytes ws)

name_bytes_lem : (n : ℕ) (ws : List ℕ) → AreBytes (name_bytes n ws)
name_bytes_lem n ws = filled_fit 48 n (word_bytes ws) 256 (omega arith) (word_bytes_bytes ws)

-- words that stand after xs
words_skip : (n : ℕ) (xs p : List ℕ) (at : ℕ) → words_at n (xs ++ p) (length xs + at) ≡ words_at n p at
unfolding words_at
words_skip zero xs p at = refl
words_skip (suc n) xs p at =
    ap₂ (λ (x : ℕ) (l : List ℕ). x ∷ l) (be_at_skip 4 xs p at)
    (ap (words_at n (xs ++ p)) (add_assoc (length xs) at 4) ∙ words_skip n xs p (at + 4))

-- the bytes of twelve words that stand after xs
words_after : (xs p : List ℕ) → AreBytes p → 48 ≤ length p → word_bytes (words_at 12 (xs ++ p) (length xs)) ≡ take 48 p
words_after xs p b l =
    ap (λ (at : ℕ). word_bytes (words_at 12 (xs ++ p) at)) (sym (add-zero (length xs)))
    ∙ ap word_bytes (words_skip 12 xs p 0)
    ∙ words_part 12 p 0 b (omega arith)

-- the value of a symbol: the words of the name are the bytes that were written
pub value_words : (h : Header) (n : ℕ) (ws : List ℕ) → word_bytes (name_words (command_bytes h (SymbolValue n) ws)) ≡ name_bytes n ws
unfolding command_bytes sealed
value_words h n ws =
    let e = name_length n ws in
    words_after (take 12 (command_bytes h (SymbolValue n) ws)) (name_bytes n ws) (name_bytes_lem n ws) (omega arith)
    ∙ take_all 48 (name_bytes n ws) (omega arith)

-- a dump by name: the same, and a number that stands after the name
abbrev pub name_tail : SymbolRequest → List ℕ
name_tail q = be 4 q.offset ++ be 2 q.size ++ be 2 0

tail_bytes : (q : SymbolRequest) → AreBytes (name_tail q)
tail_bytes q =
    bytes_append (be 4 q.offset ++ be 2 q.size) (be 2 0)
    (bytes_append (be 4 q.offset) (be 2 q.size) (be_bytes 4 q.offset) (be_bytes 2 q.size))
    (be_bytes 2 0)

module _ (h : Header) (q : SymbolRequest) (ws : List ℕ) where
  abbrev before : List ℕ
  before = take 12 (command_bytes h (DumpSymbol q) ws)

  abbrev name : List ℕ
  name = name_bytes q.name ws

  pub by_name_parts : command_bytes h (DumpSymbol q) ws ≡ before ++ (name ++ name_tail q)
  unfolding command_bytes sealed
  by_name_parts =
      ap (λ (l : List ℕ). before ++ l)
      (append_assoc (name ++ be 4 q.offset) (be 2 q.size) (be 2 0) ∙ append_assoc name (be 4 q.offset) (be 2 q.size ++ be 2 0))

  pub by_name_words : word_bytes (name_words (command_bytes h (DumpSymbol q) ws)) ≡ name
  unfolding command_bytes sealed
  by_name_words =
      let e = name_length q.name ws in
      ap (λ (p : List ℕ). word_bytes (name_words p)) by_name_parts
      ∙ words_after before (name ++ name_tail q) (bytes_append name (name_tail q) (name_bytes_lem q.name ws) (tail_bytes q)) (simp length-append (omega arith))
      ∙ take_at name (name_tail q) 48 e

  pub by_name_tail : (n at : ℕ) → be_at n (command_bytes h (DumpSymbol q) ws) (60 + at) ≡ be_at n (name_tail q) at
  unfolding command_bytes sealed
  by_name_tail n at =
      let front = before ++ name in
      let e : 60 ≡ length front = (let k = name_length q.name ws in omega arith) in
      ap (λ (p : List ℕ). be_at n p (60 + at)) by_name_parts
      ∙ ap (λ (k : ℕ). be_at n (front ++ name_tail q) (k + at)) e
      ∙ be_at_skip n front (name_tail q) at
