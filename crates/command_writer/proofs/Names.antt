-- The name of a symbol, written word by word.
-- Assumes nothing.
use mathlib.Core.Path.{◌≡◌, refl, sym, ap, ◌∙◌}
use mathlib.Core.List.{List, [], ◌∷◌, ◌++◌, append_assoc}
use Prim.Native.Nat.{ℕ, suc, ◌+◌, ◌*◌, ◌-◌, ◌/◌, ◌%◌, ◌≤◌, ◌<◌}
use native.Mathlib.Omega.{arith}
use lib.Bits.{bit_xor}
use lib.ListN.{length, get_or, take, drop, length-append, length-take, length-drop, length-replicate, get_or-append, get_or-eq_default}
use lib.Seq.{length-take-le, take-add, take_all, get_or-take, get_or-drop, ext_get_or}
use Rattle.lists.specs.Splice.{splice}
use Rattle.lists.proofs.Runs.{splice_splice}
use Rattle.lists.proofs.Tests.{by_lt}
use Rattle.wire.specs.Bytes.{be, word_bytes}
use Rattle.wire.specs.Xor.{xor_all}
use Rattle.wire.proofs.ByByte.{word_byte}
use Rattle.wire.proofs.Lengths.{word_bytes_length}
use Rattle.wire.proofs.Numbers.{two_halves}
use Rattle.rules.specs.Packets.{name_bytes, name_field, body_bytes}
use Rattle.rules.specs.declared.Command.TheVariants.{DumpSymbol}
use Rattle.rules.specs.declared.SymbolRequest.{SymbolRequest}
use Rattle.rules.proofs.Fits.{name_length}
use Rattle.rules.proofs.UsedWords.{zeros_at, filled, filled_used, filled_rest, filled_all}
use Rattle.command_writer.proofs.Steps.{both_words}

-- A WORD OF WHICH ONLY THE FIRST BYTES ARE KEPT

module _ (w : ℕ) where
  pub one_kept : be 4 (w / 16777216 * 16777216) ≡ filled 4 1 (be 4 w)
  one_kept =
      let q : ℕ = w / 16777216 in
      let e : w / 256 / 256 / 256 ≡ q = omega arith in
      let a : q * 16777216 / 256 ≡ q * 65536 = omega arith in
      let b : q * 65536 / 256 ≡ q * 256 = omega arith in
      let d : q * 256 / 256 ≡ q = omega arith in
      let x : q * 16777216 % 256 ≡ 0 = omega arith in
      let y : q * 65536 % 256 ≡ 0 = omega arith in
      let z : q * 256 % 256 ≡ 0 = omega arith in
      rw (x, a, y, b, z, d, e)

  pub two_kept : be 4 (w / 65536 * 65536) ≡ filled 4 2 (be 4 w)
  two_kept =
      let q : ℕ = w / 65536 in
      let e : w / 256 / 256 ≡ q = omega arith in
      let a : q * 65536 / 256 ≡ q * 256 = omega arith in
      let b : q * 256 / 256 ≡ q = omega arith in
      let x : q * 65536 % 256 ≡ 0 = omega arith in
      let y : q * 256 % 256 ≡ 0 = omega arith in
      rw (x, a, y, b, e)

  pub three_kept : be 4 (w / 256 * 256) ≡ filled 4 3 (be 4 w)
  three_kept =
      let a : w / 256 * 256 / 256 ≡ w / 256 = omega arith in
      let x : w / 256 * 256 % 256 ≡ 0 = omega arith in
      rw (x, a)

pub all_kept : (w n : ℕ) → 4 ≤ n → be 4 w ≡ filled 4 n (be 4 w)
all_kept w n h = rw (take_all n (be 4 w) h)

-- WORD i OF A NAME

-- its byte j
byte_of : (ws : List ℕ) (i j : ℕ) → j < 4 → get_or (word_bytes ws) (4 * i + j) 0 ≡ get_or (be 4 (get_or ws i 0)) j 0
byte_of ws i j h =
    by_lt i (length ws)
    (λ g. word_byte ws i j g ∙ get_or-append (be 4 (get_or ws i 0)) (word_bytes (drop (suc i) ws)) 0 j h)
    (λ g.
    let n = word_bytes_length ws in
    get_or-eq_default (word_bytes ws) 0 (omega arith)
    ∙ sym (ap (λ (x : ℕ). get_or (be 4 x) j 0) (get_or-eq_default ws 0 g) ∙ zeros_at 4 j))

module _ (n : ℕ) (ws : List ℕ) (i : ℕ) (h : i < 12) where
  abbrev word : List ℕ
  word = be 4 (get_or ws i 0)

  pub name_part : take 4 (drop (4 * i) (name_bytes n ws)) ≡ filled 4 (n - 4 * i) word
  name_part =
      let name = name_bytes n ws in
      let whole = name_length n ws in
      let four : length (take 4 (drop (4 * i) name)) ≡ 4 = simp (length-take, length-drop, length-append, length-replicate) (omega arith) in
      let also : length (filled 4 (n - 4 * i) word) ≡ 4 = simp (length-take, length-append, length-replicate) (omega arith) in
      ext_get_or 0 (take 4 (drop (4 * i) name)) (filled 4 (n - 4 * i) word) (four ∙ sym also)
      (λ j l. get_or-take 4 (drop (4 * i) name) j 0 (omega arith)
      ∙ get_or-drop (4 * i) name j 0
      ∙ by_lt (4 * i + j) n
      (λ g. filled_used 48 n (word_bytes ws) (4 * i + j) g (omega arith) ∙ byte_of ws i j (omega arith)
      ∙ sym (filled_used 4 (n - 4 * i) word j (omega arith) (omega arith)))
      (λ g. filled_rest 48 n (word_bytes ws) (4 * i + j) g ∙ sym (filled_rest 4 (n - 4 * i) word j (omega arith))))

  -- a word that is not given, and one beyond the name
  pub not_given : length ws ≤ i → be 4 0 ≡ take 4 (drop (4 * i) (name_bytes n ws))
  not_given g =
      sym
      (name_part ∙ ap (λ (x : ℕ). filled 4 (n - 4 * i) (be 4 x)) (get_or-eq_default ws 0 g)
      ∙ filled_all 4 (n - 4 * i) (be 4 0) (be 4 0) refl (λ j. refl) (λ j k. zeros_at 4 j))

  pub beyond_name : n ≤ 4 * i → be 4 0 ≡ take 4 (drop (4 * i) (name_bytes n ws))
  beyond_name g = let e : n - 4 * i ≡ 0 = omega arith in sym (name_part ∙ ap (λ (m : ℕ). filled 4 m word) e)

-- THE LOOP

-- one turn: the first i words stand, and the next goes right after them
pub name_turn : (l b b' name front : List ℕ) (at i w x : ℕ) → i < 12 → length name ≡ 48 → at + 48 ≤ length l
    → be 4 w ≡ take 4 (drop (4 * i) name)
    → b ≡ splice l at (take (4 * i) name) → b' ≡ splice b (at + 4 * i) (be 4 w) → xor_all (be 4 x) ≡ xor_all (front ++ take (4 * i) name)
    → (b' ≡ splice l at (take (4 * (i + 1)) name)) × (xor_all (be 4 (bit_xor x w)) ≡ xor_all (front ++ take (4 * (i + 1)) name))
name_turn l b b' name front at i w x h n room ew e e' ex =
    let part = take (4 * i) name in
    let k : length part ≡ 4 * i = length-take-le (4 * i) name (omega arith) in
    let m : 4 * (i + 1) ≡ 4 * i + 4 = omega arith in
    let more : part ++ be 4 w ≡ take (4 * (i + 1)) name = ap (λ (v : List ℕ). part ++ v) ew ∙ sym (ap (λ (c : ℕ). take c name) m ∙ take-add (4 * i) 4 name) in (
      e' ∙ ap (λ (c : List ℕ). splice c (at + 4 * i) (be 4 w)) e ∙ splice_splice l part (be 4 w) at (at + 4 * i) (omega arith) (omega arith)
          ∙ ap (splice l at) more,
      both_words x w (front ++ part) (be 4 w) ex refl ∙ ap xor_all (append_assoc front part (be 4 w) ∙ ap (λ (v : List ℕ). front ++ v) more),
    )

-- THE FIELDS

-- unit and transaction, name size and pad as one word
pub third_word : (id n w : ℕ) → w ≡ n → n < 256 → (more : List ℕ) → be 4 (id * 65536 + w * 256) ++ more ≡ be 2 id ++ (n ∷ 0 ∷ more)
third_word id n w e h more =
    let up : n * 256 / 256 % 256 ≡ n = omega arith in
    let low : n * 256 % 256 ≡ 0 = omega arith in
    rw (e, two_halves id (n * 256) (omega arith) more, up, low)

-- offset and size of a dump by name, right after the name
pub symbol_written : (l b m : List ℕ) (id : ℕ) (q : SymbolRequest) (ws : List ℕ) (x : ℕ) → 68 ≤ length l
    → b ≡ splice l 8 (be 2 id ++ name_field q.name ws) → m ≡ splice b 60 (word_bytes (q.offset ∷ q.size * 65536 ∷ []))
    → xor_all (be 4 x) ≡ xor_all (be 2 id ++ name_field q.name ws)
    → (m ≡ splice l 8 (be 2 id ++ body_bytes (DumpSymbol q) ws))
    × (xor_all (be 4 (bit_xor (bit_xor x q.offset) (q.size * 65536))) ≡ xor_all (be 2 id ++ body_bytes (DumpSymbol q) ws))
unfolding word_bytes
symbol_written l b m id q ws x long e e' ex =
    let front = be 2 id ++ name_field q.name ws in
    let n = name_length q.name ws in
    let offset = be 4 q.offset in
    let size = be 2 q.size ++ be 2 0 in
    let z : q.size * 65536 ≡ q.size * 65536 + 0 = omega arith in
    let last : be 4 (q.size * 65536) ≡ size = ap (be 4) z ∙ two_halves q.size 0 (omega arith) [] in
    let whole : (front ++ offset) ++ be 4 (q.size * 65536) ≡ be 2 id ++ body_bytes (DumpSymbol q) ws =
    ap (λ (v : List ℕ). (front ++ offset) ++ v) last ∙ sym (append_assoc (front ++ offset) (be 2 q.size) (be 2 0)) in (
      e' ∙ ap (λ (c : List ℕ). splice c 60 (word_bytes (q.offset ∷ q.size * 65536 ∷ []))) e
          ∙ splice_splice l front (word_bytes (q.offset ∷ q.size * 65536 ∷ [])) 8 60 (omega arith) (omega arith)
          ∙ ap (splice l 8) (sym (append_assoc front offset (be 4 (q.size * 65536))) ∙ whole),
      both_words (bit_xor x q.offset) (q.size * 65536) (front ++ offset) (be 4 (q.size * 65536)) (both_words x q.offset front offset ex refl) refl
          ∙ ap xor_all whole,
    )
