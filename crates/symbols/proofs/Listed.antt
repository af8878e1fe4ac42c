-- A table as the list of its symbols, each the 56 bytes of a record.
-- Assumes nothing.
use mathlib.Core.Path.{◌≡◌, refl, sym, ap, ap₂, ◌∙◌}
use mathlib.Core.Bool.{Bool, ◌&&◌}
use mathlib.Core.List.{List, [], ◌∷◌, ◌++◌}
use Prim.Native.Nat.{ℕ, zero, suc, ◌+◌, ◌*◌, ◌/◌, ◌%◌, ◌≤◌, ◌<◌}
use native.Mathlib.Nat.{add-zero}
use native.Mathlib.Numerals.{add-one}
use native.Mathlib.Omega.{arith}
use lib.ListN.{length, get_or, take, drop, length-append, length-take}
use lib.Seq.{take_all, take-append-le, take-add, take-take, drop-drop, drop-append-add, get_or-take, length-take-le}
use Rattle.std.proofs.lemmas.List.{drop-take, get_or_default, get_or_past}
use Rattle.std.proofs.lemmas.List.Folds.{list_all_more}
use Rattle.std.specs.List.{All, concat, list_all}
use Rattle.std.specs.Simd.{first_chunks}
use Rattle.lists.specs.Below.{all_below}
use Rattle.lists.proofs.Tests.{by_lt}
use Rattle.lists.proofs.Below.{all_same}
use Rattle.wire.specs.Bytes.{AreBytes, be_at}
use Rattle.symbols.specs.Table.{kind_at, name_length_at, name_at, padded, IsSymbol}
use Rattle.symbols.specs.Record.{record_rules, own_rules, HoldsName}
use Rattle.symbols.proofs.Numbers.{part_byte, part_number}
use Rattle.symbols.proofs.Records.{is_pad}

-- A SYMBOL: the bytes of record i

module _ (t : List ℕ) (i : ℕ) (r : List ℕ) (e : r ≡ take 56 (drop (56 * i) t)) where
  pub record_byte : (k : ℕ) → k < 56 → get_or r k 0 ≡ get_or t (56 * i + k) 0
  record_byte k l = ap (λ (s : List ℕ). get_or s k 0) e ∙ part_byte t (56 * i) 56 k l

  pub record_kind : get_or r 0 0 ≡ kind_at t i
  record_kind = record_byte 0 (omega arith) ∙ ap (λ (k : ℕ). get_or t k 0) (add-zero (56 * i))

  pub record_number : (n at : ℕ) → at + n ≤ 56 → be_at n r at ≡ be_at n t (56 * i + at)
  record_number n at l = ap (λ (s : List ℕ). be_at n s at) e ∙ part_number n t (56 * i) 56 at l

  name_byte : (k : ℕ) → k < 48 → get_or r (4 + k) 0 ≡ get_or t (56 * i + 4 + k) 0
  name_byte k l =
      let x : 56 * i + (4 + k) ≡ 56 * i + 4 + k = omega arith in
      record_byte (4 + k) (omega arith) ∙ ap (λ (j : ℕ). get_or t j 0) x

  -- it is padded, and keeps the rules, as that record does
  padded_same : padded r 0 ≡ padded t i
  padded_same = all_same (is_pad r 0) (is_pad t i) 48 (λ k l. rw (record_byte 1 (omega arith), name_byte k l))

  pub rules_same : own_rules r i ≡ record_rules t i
  rules_same = rw (padded_same, record_kind, record_byte 1 (omega arith), record_number 2 2 (omega arith), record_number 4 52 (omega arith))

  pub name_same : IsSymbol t i → name_at r 0 ≡ name_at t i
  name_same s =
      let n = name_length_at t i in
      let m = s.most in
      let length_same : name_length_at r 0 ≡ n = record_byte 1 (omega arith) in
      let cut : drop 4 r ≡ take 52 (drop (56 * i + 4) t) =
      ap (λ (u : List ℕ). drop 4 u) e ∙ drop-take 4 52 (drop (56 * i) t) ∙ ap (λ (u : List ℕ). take 52 u) (drop-drop 4 (56 * i) t) in
      ap₂ (λ (k : ℕ) (u : List ℕ). take k u) length_same cut ∙ take-take n 52 (drop (56 * i + 4) t) (omega arith)

  pub name_held : IsSymbol t i → HoldsName r
  name_held s =
      let n : name_length_at r 0 ≡ name_length_at t i = record_byte 1 (omega arith) in
      record {
        some = let q = s.some in omega arith;
        most = let q = s.most in omega arith;
        padding = λ k l h. name_byte k h ∙ s.padding k (omega arith) h;
      }

  pub bytes_held : AreBytes t → AreBytes r
  bytes_held b k =
      by_lt k 56
      (λ l. rw (record_byte k l) (b (56 * i + k)))
      (λ l.
      let n = length-take 56 (drop (56 * i) t) in
      rw e (rw (get_or_past (take 56 (drop (56 * i) t)) k 0 (omega arith)) (omega arith)))

-- ALL OF THEM

pub record SymbolsOf (t : List ℕ) (rs : List (List ℕ)) : Type 0 where
  pub bytes : length t ≡ 56 * length rs
  pub each : (i : ℕ) → i < length rs → get_or rs i [] ≡ take 56 (drop (56 * i) t)

-- of bytes in chunks
chunk_at : (k i : ℕ) (t : List ℕ) → i < k → get_or (first_chunks 56 k t) i [] ≡ take 56 (drop (56 * i) t)
chunk_at zero i t l = absurd (omega arith)
chunk_at (suc k) zero t l = refl
chunk_at (suc k) (suc i) t l =
    let x : 56 + 56 * i ≡ 56 * suc i = omega arith in
    chunk_at k i (drop 56 t) (omega arith) ∙ ap (λ (u : List ℕ). take 56 u) (drop-drop (56 * i) 56 t ∙ ap (λ (j : ℕ). drop j t) x)

pub chunked : (t : List ℕ) (rs : List (List ℕ)) → rs ≡ first_chunks 56 (length t / 56) t → length rs ≡ length t / 56 → length t % 56 ≡ 0 → SymbolsOf t rs
chunked t rs e n z =
    record {
      bytes = omega arith;
      each = λ i l. ap (λ (u : List (List ℕ)). get_or u i []) e ∙ chunk_at (length t / 56) i t (omega arith);
    }

concat_chunks : (k : ℕ) (t : List ℕ) → concat (first_chunks 56 k t) ≡ take (56 * k) t
concat_chunks zero t = refl
concat_chunks (suc k) t =
    let x : 56 + 56 * k ≡ 56 * suc k = omega arith in
    ap (λ (u : List ℕ). take 56 t ++ u) (concat_chunks k (drop 56 t)) ∙ sym (take-add 56 (56 * k) t) ∙ ap (λ (j : ℕ). take j t) x

pub concat_whole : (t : List ℕ) (rs : List (List ℕ)) → rs ≡ first_chunks 56 (length t / 56) t → length t % 56 ≡ 0 → concat rs ≡ t
concat_whole t rs e z = ap concat e ∙ concat_chunks (length t / 56) t ∙ take_all (56 * (length t / 56)) t (omega arith)

-- of symbols one after another
abbrev AreSymbols : List (List ℕ) → Type 0
AreSymbols rs = (k : ℕ) → k < length rs → length (get_or rs k []) ≡ 56

after : (r : List ℕ) (rs : List (List ℕ)) → AreSymbols (r ∷ rs) → AreSymbols rs
after r rs h k l = h (suc k) (omega arith)

concat_length : (rs : List (List ℕ)) → AreSymbols rs → length (concat rs) ≡ 56 * length rs
concat_length [] h = refl
concat_length (r ∷ rs) h = let a = h 0 (omega arith) in let b = concat_length rs (after r rs h) in length-append r (concat rs) ∙ omega arith

concat_at : (rs : List (List ℕ)) → AreSymbols rs → (i : ℕ) → i < length rs → get_or rs i [] ≡ take 56 (drop (56 * i) (concat rs))
concat_at [] h i l = absurd (omega arith)
concat_at (r ∷ rs) h zero l = let a : length r ≡ 56 = h 0 (omega arith) in sym (take-append-le 56 r (concat rs) (omega arith) ∙ take_all 56 r (omega arith))
concat_at (r ∷ rs) h (suc i) l =
    let a : length r ≡ 56 = h 0 (omega arith) in
    let x : length r + 56 * i ≡ 56 * suc i = omega arith in
    concat_at rs (after r rs h) i (omega arith)
    ∙ ap (λ (u : List ℕ). take 56 u) (sym (drop-append-add r (concat rs) (56 * i)) ∙ ap (λ (j : ℕ). drop j (r ++ concat rs)) x)

pub listed : (rs : List (List ℕ)) → AreSymbols rs → SymbolsOf (concat rs) rs
listed rs h = record { bytes = concat_length rs h; each = concat_at rs h }

-- what holds of each of the first i
module _ (rs : List (List ℕ)) (i : ℕ) (l : i ≤ length rs) where
  pub front : (P : List ℕ → Type 0) → ((k : ℕ) → k < i → P (get_or rs k [])) → All P (take i rs)
  front P f k d m =
      let n : length (take i rs) ≡ i = length-take-le i rs l in
      let x : get_or (take i rs) k d ≡ get_or rs k [] = get_or-take i rs k d (omega arith) ∙ get_or_default rs k d [] (omega arith) in
      rw x (f k (omega arith))

pub all_front : (p : List ℕ → Bool) (rs : List (List ℕ)) (i : ℕ) → i ≤ length rs → list_all p (take i rs) ≡ all_below (λ j. p (get_or rs j [])) i
all_front p rs zero l = refl
all_front p rs (suc i) l =
    ap (λ (k : ℕ). list_all p (take k rs)) (sym (add-one i)) ∙ list_all_more p rs i [] (omega arith)
    ∙ ap (λ (b : Bool). b && p (get_or rs i [])) (all_front p rs i (omega arith))
