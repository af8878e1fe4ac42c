-- What the answers of the table's test and of the lookup say to a caller.
-- Assumes nothing.
use mathlib.Core.Path.{◌≡◌, refl, sym, ap, ◌∙◌}
use mathlib.Core.Logic.{◌≢◌}
use mathlib.Core.Bool.{Bool, true, false, cond}
use mathlib.Core.List.{List}
use Prim.Native.Nat.{ℕ, min, ◌≤◌}
use native.Mathlib.Nat.{min-eq_left}
use native.Mathlib.Omega.{arith}
use lib.Dec.{leb, ltb}
use borrow.Author.Tests.{leb-true, le-leb, lt-ltb}
use Rattle.lists.proofs.Tests.{either, contra}
use Rattle.lists.proofs.Below.{sum_part}
use Rattle.rules.specs.Regions.{end_of, region_at, range_at, table_rules, any_right, dump_right, in_one_region, first_of, starts_inside, words_below, image_length, region_of, image_index}
use Rattle.rules.specs.GoodWhen.{LiesIn, StartsIn}
use Rattle.rules.proofs.Located.{words_sum}
use Rattle.rules.proofs.Table.{table_count, table_region, region_holds, holds_unique, one_out, one_in, one_any, holds_any, starts_out, starts_in, starts_there}
use Rattle.rules.specs.declared.Range.{Range}
use Rattle.rules.specs.declared.Region.{Region}
use Rattle.rules.specs.declared.WordIndex.{WordIndex}
use Rattle.regions.specs.Halving.{find_by_halving}
use Rattle.regions.specs.Lookup.{table_words, spot_in, found_in, find_region, can_dump, FoundWhen, word_index, found_index, IndexWhen}
use Rattle.regions.specs.declared.Miss.{Miss}
use Rattle.regions.specs.declared.Miss.TheVariants.{StartsOutside, EndsOutside}
use Rattle.regions.specs.declared.Spot.{Spot}
use Rattle.std.specs.Prelude.{Result, Ok, Err}
use Rattle.regions.proofs.InOrder.{right_in_order}

-- THE TABLE'S TEST

module _ (rs : List Region) (n : ℕ) where
  -- a table by the rules has at least one word, so that the answer says whether it is one
  pub some_words : table_rules rs n ≡ true → 1 ≤ image_length rs n
  unfolding words_below
  some_words e =
      let c = table_count rs n e in
      let first = table_region rs n e 0 c.0 in
      let s = sum_part (λ k. (range_at rs k).words) n {k = 0} c.0 in
      omega arith

  -- a test that no other table passes, and its answer: the words of the image, or 0
  module _ (test : Bool) (rules : test ≡ true → table_rules rs n ≡ true) (w : ℕ) (e : w ≡ cond test (image_length rs n) 0) where
    pub words_none : w ≡ 0 → test ≡ false
    words_none z =
        either test
        (λ t. let k = some_words (rules t) in let i : w ≡ image_length rs n = e ∙ rw t in absurd (omega arith))
        (λ t. t)

    pub words_some : w ≢ 0 → (test ≡ true) × (w ≡ image_length rs n)
    words_some s = either test (λ t. (t, e ∙ rw t)) (λ t. absurd (s (e ∙ rw t)))

  pub table_words_none : table_words rs n ≡ 0 → table_rules rs n ≡ false
  unfolding table_words
  table_words_none z = words_none (table_rules rs n) (λ t. t) (table_words rs n) refl z

  pub table_words_some : table_words rs n ≢ 0 → (table_rules rs n ≡ true) × (table_words rs n ≡ image_length rs n)
  unfolding table_words
  table_words_some s = words_some (table_rules rs n) (λ t. t) (table_words rs n) refl s

-- THE LOOKUP, in a table by the rules

module _ (rs : List Region) (n : ℕ) (a : Range) (rules : table_rules rs n ≡ true) where
  -- no two regions hold the range's first word
  one_start : (i j : ℕ) → StartsIn rs n a i → StartsIn rs n a j → i ≡ j
  one_start i j h k = holds_unique rs n rules (first_of a) i j (omega arith) (starts_in rs n a i h) (starts_in rs n a j k)

  -- a region that holds it is the one found, and where none does none is
  found_there : (i : ℕ) → StartsIn rs n a i → find_region rs n a ≡ found_in rs a i
  unfolding find_region
  found_there i h =
      let e = one_in any_right rs n (first_of a) i (starts_in rs n a i h) in
      let k : region_of rs n (first_of a) ≡ i =
      one_start (region_of rs n (first_of a)) i (starts_out rs n a (region_of rs n (first_of a)) (region_holds rs n (first_of a) e)) h in
      rw (e, k)

  found_nowhere : starts_inside rs n a ≡ false → find_region rs n a ≡ Err StartsOutside
  unfolding find_region
  found_nowhere h = rw h

  -- the region that holds its first word, or none does
  start_or_none : {P : Type 0} → ((i : ℕ) → StartsIn rs n a i → P) → (starts_inside rs n a ≡ false → P) → P
  start_or_none f g =
      either (starts_inside rs n a)
      (λ h. let r = one_out any_right rs n (first_of a) h in f r.0 (starts_out rs n a r.0 r.1))
      g

  -- it holds the range whole exactly if the range ends by its end
  held : (i : ℕ) → StartsIn rs n a i → leb (end_of a) (end_of (range_at rs i)) ≡ true → LiesIn any_right rs n a i
  held i h l = record { in_use = h.in_use; from = h.from; to = leb-true _ _ l; allowed = refl }

  not_held : (i : ℕ) → leb (end_of a) (end_of (range_at rs i)) ≡ false → LiesIn any_right rs n a i → ⊥
  not_held i l h = contra (le-leb _ _ h.to) l

  when_whole : (i : ℕ) → StartsIn rs n a i → LiesIn any_right rs n a i → FoundWhen rs n a (Ok (spot_in rs i))
  when_whole i h l =
      record {
        outside = (λ e. absurd (omega arith), λ f. absurd (f i h));
        runs_out_lem = (λ e. absurd (omega arith), λ (j, k, m). absurd (m (rw (one_start j i k h) l)));
        found = (λ e. (i, h, l), λ q. refl);
        spot = λ j k m. ap (λ x. Ok (spot_in rs x)) (one_start i j h k);
      }

  when_short : (i : ℕ) → StartsIn rs n a i → (LiesIn any_right rs n a i → ⊥) → FoundWhen rs n a (Err EndsOutside)
  when_short i h l =
      record {
        outside = (λ e. absurd (omega arith), λ f. absurd (f i h));
        runs_out_lem = (λ e. (i, h, l), λ q. refl);
        found = (λ e. absurd (omega arith), λ (j, k, m). absurd (l (rw (one_start i j h k) m)));
        spot = λ j k m. absurd (l (rw (one_start i j h k) m));
      }

  when_none : ((i : ℕ) → StartsIn rs n a i → ⊥) → FoundWhen rs n a (Err StartsOutside)
  when_none f =
      record {
        outside = (λ e. f, λ g. refl);
        runs_out_lem = (λ e. absurd (omega arith), λ (j, k, m). absurd (f j k));
        found = (λ e. absurd (omega arith), λ (j, k, m). absurd (f j k));
        spot = λ j k m. absurd (f j k);
      }

  found_when : FoundWhen rs n a (find_region rs n a)
  found_when =
      start_or_none
      (λ i h.
      rw (found_there i h)
      (either (leb (end_of a) (end_of (range_at rs i)))
      (λ l. rw l (when_whole i h (held i h l)))
      (λ l. rw l (when_short i h (not_held i l)))))
      (λ q. rw (found_nowhere q) (when_none (λ i h. contra (one_in any_right rs n (first_of a) i (starts_in rs n a i h)) q)))

  -- by the region that holds the range whole, if it has a word or more
  pub found_whole : 1 ≤ a.words
      → find_region rs n a
      ≡ cond (in_one_region any_right rs n a) (Ok (spot_in rs (region_of rs n a))) (cond (starts_inside rs n a) (Err EndsOutside) (Err StartsOutside))
  found_whole one =
      either (in_one_region any_right rs n a)
      (λ h. let r = region_holds rs n a h in found_there _ (starts_there rs n a one _ r) ∙ rw (h, le-leb _ _ r.to))
      (λ h. start_or_none
      (λ i s.
      let q = one_in any_right rs n (first_of a) i (starts_in rs n a i s) in
      found_there i s
      ∙ either (leb (end_of a) (end_of (range_at rs i)))
      (λ l. absurd (contra (one_in any_right rs n a i (held i s l)) h))
      (λ l. rw (h, q, l)))
      (λ q. found_nowhere q ∙ rw (h, q)))

module _ (rs : List Region) (n : ℕ) (a : Range) where
  -- the search by halving finds what the table says
  pub found_in_order : {f : Result Spot Miss} → f ≡ find_by_halving rs (min n 16) a → table_rules rs n ≡ true → f ≡ find_region rs n a
  found_in_order e rules = rw (min-eq_left {n = n} {m = 16} (table_count rs n rules).1) at e ∙ (right_in_order rs n a rules).1

  -- and each number exactly in its case
  pub found_exactly : {f : Result Spot Miss} → f ≡ find_by_halving rs (min n 16) a → table_rules rs n ≡ true → FoundWhen rs n a f
  found_exactly e rules = rw (found_in_order e rules) (found_when rs n a rules)

  -- a range of a table by the rules lies in one region at most, so the right of the region found decides
  pub can_dump_found : table_rules rs n ≡ true → 1 ≤ a.words → can_dump (find_region rs n a) ≡ in_one_region dump_right rs n a
  can_dump_found rules one =
      rw (found_whole rs n a rules one)
      (either (in_one_region any_right rs n a)
      (λ h. rw h (here h))
      (λ h. rw h (missed ∙ sym (either (in_one_region dump_right rs n a) (λ d. absurd (contra (one_any dump_right rs n a d) h)) (λ d. d)))))
    where
      missed : can_dump (cond (starts_inside rs n a) (Err EndsOutside) (Err StartsOutside)) ≡ false
      missed = either (starts_inside rs n a) (λ q. rw q) (λ q. rw q)

      here : in_one_region any_right rs n a ≡ true → (region_at rs (region_of rs n a)).dump ≡ in_one_region dump_right rs n a
      here h =
          let r = region_holds rs n a h in
          either (region_at rs (region_of rs n a)).dump
          (λ d. d ∙ sym (one_in dump_right rs n a (region_of rs n a) (record { in_use = r.in_use; from = r.from; to = r.to; allowed = d })))
          (λ d. either (in_one_region dump_right rs n a)
          (λ o. let q = one_out dump_right rs n a o in
          let k : q.0 ≡ region_of rs n a = holds_unique rs n rules a q.0 (region_of rs n a) one (holds_any dump_right rs n a q.0 q.1) r in
          let t : (region_at rs (region_of rs n a)).dump ≡ true = sym (ap (λ i. (region_at rs i).dump) k) ∙ q.1.allowed in
          absurd (contra t d))
          (λ o. d ∙ sym o))

  pub can_dump_of : (f : Result Spot Miss) → f ≡ find_by_halving rs (min n 16) a → (b : Bool) → b ≡ can_dump f → table_rules rs n ≡ true → 1 ≤ a.words
      → b ≡ in_one_region dump_right rs n a
  can_dump_of f ef b eb rules one = eb ∙ rw (found_in_order ef rules) (can_dump_found rules one)

-- THE INDEX of a range that was found

module _ (rs : List Region) (a : Range) where
  -- in a table by the rules it is where paper 01 has it
  pub index_whole : (n : ℕ) → table_rules rs n ≡ true → 1 ≤ a.words → in_one_region any_right rs n a ≡ true → found_index rs a (find_region rs n a) ≡ image_index rs n a
  unfolding image_index
  index_whole n rules one h =
      let low = (table_count rs n rules).1 in
      let used = (region_holds rs n a h).in_use in
      let there : ltb (region_of rs n a) 16 ≡ true = lt-ltb (region_of rs n a) 16 (omega arith) in
      rw (found_whole rs n a rules one, h, there)

  -- and what is promised of it
  pub indexed : (k : ℕ) (w : WordIndex) → w ≡ word_index rs k a → (w ≡ word_index rs k a) × ((n : ℕ) → table_rules rs n ≡ true → IndexWhen rs n k a w)
  indexed k w e = (e, there)
    where
      there : (n : ℕ) → table_rules rs n ≡ true → IndexWhen rs n k a w
      there n rules l =
          let low = (table_count rs n rules).1 in
          let used = l.in_use in
          ap (λ (x : WordIndex). x.0) e ∙ rw (lt-ltb k 16 (omega arith), words_sum rs k)
