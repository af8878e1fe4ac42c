-- Memory, tables and places in plain words.
-- Assumes nothing.
use mathlib.Core.Path.{◌≡◌, refl, sym, ap, ◌∙◌}
use mathlib.Core.Logic.{◌≢◌, ◌↔◌}
use mathlib.Core.Bool.{Bool, true}
use mathlib.Core.List.{List}
use Prim.Native.Nat.{ℕ, zero, suc, ◌+◌, ◌*◌, ◌-◌, ◌/◌, ◌%◌, ◌≤◌, ◌<◌}
use native.Mathlib.Omega.{arith}
use lib.ListN.{get_or, drop}
use lib.Seq.{get_or-take, get_or-drop}
use borrow.Author.Tests.{eqb-true, eq-eqb}
use Rattle.lists.proofs.Below.{none_of, first_none, sum_more}
use Rattle.lists.proofs.Tests.{either, contra}
use Rattle.rules.specs.Regions.{start_of, region_at, range_at, table_rules, any_right, dump_right, holds, words_below, image_length, region_of, image_index, words_of}
use Rattle.rules.specs.States.{pool_at, context_at, busy_with, good_state}
use Rattle.rules.specs.GoodWhen.{LiesIn, StartsIn, DumpableIn, Lies, GoodPool, Good}
use Rattle.rules.specs.PlainWords.{WordsInImage, ImageFits, LiesDumpable, PlainWords}
use Rattle.rules.specs.declared.ActiveDump.{ActiveDump}
use Rattle.rules.specs.declared.Context.{Context}
use Rattle.rules.specs.declared.Context.TheVariants.{Idle, Busy}
use Rattle.rules.specs.declared.Range.{Range}
use Rattle.rules.specs.declared.Region.{Region}
use Rattle.rules.specs.declared.State.{State}
use Rattle.rules.proofs.Table.{holds_out, one_in, region_holds, holds_unique, words_length}
use Rattle.rules.proofs.GoodWhen.{good_when}
use Rattle.rules.proofs.Located.{good_table, words_sum, lies_in, lies_index}

busy_when : (t : ℕ) (c : Context) → (busy_with t c ≡ true) ↔ ((d : ActiveDump) × (c ≡ Busy d) × (d.transaction ≡ t))
busy_when t Idle = (λ h. absurd (contra h refl), λ h. ap (busy_with t) h.1 ∙ eq-eqb _ _ h.2)
busy_when t (Busy d) = (λ h. (d, refl, eqb-true _ _ h), λ h. ap (busy_with t) h.1 ∙ eq-eqb _ _ h.2)

pub words_in_image : (s : State) (image : List ℕ) (a : Range) (i offset : ℕ) → ImageFits s image → 1 ≤ a.words → Lies s.regions s.count a i offset
    → WordsInImage s.regions a i offset image (words_of s.regions s.count a image)
unfolding words_of
words_in_image s image a i offset fits one lies =
    let rs = s.regions in
    let n = s.count in
    let first = (image_index rs n a).0 in
    let e = lies_index rs n a (good_table s fits.good) one i offset lies in
    record {
      count = words_length rs n a image (one_in any_right rs n a i (lies_in rs n a i offset lies)) (fits.as_long ∙ sym (words_sum rs n));
      word = λ k l. get_or-take a.words (drop first image) k 0 l ∙ get_or-drop first image k 0 ∙ ap (λ (x : ℕ). get_or image (x + k) 0) e;
    }

more_words : (rs : List Region) (n : ℕ) → image_length rs (n + 1) ≡ image_length rs n + (range_at rs n).words
unfolding words_below
more_words rs n = sum_more (λ (i : ℕ). (range_at rs i).words) n

none_words : (rs : List Region) → image_length rs 0 ≡ 0
unfolding words_below
none_words rs = refl

each_word_in : (right : Region → Bool) (rs : List Region) (n : ℕ) (a : Range) (i : ℕ) → 1 ≤ a.words
    → LiesIn right rs n a i
    ↔ (((k : ℕ) → k < a.words → StartsIn rs n (record { start = record { 0 = start_of a + 4 * k }; words = 1 }) i) × (right (region_at rs i) ≡ true))
each_word_in right rs n a i one = (
  λ l. (λ k m. let f = l.from in let t = l.to in record { in_use = l.in_use; from = omega arith; word = omega arith }, l.allowed),
  λ (w, r).
      let first = w 0 one in
      let last = w (a.words - 1) (omega arith) in
      let f = first.from in
      let t = last.word in
      record { in_use = first.in_use; from = omega arith; to = omega arith; allowed = r },
)

lies_both : (right : Region → Bool) (rs : List Region) (n : ℕ) (a : Range) (i : ℕ) → start_of a % 4 ≡ 0 → start_of (range_at rs i) % 4 ≡ 0
    → LiesIn right rs n a i ↔ ((offset : ℕ) × Lies rs n a i offset × (right (region_at rs i) ≡ true))
lies_both right rs n a i e m = (
  λ l. (
    (start_of a - start_of (range_at rs i)) / 4,
    (let f = l.from in let t = l.to in record { in_use = l.in_use; from = omega arith; to = omega arith }),
    l.allowed,
  ),
  λ h. let f = h.1.from in let t = h.1.to in record { in_use = h.1.in_use; from = omega arith; to = omega arith; allowed = h.2 },
)

starts_both : (rs : List Region) (n : ℕ) (a : Range) (i : ℕ) → start_of a % 4 ≡ 0 → start_of (range_at rs i) % 4 ≡ 0
    → StartsIn rs n a i ↔ ((k : ℕ) × (i < n) × (k < (range_at rs i).words) × (start_of a ≡ start_of (range_at rs i) + 4 * k))
starts_both rs n a i e m = (
  λ h. let f = h.from in let t = h.word in ((start_of a - start_of (range_at rs i)) / 4, h.in_use, omega arith, omega arith),
  λ (k, l, t, f). record { in_use = l; from = omega arith; word = omega arith },
)

found_there : (rs : List Region) (n : ℕ) (a : Range) (i : ℕ) → table_rules rs n ≡ true → 1 ≤ a.words → LiesIn any_right rs n a i → region_of rs n a ≡ i
found_there rs n a i table one l = holds_unique rs n table a (region_of rs n a) i one (region_holds rs n a (one_in any_right rs n a i l)) l

found_nowhere : (rs : List Region) (n : ℕ) (a : Range) → ((i : ℕ) → LiesIn any_right rs n a i → ⊥) → region_of rs n a ≡ n
unfolding region_of
found_nowhere rs n a nowhere =
    first_none (holds any_right rs a) n
    (none_of (holds any_right rs a) n (λ i l. either (holds any_right rs a i) (λ h. absurd (nowhere i (holds_out any_right rs n a i l h))) (λ h. h)))

module _ (s : State) (g : good_state s ≡ true) where
  good : Good s
  good = (good_when s).0 g

  dumpable : (a : Range) → start_of a % 4 ≡ 0 → DumpableIn s.regions s.count a → LiesDumpable s a
  dumpable a e l =
      let k = (lies_both dump_right s.regions s.count a l.0 e (good.start.regions l.0 l.1.in_use).aligned).0 l.1 in
      (l.0, k.0, k.1, k.2)

  pool_good : (pool : ℕ) → pool ≤ 1 → GoodPool s.regions s.count (pool_at s.pools pool)
  pool_good zero l = good.start.first
  pool_good (suc zero) l = good.start.second
  pool_good (suc (suc k)) l = absurd (omega arith)

  pool_there : (pool : ℕ) → pool ≤ 1 → 1 ≤ (pool_at s.pools pool).words → LiesDumpable s (pool_at s.pools pool)
  pool_there pool l one =
      let ne : (pool_at s.pools pool).words ≢ 0 = (λ z. absurd (omega arith)) in
      let p = pool_good pool l in
      dumpable (pool_at s.pools pool) (p.aligned ne) (p.region ne)

  dump_there : (i : ℕ) (d : ActiveDump) → i < 4 → context_at s.places i ≡ Busy d → LiesDumpable s d.range
  dump_there i d l e = let h = good.dumps i d l e in dumpable d.range h.aligned h.region

pub plain_words : PlainWords
plain_words =
    record {
      range = λ a. (refl, refl);
      region = λ rs i. (refl, refl);
      pool = λ pools i. refl;
      place = λ places i. refl;
      busy = busy_when;
      image_length_lem = words_sum;
      image_none = none_words;
      image_more = more_words;
      region_first = λ rs i. sym (words_sum rs i);
      each_word = each_word_in;
      lies = λ rs n a i offset. (λ l. (l.in_use, l.from, l.to), λ (u, f, t). record { in_use = u; from = f; to = t });
      lies_when = lies_both;
      first = λ a. refl;
      starts_when = starts_both;
      region_of_lem = found_there;
      region_none = found_nowhere;
      pool_lies = λ s pool g. pool_there s g pool;
      no_pool = λ s pool g l. (pool_good s g pool l).none;
      dump_lies = λ s i d g. dump_there s g i d;
      words = words_in_image;
      pool_words_lem = λ s image pool i offset. words_in_image s image _ i offset;
    }
