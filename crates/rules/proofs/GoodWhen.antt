-- The tests of tables, pools, dumps and states hold exactly when the rules in logic do.
-- Assumes nothing.
use mathlib.Core.Path.{◌≡◌, refl, sym, ◌∙◌}
use mathlib.Core.Logic.{◌≢◌, ◌↔◌}
use mathlib.Core.Bool.{Bool, true}
use mathlib.Core.List.{List}
use Prim.Native.Nat.{ℕ, zero, suc, ◌≤◌, ◌<◌}
use native.Mathlib.Omega.{arith}
use lib.Dec.{eqb}
use borrow.Author.Tests.{le-leb, eqb-true, eqb-false, eq-eqb}
use Rattle.lists.proofs.Tests.{either, and_both}
use Rattle.lists.proofs.Below.{all_of}
use Rattle.rules.specs.Regions.{start_of, range_at, end_before, region_rules, table_rules, dump_right, in_one_region}
use Rattle.rules.specs.States.{pool_rules, start_rules, piece_words, dump_rules, context_rules, busy_with, good_state}
use Rattle.rules.specs.GoodWhen.{LiesIn, GoodRegion, GoodPool, GoodStart, GoodDump, Good}
use Rattle.rules.specs.declared.ActiveDump.{ActiveDump}
use Rattle.rules.specs.declared.Context.{Context}
use Rattle.rules.specs.declared.Context.TheVariants.{Idle, Busy}
use Rattle.rules.specs.declared.Range.{Range}
use Rattle.rules.specs.declared.Region.{Region}
use Rattle.rules.specs.declared.State.{State}
use Rattle.rules.proofs.Table.{one_out, one_in, table_count, table_region}
use Rattle.rules.proofs.Good.{Apart, busy_dump, dump_out, dump_in, good_out, good_in}
use Rattle.rules.proofs.Rules.{pool_out, start_out}

-- THE TABLE

pub region_when : (right : Region → Bool) (rs : List Region) (n : ℕ) (a : Range) → (in_one_region right rs n a ≡ true) ↔ ((i : ℕ) × LiesIn right rs n a i)
region_when right rs n a = (one_out right rs n a, λ h. one_in right rs n a h.0 h.1)

module _ (rs : List Region) (n : ℕ) where
  -- the test looks back to the end of the region before, and the rule on to the start of the next
  region_out : table_rules rs n ≡ true → (i : ℕ) → i < n → GoodRegion rs n i
  region_out h i l =
      let r = table_region rs n h i l in
      record { aligned = r.multiple; some = r.some; most = r.most; end = r.low; next = λ k. (table_region rs n h (suc i) k).after }

  begins_after : ((i : ℕ) → i < n → GoodRegion rs n i) → (i : ℕ) → i < n → end_before rs i ≤ start_of (range_at rs i)
  begins_after f zero l = omega arith
  begins_after f (suc i) l = (f i (omega arith)).next l

  region_in : ((i : ℕ) → i < n → GoodRegion rs n i) → (i : ℕ) → i < n → region_rules rs i ≡ true
  region_in f i l =
      let g = f i l in
      and_both
      (and_both (and_both (and_both (eq-eqb _ _ g.aligned) (le-leb _ _ g.some)) (le-leb _ _ g.most)) (le-leb _ _ g.end))
      (le-leb _ _ (begins_after f i l))

  table_in : 1 ≤ n → n ≤ 16 → ((i : ℕ) → i < n → GoodRegion rs n i) → table_rules rs n ≡ true
  unfolding table_rules
  table_in some most f = and_both (and_both (le-leb _ _ some) (le-leb _ _ most)) (all_of (region_rules rs) n (region_in f))

  -- POOLS AND DUMPS IN IT

  pool_when : (p : Range) → (pool_rules rs n p ≡ true) ↔ GoodPool rs n p
  pool_when p = (there, back)
    where
      there : pool_rules rs n p ≡ true → GoodPool rs n p
      there h =
          record {
            none = λ z. eqb-true _ _ (rw (eq-eqb p.words 0 z) at h);
            aligned = λ z. (pool_out rs n p h z).multiple;
            region = λ z. (region_when dump_right rs n p).0 (pool_out rs n p h z).region;
          }

      back : GoodPool rs n p → pool_rules rs n p ≡ true
      back g =
          either (eqb p.words 0)
          (λ e. rw e (eq-eqb _ _ (g.none (eqb-true _ _ e))))
          (λ e. rw e (and_both (eq-eqb _ _ (g.aligned (eqb-false _ _ e))) ((region_when dump_right rs n p).1 (g.region (eqb-false _ _ e)))))

  dump_when : (d : ActiveDump) → (dump_rules rs n d ≡ true) ↔ GoodDump rs n d
  unfolding piece_words
  dump_when d = (there, back)
    where
      there : dump_rules rs n d ≡ true → GoodDump rs n d
      there h =
          let g = dump_out rs n d h in
          record {
            number = g.number;
            some = g.some;
            most = g.most;
            aligned = g.multiple;
            region = (region_when dump_right rs n d.range).0 g.region;
            cut = g.cut;
            below = g.more;
          }

      back : GoodDump rs n d → dump_rules rs n d ≡ true
      back g =
          dump_in rs n d
          (record {
            number = g.number;
            some = g.some;
            most = g.most;
            multiple = g.aligned;
            region = (region_when dump_right rs n d.range).1 g.region;
            cut = g.cut;
            more = g.below;
          })

  -- a place is by the rules if its dump is
  context_in_lem : (a : Context) → ((d : ActiveDump) → a ≡ Busy d → GoodDump rs n d) → context_rules rs n a ≡ true
  context_in_lem Idle f = refl
  context_in_lem (Busy d) f = (dump_when d).1 (f d refl)

-- START-UP

pub start_when : (rs : List Region) (n : ℕ) (pools : List Range) (unit : ℕ) → (start_rules rs n pools unit ≡ true) ↔ GoodStart rs n pools unit
unfolding start_rules
start_when rs n pools unit = (there, back)
  where
    there : start_rules rs n pools unit ≡ true → GoodStart rs n pools unit
    there h =
        let t = start_out rs n pools unit h in
        let c = table_count rs n t.table in
        record {
          some = c.0;
          sixteen = c.1;
          regions = region_out rs n t.table;
          first = (pool_when rs n _).0 (t.pools 0 (omega arith));
          second = (pool_when rs n _).0 (t.pools 1 (omega arith));
          unit_fits = t.low;
        }

    back : GoodStart rs n pools unit → start_rules rs n pools unit ≡ true
    back g =
        and_both
        (and_both (and_both (table_in rs n g.some g.sixteen g.regions) ((pool_when rs n _).1 g.first)) ((pool_when rs n _).1 g.second))
        (le-leb _ _ g.unit_fits)

-- THE STATE

-- two contexts share no number exactly if their dumps have different ones
apart_dumps : {a b : Context} (d e : ActiveDump) → Apart a b → a ≡ Busy d → b ≡ Busy e → d.transaction ≢ e.transaction
apart_dumps d e f p q same =
    eqb-false _ _ (rw q at (f d.transaction (rw p (eq-eqb d.transaction d.transaction refl)))) (sym same)

dumps_apart : (a b : Context) → ((d e : ActiveDump) → a ≡ Busy d → b ≡ Busy e → d.transaction ≢ e.transaction) → Apart a b
dumps_apart a b f t h =
    either (busy_with t b)
    (λ k. let x = busy_dump t a h in let y = busy_dump t b k in absurd (f x.0 y.0 x.1 y.1 (x.2 ∙ sym y.2)))
    (λ k. k)

pub good_when : (s : State) → (good_state s ≡ true) ↔ Good s
good_when s = (there, back)
  where
    there : good_state s ≡ true → Good s
    there h =
        let g = good_out s h in
        record {
          start = (start_when _ _ _ _).0 g.rules;
          last = g.last;
          replies = g.replies;
          values = g.values;
          packets = g.packets;
          accepted = g.accepted;
          refused = g.refused;
          four = g.places.four;
          dumps = λ i d l e. (dump_when _ _ d).0 (rw e at (g.places.each i l));
          apart = λ i j d e l k ne. apart_dumps d e (g.places.alone i j l k ne);
        }

    back : Good s → good_state s ≡ true
    back g =
        good_in s
        (record {
          rules = (start_when _ _ _ _).1 g.start;
          last = g.last;
          replies = g.replies;
          values = g.values;
          packets = g.packets;
          accepted = g.accepted;
          refused = g.refused;
          places =
              record {
                four = g.four;
                each = λ i l. context_in_lem _ _ _ (λ d e. g.dumps i d l e);
                alone = λ i j l k ne. dumps_apart _ _ (λ d e. g.apart i j d e l k ne);
              };
        })
