-- The good state: its rules as facts one by one, and which changes keep it good.
-- Assumes nothing.
use mathlib.Core.Path.{◌≡◌, refl, sym, ap, ◌∙◌}
use mathlib.Core.Logic.{◌≢◌}
use mathlib.Core.Bool.{true, false, ◌&&◌}
use mathlib.Core.List.{List}
use Prim.Native.Nat.{ℕ, ◌%◌, ◌<◌, ◌≤◌}
use native.Mathlib.Omega.{arith}
use native.Mathlib.Decide.{ℕ_discrete}
use lib.Dec.{leb, ltb, eqb}
use lib.ListN.{length, length-set, get_or-eq_default}
use lib.Seq.{get_or-set_same, get_or-set_other}
use borrow.Author.Tests.{leb-true, le-leb, ltb-true, lt-ltb, eqb-true, eq-eqb, not-true}
use Rattle.lists.specs.Below.{all_below}
use Rattle.lists.proofs.Tests.{either, contra, and_left, and_right, and_both}
use Rattle.lists.proofs.Below.{all_at, all_of}
use Rattle.rules.specs.Regions.{start_of, aligned, in_one_region, dump_right}
use Rattle.rules.specs.States.{start_rules, piece_words, dump_rules, idle_place, context_at, context_rules, busy_with, apart, place_rules, places_rules, count_rules, good_state}
use Rattle.rules.specs.Commands.{set_context}
use Rattle.rules.specs.declared.ActiveDump.{ActiveDump}
use Rattle.rules.specs.declared.Context.{Context}
use Rattle.rules.specs.declared.Context.TheVariants.{Idle, Busy}
use Rattle.rules.specs.declared.Place.{Place}
use Rattle.rules.specs.declared.Region.{Region}
use Rattle.rules.specs.declared.State.{State}

-- ONE BUSY DUMP

pub record DumpIs (rs : List Region) (n : ℕ) (d : ActiveDump) : Type 0 where
  pub number : d.transaction ≤ 4095
  pub some : 1 ≤ d.range.words
  pub most : d.range.words ≤ 65535
  pub multiple : start_of d.range % 4 ≡ 0
  pub region : in_one_region dump_right rs n d.range ≡ true
  pub cut : d.sent % piece_words d.range ≡ 0
  pub more : d.sent < d.range.words

module _ (rs : List Region) (n : ℕ) (d : ActiveDump) where
  pub dump_out : dump_rules rs n d ≡ true → DumpIs rs n d
  unfolding dump_rules
  dump_out h =
      let t = leb d.transaction 4095 in
      let a = leb 1 d.range.words in
      let b = leb d.range.words 65535 in
      let m = aligned d.range in
      let r = in_one_region dump_right rs n d.range in
      let c = eqb (d.sent % piece_words d.range) 0 in
      let e = ltb d.sent d.range.words in
      let h5 = and_left (t && a && b && m && r && c) e h in
      let h4 = and_left (t && a && b && m && r) c h5 in
      let h3 = and_left (t && a && b && m) r h4 in
      let h2 = and_left (t && a && b) m h3 in
      let h1 = and_left (t && a) b h2 in
      record {
        number = leb-true _ _ (and_left t a h1);
        some = leb-true _ _ (and_right t a h1);
        most = leb-true _ _ (and_right (t && a) b h2);
        multiple = eqb-true _ _ (and_right (t && a && b) m h3);
        region = and_right (t && a && b && m) r h4;
        cut = eqb-true _ _ (and_right (t && a && b && m && r) c h5);
        more = ltb-true _ _ (and_right (t && a && b && m && r && c) e h);
      }

  pub dump_in : DumpIs rs n d → dump_rules rs n d ≡ true
  unfolding dump_rules
  dump_in p =
      rw (
        le-leb d.transaction 4095 p.number,
        le-leb 1 d.range.words p.some,
        le-leb d.range.words 65535 p.most,
        eq-eqb (start_of d.range % 4) 0 p.multiple,
        p.region,
        eq-eqb (d.sent % piece_words d.range) 0 p.cut,
        lt-ltb d.sent d.range.words p.more,
      )

-- TRANSACTION NUMBERS

-- no number that a is busy with is one that b is busy with
abbrev pub Apart : Context → Context → Type 0
Apart a b = (t : ℕ) → busy_with t a ≡ true → busy_with t b ≡ false

pub apart_out : (a b : Context) → apart a b ≡ true → Apart a b
apart_out Idle b h t k = absurd (contra k refl)
apart_out (Busy d) b h t k = rw (eqb-true d.transaction t k) at (not-true (busy_with d.transaction b) h)

pub apart_in : (a b : Context) → Apart a b → apart a b ≡ true
apart_in Idle b f = refl
apart_in (Busy d) b f = rw (f d.transaction (eq-eqb d.transaction d.transaction refl))

pub apart_sym : (a b : Context) → Apart a b → Apart b a
apart_sym a b f t k = either (busy_with t a) (λ h. absurd (contra k (f t h))) (λ h. h)

-- a busy context has its number
pub busy_dump : (t : ℕ) (a : Context) → busy_with t a ≡ true → (d : ActiveDump) × (a ≡ Busy d) × (d.transaction ≡ t)
busy_dump t Idle h = absurd (contra h refl)
busy_dump t (Busy d) h = (d, refl, eqb-true d.transaction t h)

-- THE FOUR PLACES

pub record PlacesAre (rs : List Region) (n : ℕ) (ps : List Place) : Type 0 where
  pub four : length ps ≡ 4
  pub each : (i : ℕ) → i < 4 → context_rules rs n (context_at ps i) ≡ true
  pub alone : (i j : ℕ) → i < 4 → j < 4 → i ≢ j → Apart (context_at ps i) (context_at ps j)

-- what a place does after a store, and what the others do
pub context_same : (ps : List Place) (i : ℕ) (a : Context) → i < length ps → context_at (set_context ps i a) i ≡ a
context_same ps i a l = ap (λ (p : Place). p.context) (get_or-set_same ps i (record { context = a }) idle_place l)

pub context_other : (ps : List Place) (i j : ℕ) (a : Context) → j ≢ i → context_at (set_context ps i a) j ≡ context_at ps j
context_other ps i j a ne = ap (λ (p : Place). p.context) (get_or-set_other ps i j (record { context = a }) idle_place ne)

pub context_past : (ps : List Place) (i : ℕ) → length ps ≤ i → context_at ps i ≡ Idle
context_past ps i l = ap (λ (p : Place). p.context) (get_or-eq_default ps idle_place l)

module _ (rs : List Region) (n : ℕ) (ps : List Place) where
  pub places_out : places_rules rs n ps ≡ true → PlacesAre rs n ps
  unfolding places_rules
  places_out h = record { four = eqb-true _ _ (and_left (eqb (length ps) 4) _ h); each = λ i l. own i (at i l); alone = two }
    where
      at : (i : ℕ) → i < 4 → place_rules rs n ps i ≡ true
      at i l = all_at (place_rules rs n ps) 4 (and_right (eqb (length ps) 4) (all_below (place_rules rs n ps) 4) h) l

      own : (i : ℕ) → place_rules rs n ps i ≡ true → context_rules rs n (context_at ps i) ≡ true
      own i k = and_left (context_rules rs n (context_at ps i)) (all_below (λ j. apart (context_at ps i) (context_at ps j)) i) k

      later : (i j : ℕ) → i < 4 → j < i → Apart (context_at ps i) (context_at ps j)
      later i j l k =
          apart_out (context_at ps i) (context_at ps j)
          (all_at (λ (x : ℕ). apart (context_at ps i) (context_at ps x)) i
          (and_right (context_rules rs n (context_at ps i)) (all_below (λ x. apart (context_at ps i) (context_at ps x)) i) (at i l)) k)

      two : (i j : ℕ) → i < 4 → j < 4 → i ≢ j → Apart (context_at ps i) (context_at ps j)
      two i j l k ne =
          either (ltb j i)
          (λ q. later i j l (ltb-true j i q))
          (λ q. apart_sym (context_at ps j) (context_at ps i) (later j i k (after q)))
        where
          after : ltb j i ≡ false → i < j
          after q = let r : i ≤ j = borrow.Author.Tests.ltb-false j i q in omega arith

  pub places_in : PlacesAre rs n ps → places_rules rs n ps ≡ true
  unfolding places_rules
  places_in p =
      and_both (eq-eqb (length ps) 4 p.four)
      (all_of (place_rules rs n ps) 4 (λ i l.
      and_both (p.each i l)
      (all_of (λ j. apart (context_at ps i) (context_at ps j)) i (λ j k.
      apart_in (context_at ps i) (context_at ps j) (p.alone i j l (omega arith) (λ e. omega arith))))))

  -- a place may change to what is by the rules and has a number that no other place has
  pub places_keep : PlacesAre rs n ps → (i : ℕ) (a : Context) → i < 4 → context_rules rs n a ≡ true
      → ((j : ℕ) → j < 4 → j ≢ i → Apart a (context_at ps j)) → PlacesAre rs n (set_context ps i a)
  places_keep p i a l ok ap' =
      record {
        four = length-set ps i (record { context = a }) ∙ p.four;
        each = λ j k.
            same_or j
            (λ e. rw (e, context_same ps i a (omega (arith, p.four))) ok)
            (λ ne. rw (context_other ps i j a ne) (p.each j k));
        alone = λ j k lj lk ne.
            same_or j
            (λ e. rw (e, context_same ps i a (omega (arith, p.four)), context_other ps i k a (λ q. ne (e ∙ sym q))) (ap' k lk (λ q. ne (e ∙ sym q))))
            (λ nj. same_or k
            (λ e. rw (e, context_same ps i a (omega (arith, p.four)), context_other ps i j a nj) (apart_sym a (context_at ps j) (ap' j lj nj)))
            (λ nk. rw (context_other ps i j a nj, context_other ps i k a nk) (p.alone j k lj lk ne)));
      }
    where
      same_or : {C : Type 0} (j : ℕ) → (j ≡ i → C) → (j ≢ i → C) → C
      same_or j f g = elim (ℕ_discrete j i) [ yes e ↦ f e | no e ↦ g e ]

-- THE STATE

pub record GoodIs (s : State) : Type 0 where
  pub rules : start_rules s.regions s.count s.pools s.unit ≡ true
  pub last : s.last ≤ 3
  pub replies : s.replies ≤ 16383
  pub values : s.values ≤ 16383
  pub packets : s.packets ≤ 16383
  pub accepted : s.accepted ≤ 65535
  pub refused : s.refused ≤ 65535
  pub places : PlacesAre s.regions s.count s.places

module _ (s : State) where
  pub good_out : good_state s ≡ true → GoodIs s
  unfolding good_state count_rules
  good_out h =
      let l = leb s.last 3 in
      let p = leb s.replies 16383 in
      let v = leb s.values 16383 in
      let d = leb s.packets 16383 in
      let a = leb s.accepted 65535 in
      let r = leb s.refused 65535 in
      let b = start_rules s.regions s.count s.pools s.unit in
      let c = places_rules s.regions s.count s.places in
      let h1 = and_left (b && (l && p && v && d && a && r)) c h in
      let h2 = and_right b (l && p && v && d && a && r) h1 in
      let h3 = and_left (l && p && v && d && a) r h2 in
      let h4 = and_left (l && p && v && d) a h3 in
      let h5 = and_left (l && p && v) d h4 in
      let h6 = and_left (l && p) v h5 in
      record {
        rules = and_left b (l && p && v && d && a && r) h1;
        last = leb-true _ _ (and_left l p h6);
        replies = leb-true _ _ (and_right l p h6);
        values = leb-true _ _ (and_right (l && p) v h5);
        packets = leb-true _ _ (and_right (l && p && v) d h4);
        accepted = leb-true _ _ (and_right (l && p && v && d) a h3);
        refused = leb-true _ _ (and_right (l && p && v && d && a) r h2);
        places = places_out s.regions s.count s.places (and_right (b && (l && p && v && d && a && r)) c h);
      }

  pub good_in : GoodIs s → good_state s ≡ true
  unfolding good_state count_rules
  good_in g =
      rw (
        g.rules,
        le-leb s.last 3 g.last,
        le-leb s.replies 16383 g.replies,
        le-leb s.values 16383 g.values,
        le-leb s.packets 16383 g.packets,
        le-leb s.accepted 65535 g.accepted,
        le-leb s.refused 65535 g.refused,
        places_in s.regions s.count s.places g.places,
      )
