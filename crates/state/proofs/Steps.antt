-- The steps of start-up and of the good state's test give what the definitions give.
-- Assumes nothing.
use Rattle.std.specs.Prelude.{Ok, Err}
use mathlib.Core.Path.{◌≡◌, refl, sym, ◌∙◌}
use mathlib.Core.Bool.{Bool, true, false, ◌&&◌, not, cond}
use mathlib.Core.List.{List}
use Prim.Native.Nat.{ℕ, suc, ◌+◌, ◌-◌, ◌≤◌, ◌<◌}
use native.Mathlib.Numerals.{add-one}
use native.Mathlib.Omega.{arith}
use lib.Dec.{leb, eqb}
use lib.ListN.{length, set, take, replicate}
use lib.Seq.{set_at, take-suc, length-take-le, append_snoc}
use borrow.Author.Tests.{not-true, not-false, leb-true}
use Rattle.lists.proofs.Tests.{either, contra, and_left}
use Rattle.lists.specs.Below.{all_below}
use Rattle.lists.proofs.Below.{all_of, all_at}
use Rattle.rules.specs.Regions.{no_region, region_at, aligned, dump_right, in_one_region, table_rules, image_length}
use Rattle.rules.specs.States.{pool_at, pool_rules, start_rules, entries_used, fresh_state, no_state, start_up, dump_rules, context_at, apart, place_rules, places_rules, count_rules, good_state}
use Rattle.rules.specs.declared.ActiveDump.{ActiveDump}
use Rattle.rules.specs.declared.Context.TheVariants.{Idle, Busy}
use Rattle.rules.specs.declared.Place.{Place}
use Rattle.rules.specs.declared.Range.{Range}
use Rattle.rules.specs.declared.Refusal.TheVariants.{BadTable}
use Rattle.rules.specs.declared.Region.{Region}
use Rattle.rules.specs.declared.State.{State}
use Rattle.places.specs.Turns.{dump_fields, first_within}
use Rattle.places.proofs.Answers.{apart_before}

-- WHAT START-UP TESTS

-- the test of start-up with the table's test apart
start_parts : (rs : List Region) (n : ℕ) (ps : List Range) (unit : ℕ)
    → start_rules rs n ps unit ≡ (table_rules rs n && (pool_rules rs n (pool_at ps 0) && pool_rules rs n (pool_at ps 1) && leb unit 15))
unfolding start_rules
start_parts rs n ps unit = either (table_rules rs n) (λ h. rw h) (λ h. rw h)

module _ (rs : List Region) (n : ℕ) (ps : List Range) (unit : ℕ) where
  pub start_table : start_rules rs n ps unit ≡ true → table_rules rs n ≡ true
  start_table h = and_left (table_rules rs n) _ (sym (start_parts rs n ps unit) ∙ h)

  -- a table that breaks a rule
  pub start_no_table : table_rules rs n ≡ false → 0 ≡ cond (start_rules rs n ps unit) (image_length rs n) 0
  start_no_table h = rw (start_parts rs n ps unit, h)

  -- a table by the rules, with its pools and its unit
  module _ (table : table_rules rs n ≡ true) (p q : Bool) (ep : table_rules rs n ≡ true → p ≡ pool_rules rs n (pool_at ps 0))
      (eq : table_rules rs n ≡ true → q ≡ pool_rules rs n (pool_at ps 1)) where
    start_rest : start_rules rs n ps unit ≡ (p && q && leb unit 15)
    start_rest = rw (start_parts rs n ps unit, table, ep table, eq table)

    pub start_broken : not (p && q && leb unit 15) ≡ true → 0 ≡ cond (start_rules rs n ps unit) (image_length rs n) 0
    start_broken h = rw (start_rest, not-true (p && q && leb unit 15) h)

    pub start_kept : not (p && q && leb unit 15) ≡ false → image_length rs n ≡ cond (start_rules rs n ps unit) (image_length rs n) 0
    start_kept h = rw (start_rest, not-false (p && q && leb unit 15) h)

-- A DUMP: the code tests the region last

moved : (x r e f : Bool) → (x && e && f && r) ≡ (x && r && e && f)
moved false r e f = refl
moved true true true true = refl
moved true true true false = refl
moved true true false f = refl
moved true false true true = refl
moved true false true false = refl
moved true false false f = refl

-- where the fields are by the rules the range has a word, so that the region that holds it decides
pub dump_tested : (rs : List Region) (n : ℕ) (d : ActiveDump) (fields dump : Bool) → fields ≡ dump_fields d
    → (1 ≤ d.range.words → dump ≡ in_one_region dump_right rs n d.range) → (fields && dump) ≡ dump_rules rs n d
unfolding dump_fields dump_rules
dump_tested rs n d fields dump ef ed =
    either (leb 1 d.range.words)
    (λ h. rw (ef, ed (leb-true 1 d.range.words h))
    (moved (leb d.transaction 4095 && leb 1 d.range.words && leb d.range.words 65535 && aligned d.range) _ _ _))
    (λ h. rw (ef, h) (either (leb d.transaction 4095) (λ t. rw t) (λ t. rw t)))

-- A PLACE

-- one that breaks a rule
pub some_not : (p : ℕ → Bool) (n : ℕ) {i : ℕ} → i < n → p i ≡ false → false ≡ all_below p n
some_not p n l h = either (all_below p n) (λ e. absurd (contra (all_at p n e l) h)) (λ e. sym e)

module _ (rs : List Region) (n : ℕ) (ps : List Place) (i : ℕ) where
  pub place_idle : context_at ps i ≡ Idle → true ≡ place_rules rs n ps i
  place_idle e = rw e (sym (all_of (λ j. apart Idle (context_at ps j)) i (λ j l. refl)))

  pub place_busy : (d : ActiveDump) → context_at ps i ≡ Busy d → (b : Bool) → b ≡ dump_rules rs n d → (k : ℕ) → k ≡ first_within ps d.transaction i
      → (b && eqb k i) ≡ place_rules rs n ps i
  place_busy d e b eb k ek = rw (e, eb, ek, apart_before ps d i)

-- THE GOOD STATE

good_parts : (s : State)
    → good_state s ≡ (start_rules s.regions s.count s.pools s.unit && (count_rules s && places_rules s.regions s.count s.places))
unfolding good_state
good_parts s = either (start_rules s.regions s.count s.pools s.unit) (λ h. rw h) (λ h. rw h)

module _ (s : State) where
  pub good_start : good_state s ≡ true → start_rules s.regions s.count s.pools s.unit ≡ true
  good_start h = and_left (start_rules s.regions s.count s.pools s.unit) _ (sym (good_parts s) ∙ h)

  pub good_no_start : start_rules s.regions s.count s.pools s.unit ≡ false
      → 0 ≡ cond (good_state s) (image_length s.regions s.count) 0
  good_no_start h = rw (good_parts s, h)

  module _ (start : start_rules s.regions s.count s.pools s.unit ≡ true) (b c : Bool) (eb : b ≡ count_rules s)
      (ec : table_rules s.regions s.count ≡ true → c ≡ places_rules s.regions s.count s.places) where
    good_rest : good_state s ≡ (b && c)
    good_rest = rw (good_parts s, start, eb, ec (start_table s.regions s.count s.pools s.unit start))

    pub good_broken : not (b && c) ≡ true → 0 ≡ cond (good_state s) (image_length s.regions s.count) 0
    good_broken h = rw (good_rest, not-true (b && c) h)

    pub good_kept : not (b && c) ≡ false → image_length s.regions s.count ≡ cond (good_state s) (image_length s.regions s.count) 0
    good_kept h = rw (good_rest, not-false (b && c) h)

-- START-UP

-- the loop that copies the entries in use
module _ (rs : List Region) where
  pub used_none : replicate 16 no_region ≡ entries_used rs 0
  unfolding entries_used
  used_none = refl

  pub used_more : (i : ℕ) → length rs ≡ 16 → i < 16 → set (entries_used rs i) i (region_at rs i) ≡ entries_used rs (i + 1)
  unfolding entries_used
  used_more i l h =
      let e : 16 - i ≡ suc (16 - (i + 1)) = omega arith in
      rw (
        e,
        set_at (take i rs) no_region (replicate (16 - (i + 1)) no_region) (region_at rs i) i (length-take-le i rs (omega arith)),
        add-one,
        take-suc rs i no_region (omega arith),
        append_snoc,
      )

module _ (rs : List Region) (n : ℕ) (ps : List Range) (unit : ℕ) where
  pub start_refused : start_rules rs n ps unit ≡ false → (s : State) → s ≡ no_state → record { verdict = Err BadTable; state = s } ≡ start_up rs n ps unit
  unfolding start_up
  start_refused h s es = rw (h, es)

  pub start_accepted : start_rules rs n ps unit ≡ true → (used : List Region) → used ≡ entries_used rs n → (s : State) → s ≡ fresh_state used n ps unit
      → record { verdict = (Ok tt); state = s } ≡ start_up rs n ps unit
  unfolding start_up
  start_accepted h used eu s es = rw (h, es, eu)
