-- The rows of a command and of a slot apply exactly in the cases of the table of result numbers in logic.
-- Assumes nothing.
use Rattle.std.specs.Prelude.{Some}
use mathlib.Core.Path.{◌≡◌, refl, ap}
use mathlib.Core.Logic.{◌≢◌, ◌↔◌}
use mathlib.Core.Bool.{Bool, true, false, ◌&&◌, ◌||◌, not}
use mathlib.Core.List.{List, [], ◌∷◌}
use Prim.Native.Nat.{ℕ, ◌%◌, ◌≤◌, ◌<◌}
use native.Mathlib.Omega.{arith}
use lib.Dec.{leb, ltb, eqb}
use borrow.Author.Tests.{ltb-false, le-ltb, leb-true, le-leb, eqb-true, eqb-false, eq-eqb, ne_eqb, not-true, not-false}
use Rattle.lists.proofs.Tests.{either, contra, and_left, and_right, and_both, or_left}
use Rattle.lists.proofs.Below.{any_of, any_at, none_of, none_at}
use Rattle.wire.specs.ByByte.{byte, two, four}
use Rattle.wire.proofs.ByByte.{at_two, at_four}
use Rattle.symbols.specs.Table.{has_name, value_of, IsTable, Named}
use Rattle.rules.specs.Regions.{any_right, load_right, dump_right, in_one_region, first_of, starts_inside, runs_out}
use Rattle.rules.specs.GoodWhen.{LiesIn, StartsIn}
use Rattle.rules.specs.Packets.{function_code_of, well_formed, apid_of, decode, name_in, field_rules, zero_rules, command_transaction}
use Rattle.rules.specs.Pools.{Block, Tiles, blocks_of, is_damaged}
use Rattle.rules.specs.Results.{Row, lent_rows}
use Rattle.rules.specs.Values.{address_fits, address_of, Reached}
use Rattle.rules.specs.Commands.{CommandArgs, task, is_unknown, wrong_length, names_symbol, is_idle, any_with, any_idle, command_rows}
use Rattle.rules.specs.Slots.{SlotArgs, slot_rows}
use Rattle.rules.specs.Cases.{applies, one_of, range_of, LayoutCases, NumberFree, NumberBusy, PlaceFree, DumpCases, CancelCases, LoadCases, PoolCases, ValueCases, ByNameCases, CommandCases, SlotCases}
use Rattle.rules.specs.declared.Command.{Command}
use Rattle.rules.specs.declared.Command.TheVariants.{Dump, Cancel, Load, PoolStatistics, SymbolValue, DumpSymbol}
use Rattle.rules.specs.declared.Range.{Range}
use Rattle.rules.specs.declared.Region.{Region}
use Rattle.rules.specs.declared.Task.TheVariants.{DumpRange}
use Rattle.rules.specs.declared.State.{State}
use Rattle.rules.proofs.Table.{one_out, one_in, starts_out, starts_in, starts_whole}
use Rattle.rules.proofs.Pools.{blocks_tiles, tiles_blocks}
use Rattle.rules.proofs.Round.{any_busy_out, any_busy_in}
use Rattle.rules.proofs.Passed.{whole_passed, undamaged}
use Rattle.rules.proofs.Allowed.{formed_out, formed_in, decode_dump, decode_cancel, decode_load, decode_pool, decode_value, decode_by_name, idle_out, idle_at, number_at}
use Rattle.symbols.proofs.Logic.{table_when, resolves_when}
use Rattle.rules.proofs.Asks.{task_is, range_reached}
use Rattle.rules.proofs.Offsets.{reached_is, reached_fits, fits_reached, offset_fits}
use Rattle.rules.proofs.GoodWhen.{region_when}

-- ONE ROW: of the rows of a call only one has the number, so that its test alone decides

pub row_passes : {P : Type 0} (b : Bool) → (b ≡ false) ↔ P → ((b || false) ≡ false) ↔ P
row_passes b w = (λ h. w.0 (or_left b false h), λ p. let e = w.1 p in rw e)

-- a row whose test is that a rule fails
fails_when : {P : Type 0} (b : Bool) → (b ≡ true) ↔ P → (not b ≡ false) ↔ P
fails_when b w = (λ h. w.0 (not-false b h), λ p. ap not (w.1 p))

pub rule_passes : {P : Type 0} (b : Bool) → (b ≡ true) ↔ P → ((not b || false) ≡ false) ↔ P
rule_passes b w = row_passes (not b) (fails_when b w)

-- TESTS AND WHAT THEY SAY

pub eqb_when : (x y : ℕ) → (eqb x y ≡ true) ↔ (x ≡ y)
eqb_when x y = (eqb-true x y, eq-eqb x y)

pub ltb_when : (x y : ℕ) → (ltb x y ≡ false) ↔ (y ≤ x)
ltb_when x y = (ltb-false x y, le-ltb x y)

pub leb_when : (x y : ℕ) → (leb x y ≡ true) ↔ (x ≤ y)
leb_when x y = (leb-true x y, le-leb x y)

pub and_when : {P Q : Type 0} (a b : Bool) → (a ≡ true) ↔ P → (b ≡ true) ↔ Q → ((a && b) ≡ true) ↔ (P × Q)
and_when a b v w = (λ h. (v.0 (and_left a b h), w.0 (and_right a b h)), λ h. and_both (v.1 h.0) (w.1 h.1))

pub all_when : {P Q R : Type 0} (a b c : Bool) → (a ≡ true) ↔ P → (b ≡ true) ↔ Q → (c ≡ true) ↔ R → ((a && b && c) ≡ true) ↔ (P × Q × R)
all_when a b c u v w =
    let x = and_when (a && b) c (and_when a b u v) w in
    (λ h. let y = x.0 h in (y.0.0, y.0.1, y.1), λ h. x.1 ((h.0, h.1), h.2))

-- no command has another code
unknown_code : (p : List ℕ) → is_unknown (decode p) ≡ not (one_of (function_code_of p) (0 ∷ 1 ∷ 4 ∷ 7 ∷ 8 ∷ 9 ∷ []))
unfolding decode
unknown_code p =
    let f : ℕ = function_code_of p in
    either (eqb f 0)
    (λ a. rw a)
    (λ a. either (eqb f 1)
    (λ b. rw (a, b))
    (λ b. either (eqb f 4)
    (λ c. rw (a, b, c))
    (λ c. either (eqb f 7)
    (λ d. rw (a, b, c, d))
    (λ d. either (eqb f 8)
    (λ g. rw (a, b, c, d, g))
    (λ g. either (eqb f 9)
    (λ h. rw (a, b, c, d, g, h))
    (λ h. rw (a, b, c, d, g, h)))))))

-- and no other code names a symbol
pub names_none : (p : List ℕ) → function_code_of p ≢ 8 → function_code_of p ≢ 9 → names_symbol (decode p) ≡ false
unfolding decode
names_none p v n =
    let f : ℕ = function_code_of p in
    let g = ne_eqb f 8 v in
    let h = ne_eqb f 9 n in
    either (eqb f 0)
    (λ a. rw a)
    (λ a. either (eqb f 1)
    (λ b. rw (a, b))
    (λ b. either (eqb f 4)
    (λ c. rw (a, b, c))
    (λ c. either (eqb f 7)
    (λ d. rw (a, b, c, d))
    (λ d. rw (a, b, c, d, g, h)))))

-- a row that applies exactly if P, alone with its number
row_applies : {P : Type 0} (b : Bool) → (b ≡ true) ↔ P → ((b || false) ≡ true) ↔ P
row_applies b w = (λ h. w.0 (either b (λ e. e) (λ e. absurd (contra h (rw e)))), λ p. let e = w.1 p in rw e)

-- how a range misses
module _ (rs : List Region) (n : ℕ) (a : Range) where
  pub outside_when : (not (starts_inside rs n a) ≡ true) ↔ ((i : ℕ) → StartsIn rs n a i → ⊥)
  outside_when = (
    λ h i s. contra (one_in any_right rs n (first_of a) i (starts_in rs n a i s)) (not-true _ h),
    λ f.
        either (starts_inside rs n a)
        (λ e. let r = one_out any_right rs n (first_of a) e in absurd (f r.0 (starts_out rs n a r.0 r.1)))
        (λ e. ap not e),
  )

  pub runs_out_when : (runs_out rs n a ≡ true) ↔ (((i : ℕ) × StartsIn rs n a i) × ((i : ℕ) → LiesIn (λ (g : Region). true) rs n a i → ⊥))
  runs_out_when =
      let starts : Bool = starts_inside rs n a in
      let whole : Bool = in_one_region any_right rs n a in (
        λ h.
            let r = one_out any_right rs n (first_of a) (and_left starts (not whole) h) in
            ((r.0, starts_out rs n a r.0 r.1), λ i l. contra (one_in any_right rs n a i l) (not-true _ (and_right starts (not whole) h))),
        λ h.
            and_both (one_in any_right rs n (first_of a) h.0.0 (starts_in rs n a h.0.0 h.0.1))
            (either whole (λ e. let r = one_out any_right rs n a e in absurd (h.1 r.0 r.1)) (λ e. ap not e)),
      )

  both_pass : 1 ≤ a.words
      → (((not (starts_inside rs n a) || false) ≡ false) × ((runs_out rs n a || false) ≡ false)) ↔ ((i : ℕ) × LiesIn (λ (g : Region). true) rs n a i)
  both_pass one = (
    λ h. one_out any_right rs n a (whole_passed rs n a (or_left _ false h.0) (or_left _ false h.1)),
    λ h.
        let w = one_in any_right rs n a h.0 h.1 in
        let s = starts_whole rs n a one w in
        (rw s, rw (s, w)),
  )

-- the places and the blocks
module _ (s : State) (c : CommandArgs) where
  free_when : (any_with (command_transaction c.packet) s.places ≡ false) ↔ NumberFree s c.packet
  unfolding any_with
  free_when = (λ h i l. none_at (number_at s c) 4 h l, none_of (number_at s c) 4)

  busy_when : (any_with (command_transaction c.packet) s.places ≡ true) ↔ NumberBusy s c.packet
  unfolding any_with
  busy_when = (any_at (number_at s c) 4, λ h. any_of (number_at s c) 4 h.1 h.2)

place_when : (s : State) → (any_idle s.places ≡ true) ↔ PlaceFree s
unfolding any_idle
place_when s =
    (λ h. let i = any_at (idle_at s) 4 h in (i.0, i.1, idle_out _ i.2), λ h. any_of (idle_at s) 4 h.1 (ap is_idle h.2))

blocks_when : (ws : List ℕ) → (is_damaged (blocks_of ws) ≡ false) ↔ ((bs : List Block) × Tiles ws bs)
blocks_when ws =
    (λ h. let u = undamaged (blocks_of ws) h in (u.0, blocks_tiles ws u.0 u.1), λ h. ap is_damaged (tiles_blocks h.1))

-- a name and an address
name_when : (t name : List ℕ) → IsTable t → (has_name t name ≡ true) ↔ ((v : ℕ) × Named t name v)
name_when t name is =
    (λ h. (value_of t name, (resolves_when t name (value_of t name) is).1 (h, refl)), λ h. ((resolves_when t name h.0 is).0 h.1).0)

address_when : (v offset : ℕ) → offset ≤ 4294967296
    → ((address_fits v offset && eqb (address_of v offset % 4) 0) ≡ true) ↔ ((a : ℕ) × Reached v offset a × (a < 4294967296) × (a % 4 ≡ 0))
address_when v offset most =
    let w = and_when (address_fits v offset) _ (fits_reached v offset most, λ h. reached_fits h.0 h.1) (eqb_when (address_of v offset % 4) 0) in (
      λ h. let x = w.0 h in (address_of v offset, x.0.0, x.0.1, x.1),
      λ h. let e = reached_is h.1 in and_both (reached_fits h.1 h.2) (rw e (eq-eqb _ _ h.3)),
    )

-- THE LAYOUT OF A COMMAND PACKET, in the rows of a call that tests it

module _ (rows : List Row) (p : List ℕ)
    (four : applies 4 rows ≡ (not (well_formed p) || false))
    (five : applies 5 rows ≡ (not (eqb (apid_of p) 1604) || false))
    (six : applies 6 rows ≡ (is_unknown (decode p) || false))
    (seven : applies 7 rows ≡ (wrong_length p (decode p) || false))
    (nine : (k : Command) → decode p ≡ Some k → names_symbol (Some k) ≡ false → applies 9 rows ≡ (not (field_rules k) || false)) where
  pub layout_cases : LayoutCases rows p
  unfolding field_rules
  layout_cases =
      record {
        formed = rw four (rule_passes _ (formed_out p, formed_in p));
        apid = rw five (rule_passes _ (eqb_when _ _));
        code = rw (six, unknown_code p) (rule_passes _ (λ h. h, λ h. h));
        dump = λ e. let d = decode_dump p e in
            rw (seven, nine _ d refl, d) (rule_passes _ (eqb_when _ _), rule_passes _ (and_when _ _ (eqb_when _ _) (leb_when _ _)));
        cancel = λ e. let d = decode_cancel p e in rw (seven, nine _ d refl, d) (rule_passes _ (eqb_when _ _), refl);
        load = λ e. let d = decode_load p e in
            rw (seven, nine _ d refl, d) (rule_passes _ (eqb_when _ _), rule_passes _ (all_when _ _ _ (eqb_when _ _) (leb_when _ _) (leb_when _ _)));
        pool = λ e. let d = decode_pool p e in rw (seven, nine _ d refl, d) (rule_passes _ (eqb_when _ _), rule_passes _ (leb_when _ _));
        value = λ e. let d = decode_value p e in rw (seven, d) (rule_passes _ (eqb_when _ _));
        by_name = λ e. let d = decode_by_name p e in rw (seven, d) (rule_passes _ (eqb_when _ _));
      }

-- THE COMMAND CALL

module _ (s : State) (c : CommandArgs) where
  -- number 9 of a command that names no symbol: its second row never applies
  fields_alone : (k : Command) → decode c.packet ≡ Some k → names_symbol (Some k) ≡ false
      → applies 9 (command_rows s c) ≡ (not (field_rules k) || false)
  unfolding command_rows lent_rows
  fields_alone (Dump q) d n = rw d
  fields_alone Cancel d n = rw d
  fields_alone (Load q) d n = rw d
  fields_alone (PoolStatistics i) d n = rw d
  fields_alone (SymbolValue i) d n = absurd (contra refl n)
  fields_alone (DumpSymbol q) d n = absurd (contra refl n)

  dump_cases : (r : Range) → task c ≡ DumpRange r → DumpCases (command_rows s c) s c.packet r
  unfolding command_rows lent_rows
  dump_cases r d =
      record {
        outside = rw d (row_applies _ (outside_when _ _ r));
        runs_out_lem = rw d (row_applies _ (runs_out_when _ _ r));
        whole = rw d (both_pass _ _ r);
        right = rw d (rule_passes _ (region_when dump_right _ _ _));
        transaction = rw d (row_passes _ (free_when s c));
        place = rw d (rule_passes _ (place_when s));
        others = rw d (refl, refl);
      }

  cancel_cases : function_code_of c.packet ≡ 1 → CancelCases (command_rows s c) s c.packet
  unfolding command_rows lent_rows
  cancel_cases e =
      let d = task_is c _ (decode_cancel c.packet e) in
      record { transaction = rw d (rule_passes _ (busy_when s c)); others = rw d (refl, refl, refl, refl, refl, refl) }

  load_cases : function_code_of c.packet ≡ 4 → LoadCases (command_rows s c) s c.packet
  unfolding command_rows lent_rows
  load_cases e =
      let d = task_is c _ (decode_load c.packet e) in
      record {
        outside = rw d (row_applies _ (outside_when _ _ _));
        runs_out_lem = rw d (row_applies _ (runs_out_when _ _ _));
        whole = rw d (both_pass _ _ (range_of c.packet));
        right = rw d (rule_passes _ (region_when load_right _ _ _));
        others = rw d (refl, refl, refl, refl);
      }

  pool_cases : function_code_of c.packet ≡ 7 → PoolCases (command_rows s c) s c.packet c.image
  unfolding command_rows lent_rows
  pool_cases e =
      let d = task_is c _ (decode_pool c.packet e) in
      record {
        there = rw d (row_passes _ (eqb-false _ _, ne_eqb _ _));
        blocks = rw d (row_passes _ (blocks_when _));
        others = rw d (refl, refl, refl, refl, refl);
      }

  value_cases : function_code_of c.packet ≡ 8 → ValueCases (command_rows s c) c
  unfolding command_rows lent_rows zero_rules name_in
  value_cases e =
      let d = decode_value c.packet e in
      let t = task_is c _ d in
      record {
        table = rw d (rule_passes _ (table_when _));
        name = rw d (fails_when _ (all_when _ _ _ (leb_when _ _) (leb_when _ _) (eqb_when _ _)), refl);
        known = λ is. rw d (rule_passes _ (name_when _ _ is));
        others = rw t (refl, refl, refl, refl, refl, refl, refl);
      }

  by_name_cases : function_code_of c.packet ≡ 9 → ByNameCases (command_rows s c) s c
  unfolding command_rows lent_rows zero_rules name_in
  by_name_cases e =
      let p : List ℕ = c.packet in
      let d = decode_by_name p e in
      let w =
      and_when _ _ (and_when _ _ (leb_when 1 (byte p 10)) (leb_when (byte p 10) 48))
      (and_when _ _ (eqb_when (byte p 11) 0) (eqb_when (two p 66) 0)) in
      record {
        table = rw d (rule_passes _ (table_when _));
        name =
            rw (d, at_two p 66)
            (fails_when _ (λ h. let x = w.0 h in ((x.0.0, x.0.1, x.1.0), x.1.1), λ h. w.1 ((h.0.0, h.0.1), (h.0.2, h.1))));
        known = λ is. rw d (rule_passes _ (name_when _ _ is));
        address = λ b v is n.
            let z = ((resolves_when _ _ v is).0 n).1 in
            let l = offset_fits p b in
            rw (d, z, at_four p 60, at_two p 64) (fails_when _ (and_when _ _ (address_when v (four p 60) (omega arith)) (leb_when _ _)));
        dump = λ v a is n r. dump_cases _ (range_reached c e v a ((resolves_when _ _ v is).0 n).1 r);
      }

  -- 17 and 18 ask for a symbol
  symbol_alone : function_code_of c.packet ≢ 8 → function_code_of c.packet ≢ 9
      → (applies 17 (command_rows s c) ≡ false) × (applies 18 (command_rows s c) ≡ false)
  unfolding command_rows lent_rows
  symbol_alone v n = let d = names_none c.packet v n in rw d (refl, refl)

  pub command_cases : CommandCases (command_rows s c) s c
  unfolding command_rows lent_rows
  command_cases =
      record {
        lent = record { state = rule_passes _ (λ h. h, λ h. h); as_long = rule_passes _ (eqb_when _ _); room = row_passes _ (ltb_when _ _) };
        layout = layout_cases (command_rows s c) c.packet refl refl refl refl fields_alone;
        unit = rule_passes _ (eqb_when _ _);
        dump = λ e. dump_cases (range_of c.packet) (task_is c _ (decode_dump c.packet e));
        cancel = cancel_cases;
        load = load_cases;
        pool = pool_cases;
        value = value_cases;
        by_name = by_name_cases;
        no_symbol = symbol_alone;
      }

-- THE SLOT CALL

pub slot_cases : (s : State) (c : SlotArgs) → SlotCases (slot_rows s c) s c
unfolding slot_rows lent_rows
slot_cases s c =
    record {
      lent = record { state = rule_passes _ (λ h. h, λ h. h); as_long = rule_passes _ (eqb_when _ _); room = row_passes _ (ltb_when _ _) };
      busy = rule_passes _ (any_busy_out s.places, λ h. any_busy_in s.places h.0 h.1 h.2);
    }
