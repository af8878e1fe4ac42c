-- What the tests of each command say, by function code: what must allow it.
-- Assumes nothing.
use Rattle.std.specs.Prelude.{Some, None}
use mathlib.Core.Path.{◌≡◌, refl, sym, ap, ◌∙◌}
use mathlib.Core.Logic.{◌≢◌}
use mathlib.Core.Bool.{Bool, true, false, ◌&&◌, not}
use mathlib.Core.List.{List}
use Prim.Native.Nat.{ℕ, ◌+◌, ◌%◌, ◌≤◌, ◌<◌}
use native.Mathlib.Omega.{arith}
use lib.Dec.{leb, eqb}
use lib.ListN.{length, get_or}
use borrow.Author.Tests.{leb-true, le-leb, eqb-true, eqb-false, eq-eqb, ne_eqb, not-false}
use Rattle.lists.proofs.Tests.{contra, and_left, and_right, and_both}
use Rattle.lists.proofs.Below.{any_of, any_at, none_of, none_at}
use Rattle.wire.specs.Bytes.{AreBytes, be_at}
use Rattle.wire.specs.ByByte.{two, four}
use Rattle.wire.specs.Xor.{xor_all}
use Rattle.wire.proofs.ByByte.{at_two, at_four}
use Rattle.symbols.specs.Table.{symbol_table, has_name, value_of}
use Rattle.rules.specs.Regions.{start_of, aligned, load_right, dump_right, in_one_region, starts_inside, runs_out}
use Rattle.rules.specs.States.{context_at, busy_with}
use Rattle.rules.specs.Packets.{version_of, type_of, second_header_of, sequence_flags_of, length_field_of, zero_bit_of, primary_rules, well_formed, apid_of, function_code_of, request_of, name_size_of, symbol_request_of, decode, name_fits, field_rules, zero_rules, name_in, command_unit, command_transaction}
use Rattle.rules.specs.Pools.{blocks_of, is_damaged}
use Rattle.rules.specs.Values.{address_fits, address_of, Reached}
use Rattle.rules.specs.Commands.{CommandArgs, range_by, is_idle, any_with, any_idle, pool_words}
use Rattle.rules.specs.Demand2.{ForThisBox, DumpAllowed, CancelAllowed, LoadAllowed, PoolAllowed, SymbolNamed, ValueAllowed, ByNameAllowed}
use Rattle.rules.specs.Cases.{Formed, range_of, range_from, pool_of, NameAllowed}
use Rattle.rules.specs.declared.Context.{Context}
use Rattle.rules.specs.declared.Context.TheVariants.{Idle, Busy}
use Rattle.rules.specs.declared.Command.TheVariants.{Dump, Cancel, Load, PoolStatistics, SymbolValue, DumpSymbol}
use Rattle.rules.specs.declared.Range.{Range}
use Rattle.rules.specs.declared.Region.{Region}
use Rattle.rules.specs.declared.State.{State}
use Rattle.rules.proofs.Table.{one_out, one_in, one_any, starts_whole}
use Rattle.rules.proofs.Pools.{blocks_tiles, tiles_blocks}
use Rattle.rules.proofs.Passed.{Laid, Tested, undamaged}
use Rattle.symbols.proofs.Logic.{table_when, resolves_when}
use Rattle.rules.proofs.Offsets.{reached_is, reached_fits, fits_reached, offset_fits}

-- THE LAYOUT OF EVERY COMMAND

module _ (p : List ℕ) where
  pub formed_out : well_formed p ≡ true → Formed p
  unfolding well_formed
  formed_out h =
      let b = leb 8 (length p) in
      let z = eqb (zero_bit_of p) 0 in
      let x = eqb (xor_all p) 255 in
      let v = eqb (version_of p) 0 in
      let t = eqb (type_of p) 1 in
      let s = eqb (second_header_of p) 1 in
      let f = eqb (sequence_flags_of p) 3 in
      let l = eqb (length_field_of p + 7) (length p) in
      let h2 = and_left (b && primary_rules 1 1 p && z) x h in
      let h1 = and_left (b && primary_rules 1 1 p) z h2 in
      let k4 = and_right b (primary_rules 1 1 p) h1 in
      let k3 = and_left (v && t && s && f) l k4 in
      let k2 = and_left (v && t && s) f k3 in
      let k1 = and_left (v && t) s k2 in
      record {
        bytes = leb-true _ _ (and_left b (primary_rules 1 1 p) h1);
        version = eqb-true _ _ (and_left v t k1);
        type = eqb-true _ _ (and_right v t k1);
        second_header = eqb-true _ _ (and_right (v && t) s k2);
        sequence_flags = eqb-true _ _ (and_right (v && t && s) f k3);
        length_field = eqb-true _ _ (and_right (v && t && s && f) l k4);
        zero_bit = eqb-true _ _ (and_right (b && primary_rules 1 1 p) z h2);
        check = eqb-true _ _ (and_right (b && primary_rules 1 1 p && z) x h);
      }

  pub formed_in : Formed p → well_formed p ≡ true
  unfolding well_formed
  formed_in b = and_both (and_both (and_both (le-leb _ _ b.bytes) header) (eq-eqb _ _ b.zero_bit)) (eq-eqb _ _ b.check)
    where
      header : primary_rules 1 1 p ≡ true
      header =
          and_both
          (and_both
          (and_both (and_both (eq-eqb _ _ b.version) (eq-eqb _ _ b.type)) (eq-eqb _ _ b.second_header))
          (eq-eqb _ _ b.sequence_flags))
          (eq-eqb _ _ b.length_field)

module _ (s : State) (p : List ℕ) where
  pub box_out : well_formed p ≡ true → apid_of p ≡ 1604 → command_unit p ≡ s.unit → ForThisBox s p
  box_out h apid unit = record { formed = formed_out p h; apid = apid; unit = unit }

  pub box_in : ForThisBox s p → well_formed p ≡ true
  box_in b = formed_in p b.formed

-- THE COMMAND OF A FUNCTION CODE

module _ (p : List ℕ) where
  pub decode_dump : function_code_of p ≡ 0 → decode p ≡ Some (Dump (request_of p))
  unfolding decode
  decode_dump e = rw e

  pub decode_cancel : function_code_of p ≡ 1 → decode p ≡ Some Cancel
  unfolding decode
  decode_cancel e = rw e

  pub decode_load : function_code_of p ≡ 4 → decode p ≡ Some (Load (request_of p))
  unfolding decode
  decode_load e = rw e

  pub decode_pool : function_code_of p ≡ 7 → decode p ≡ Some (PoolStatistics (pool_of p))
  unfolding decode
  decode_pool e = rw e

  pub decode_value : function_code_of p ≡ 8 → decode p ≡ Some (SymbolValue (name_size_of p))
  unfolding decode
  decode_value e = rw e

  pub decode_by_name : function_code_of p ≡ 9 → decode p ≡ Some (DumpSymbol (symbol_request_of p))
  unfolding decode
  decode_by_name e = rw e

  pub decode_other : function_code_of p ≢ 0 → function_code_of p ≢ 1 → function_code_of p ≢ 4 → function_code_of p ≢ 7
      → function_code_of p ≢ 8 → function_code_of p ≢ 9 → decode p ≡ None
  unfolding decode
  decode_other a b c d e f =
      let k = function_code_of p in
      rw (ne_eqb k 0 a, ne_eqb k 1 b, ne_eqb k 4 c, ne_eqb k 7 d, ne_eqb k 8 e, ne_eqb k 9 f)

-- WHAT ALLOWS EACH COMMAND

-- a range of a word or more that a region with some right holds passes 10 and 19
held : (right : Region → Bool) (rs : List Region) (n : ℕ) (a : Range) → 1 ≤ a.words → in_one_region right rs n a ≡ true
    → (not (starts_inside rs n a) ≡ false) × (runs_out rs n a ≡ false)
held right rs n a some h =
    let w = one_any right rs n a h in
    let i = starts_whole rs n a some w in
    (ap not i, rw (w, i))

pub idle_out : (a : Context) → is_idle a ≡ true → a ≡ Idle
idle_out Idle h = refl
idle_out (Busy d) h = absurd (contra h refl)

-- place i is idle, and place i is busy with the command's number
abbrev pub idle_at : State → ℕ → Bool
idle_at s i = is_idle (context_at s.places i)

abbrev pub number_at : State → CommandArgs → ℕ → Bool
number_at s c i = busy_with (command_transaction c.packet) (context_at s.places i)

module _ (s : State) (c : CommandArgs) where
  pub dump_out : Tested s c (Some (Dump (request_of c.packet))) → DumpAllowed s c.packet
  unfolding field_rules any_with any_idle
  dump_out t =
      let f = not-false _ t.laid.fields in
      let i = any_at (idle_at s) 4 (not-false _ t.place) in
      record {
        bytes = eqb-true _ _ (not-false _ t.laid.bytes);
        aligned = eqb-true _ _ (and_left (aligned (range_of c.packet)) (leb 1 (range_of c.packet).words) f);
        some = leb-true _ _ (and_right (aligned (range_of c.packet)) (leb 1 (range_of c.packet).words) f);
        region = one_out dump_right s.regions s.count (range_of c.packet) (not-false _ t.right);
        number = λ i l. none_at (number_at s c) 4 t.new l;
        place = (i.0, i.1, idle_out _ i.2);
      }

  pub dump_laid : length c.packet ≡ 16 → start_of (range_of c.packet) % 4 ≡ 0 → 1 ≤ (range_of c.packet).words → Laid c (Some (Dump (request_of c.packet)))
  unfolding field_rules
  dump_laid bytes whole some =
      record {
        known = refl;
        bytes = ap not (eq-eqb _ _ bytes);
        table = refl;
        named = refl;
        range = refl;
        fields = ap not (and_both (eq-eqb _ _ whole) (le-leb _ _ some));
      }

  pub dump_in : DumpAllowed s c.packet → Tested s c (Some (Dump (request_of c.packet)))
  unfolding any_with any_idle
  dump_in a =
      let r = one_in dump_right s.regions s.count (range_of c.packet) a.region.0 a.region.1 in
      let w = held dump_right s.regions s.count (range_of c.packet) a.some r in
      record {
        laid = dump_laid a.bytes a.aligned a.some;
        inside = w.0;
        whole = w.1;
        right = ap not r;
        new = none_of (number_at s c) 4 a.number;
        place = ap not (any_of (idle_at s) 4 a.place.1 (ap is_idle a.place.2));
        busy = refl;
        blocks = refl;
      }

  pub cancel_out : Tested s c (Some Cancel) → CancelAllowed s c.packet
  unfolding any_with
  cancel_out t =
      record {
        bytes = eqb-true _ _ (not-false _ t.laid.bytes);
        busy = any_at (number_at s c) 4 (not-false _ t.busy);
      }

  pub cancel_in : CancelAllowed s c.packet → Tested s c (Some Cancel)
  unfolding field_rules any_with
  cancel_in a =
      record {
        laid = record { known = refl; bytes = ap not (eq-eqb _ _ a.bytes); table = refl; named = refl; range = refl; fields = refl };
        inside = refl;
        whole = refl;
        right = refl;
        new = refl;
        place = refl;
        busy = ap not (any_of (number_at s c) 4 a.busy.1 a.busy.2);
        blocks = refl;
      }

  pub load_out : Tested s c (Some (Load (request_of c.packet))) → LoadAllowed s c.packet
  unfolding field_rules
  load_out t =
      let m = aligned (range_of c.packet) in
      let a = leb 1 (range_of c.packet).words in
      let b = leb (range_of c.packet).words 11 in
      let f = not-false (m && a && b) t.laid.fields in
      let g = and_left (m && a) b f in
      record {
        bytes = eqb-true _ _ (not-false _ t.laid.bytes);
        aligned = eqb-true _ _ (and_left m a g);
        some = leb-true _ _ (and_right m a g);
        most = leb-true _ _ (and_right (m && a) b f);
        region = one_out load_right s.regions s.count (range_of c.packet) (not-false _ t.right);
      }

  pub load_laid : length c.packet ≡ 60 → start_of (range_of c.packet) % 4 ≡ 0 → 1 ≤ (range_of c.packet).words → (range_of c.packet).words ≤ 11
      → Laid c (Some (Load (request_of c.packet)))
  unfolding field_rules
  load_laid bytes whole some most =
      record {
        known = refl;
        bytes = ap not (eq-eqb _ _ bytes);
        table = refl;
        named = refl;
        range = refl;
        fields = ap not (and_both (and_both (eq-eqb _ _ whole) (le-leb _ _ some)) (le-leb _ _ most));
      }

  pub load_in : LoadAllowed s c.packet → Tested s c (Some (Load (request_of c.packet)))
  load_in a =
      let r = one_in load_right s.regions s.count (range_of c.packet) a.region.0 a.region.1 in
      let w = held load_right s.regions s.count (range_of c.packet) a.some r in
      record {
        laid = load_laid a.bytes a.aligned a.some a.most;
        inside = w.0;
        whole = w.1;
        right = ap not r;
        new = refl;
        place = refl;
        busy = refl;
        blocks = refl;
      }

  pub pool_out : Tested s c (Some (PoolStatistics (pool_of c.packet))) → PoolAllowed s c
  unfolding field_rules
  pool_out t =
      let u = undamaged (blocks_of (pool_words s (pool_of c.packet) c.image)) t.blocks in
      record {
        bytes = eqb-true _ _ (not-false _ t.laid.bytes);
        pool = leb-true _ _ (not-false _ t.laid.fields);
        there = eqb-false _ _ t.inside;
        blocks = (u.0, blocks_tiles _ _ u.1);
      }

  pub pool_laid : length c.packet ≡ 12 → pool_of c.packet ≤ 1 → Laid c (Some (PoolStatistics (pool_of c.packet)))
  unfolding field_rules
  pool_laid bytes low =
      record { known = refl; bytes = ap not (eq-eqb _ _ bytes); table = refl; named = refl; range = refl; fields = ap not (le-leb _ _ low) }

  pub pool_in : PoolAllowed s c → Tested s c (Some (PoolStatistics (pool_of c.packet)))
  pool_in a =
      record {
        laid = pool_laid a.bytes a.pool;
        inside = ne_eqb _ _ a.there;
        whole = refl;
        right = refl;
        new = refl;
        place = refl;
        busy = refl;
        blocks = ap is_damaged (tiles_blocks a.blocks.1);
      }

  -- the value of the name in the packet
  abbrev value_named : ℕ
  value_named = value_of c.symbols (name_in c.packet)

  -- a symbol that a command names: the tests that say that the table has it
  symbol_out : (n : ℕ) → length c.packet ≡ n → NameAllowed c.packet → symbol_table c.symbols ≡ true
      → has_name c.symbols (name_in c.packet) ≡ true → SymbolNamed c n value_named
  unfolding name_in
  symbol_out n b a t h =
      let i = (table_when c.symbols).0 t in
      record { bytes = b; table = i; allowed = a; named = (resolves_when c.symbols _ _ i).1 (h, refl) }

  symbol_in : {n v : ℕ} → SymbolNamed c n v
      → (symbol_table c.symbols ≡ true) × (has_name c.symbols (name_in c.packet) ≡ true) × (value_named ≡ v)
  unfolding name_in
  symbol_in x =
      let r = (resolves_when c.symbols _ _ x.table).0 x.named in
      ((table_when c.symbols).1 x.table, r.0, r.1)

  -- what it resolves to is its value
  pub value_named_lem : {n v : ℕ} → SymbolNamed c n v → value_of c.symbols (name_in c.packet) ≡ v
  value_named_lem x = (symbol_in x).2

  -- the size of a name and its pad
  name_out : name_fits (name_size_of c.packet) ≡ true → eqb (get_or c.packet 11 0) 0 ≡ true → NameAllowed c.packet
  name_out f z =
      let a = leb 1 (name_size_of c.packet) in
      let b = leb (name_size_of c.packet) 48 in
      (leb-true _ _ (and_left a b f), leb-true _ _ (and_right a b f), eqb-true _ _ z)

  name_in_lem : NameAllowed c.packet → (name_fits (name_size_of c.packet) ≡ true) × (eqb (get_or c.packet 11 0) 0 ≡ true)
  name_in_lem a = (and_both (le-leb _ _ a.0) (le-leb _ _ a.1), eq-eqb _ _ a.2)

  pub value_out : Tested s c (Some (SymbolValue (name_size_of c.packet))) → ValueAllowed c
  unfolding zero_rules
  value_out t =
      let m = name_fits (name_size_of c.packet) in
      let z = eqb (get_or c.packet 11 0) 0 in
      let f = not-false (m && z) t.laid.fields in (
        value_named,
        symbol_out 60 (eqb-true _ _ (not-false _ t.laid.bytes)) (name_out (and_left m z f) (and_right m z f))
            (not-false _ t.laid.table) (not-false _ t.laid.named),
      )

  pub value_in : ValueAllowed c → Tested s c (Some (SymbolValue (name_size_of c.packet)))
  unfolding zero_rules
  value_in a =
      let x = symbol_in a.1 in
      let n = name_in_lem a.1.allowed in
      record {
        laid =
            record {
              known = refl;
              bytes = ap not (eq-eqb _ _ a.1.bytes);
              table = ap not x.0;
              fields = ap not (and_both n.0 n.1);
              named = ap not x.1;
              range = refl;
            };
        inside = refl;
        whole = refl;
        right = refl;
        new = refl;
        place = refl;
        busy = refl;
        blocks = refl;
      }

  -- the address that a dump by name reaches, and its range
  abbrev address_named : ℕ
  address_named = address_of value_named (four c.packet 60)

  range_by_lem : range_by c.symbols (name_in c.packet) (symbol_request_of c.packet) ≡ range_from c.packet address_named
  range_by_lem = rw (at_four c.packet 60, at_two c.packet 64)

  address_named_lem : {n v a : ℕ} → SymbolNamed c n v → Reached v (four c.packet 60) a → address_named ≡ a
  address_named_lem x r = rw (value_named_lem x) (reached_is r)

  pub range_named : {n v a : ℕ} → SymbolNamed c n v → Reached v (four c.packet 60) a
      → range_by c.symbols (name_in c.packet) (symbol_request_of c.packet) ≡ range_from c.packet a
  range_named x r = range_by_lem ∙ ap (range_from c.packet) (address_named_lem x r)

  -- what the second 9 tests of them
  abbrev range_allowed : Bool
  range_allowed = address_fits value_named (four c.packet 60) && aligned (range_from c.packet address_named) && leb 1 (two c.packet 64)

  pub by_name_out : AreBytes c.packet → Tested s c (Some (DumpSymbol (symbol_request_of c.packet))) → ByNameAllowed s c
  unfolding zero_rules any_with any_idle
  by_name_out bytes t =
      let p = c.packet in
      let m = name_fits (name_size_of p) in
      let z = eqb (get_or p 11 0) 0 in
      let w = eqb (be_at 2 p 66) 0 in
      let f = not-false (m && (z && w)) t.laid.fields in
      let zeros = and_right m (z && w) f in
      let fits = address_fits value_named (four p 60) in
      let whole = aligned (range_from p address_named) in
      let one = leb 1 (two p 64) in
      let g = not-false range_allowed (rw (at_four p 60, at_two p 64) at t.laid.range) in
      let h = and_left (fits && whole) one g in
      let low = offset_fits p bytes in
      let reached = fits_reached value_named (four p 60) (omega arith) (and_left fits whole h) in
      let i = any_at (idle_at s) 4 (not-false _ t.place) in
      record {
        v = value_named;
        symbol =
            symbol_out 68 (eqb-true _ _ (not-false _ t.laid.bytes)) (name_out (and_left m (z && w) f) (and_left z w zeros))
            (not-false _ t.laid.table) (not-false _ t.laid.named);
        zeros = sym (at_two p 66) ∙ eqb-true _ _ (and_right z w zeros);
        a = address_named;
        reached = reached.0;
        below = reached.1;
        aligned = eqb-true _ _ (and_right fits whole h);
        some = leb-true _ _ (and_right (fits && whole) one g);
        region = one_out dump_right s.regions s.count (range_from p address_named) (not-false _ (rw range_by_lem at t.right));
        number = λ i l. none_at (number_at s c) 4 t.new l;
        place = (i.0, i.1, idle_out _ i.2);
      }

  pub by_name_laid : (v a : ℕ) → SymbolNamed c 68 v → two c.packet 66 ≡ 0 → Reached v (four c.packet 60) a → a < 4294967296 → a % 4 ≡ 0
      → 1 ≤ two c.packet 64 → Laid c (Some (DumpSymbol (symbol_request_of c.packet)))
  unfolding zero_rules
  by_name_laid v a symbol zeros reached below multiple some =
      let p = c.packet in
      let x = symbol_in symbol in
      let n = name_in_lem symbol.allowed in
      let e = address_named_lem symbol reached in
      let fits : address_fits value_named (four p 60) ≡ true = rw x.2 (reached_fits reached below) in
      let whole : aligned (range_from p address_named) ≡ true = rw e (eq-eqb _ _ multiple) in
      record {
        known = refl;
        bytes = ap not (eq-eqb _ _ symbol.bytes);
        table = ap not x.0;
        fields = ap not (and_both n.0 (and_both n.1 (eq-eqb _ _ (at_two p 66 ∙ zeros))));
        named = ap not x.1;
        range = rw (at_four p 60, at_two p 64) (ap not (and_both (and_both fits whole) (le-leb _ _ some)));
      }

  pub by_name_in : ByNameAllowed s c → Tested s c (Some (DumpSymbol (symbol_request_of c.packet)))
  unfolding any_with any_idle
  by_name_in a =
      let named = range_by c.symbols (name_in c.packet) (symbol_request_of c.packet) in
      let q = range_named a.symbol a.reached in
      let size : named.words ≡ two c.packet 64 = ap (λ (x : Range). x.words) q in
      let r : in_one_region dump_right s.regions s.count named ≡ true =
      rw q (one_in dump_right s.regions s.count (range_from c.packet a.a) a.region.0 a.region.1) in
      let w = held dump_right s.regions s.count named (omega (arith, a.some)) r in
      record {
        laid = by_name_laid a.v a.a a.symbol a.zeros a.reached a.below a.aligned a.some;
        inside = w.0;
        whole = w.1;
        right = ap not r;
        new = none_of (number_at s c) 4 a.number;
        place = ap not (any_of (idle_at s) 4 a.place.1 (ap is_idle a.place.2));
        busy = refl;
        blocks = refl;
      }
