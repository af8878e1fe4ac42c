-- An accepted command does exactly what papers 01 and 02 (A2) say.
-- Assumes nothing.
use Rattle.std.specs.Prelude.{Option}
use mathlib.Core.Path.{◌≡◌, refl, ap, ◌∙◌}
use mathlib.Core.Bool.{true}
use mathlib.Core.List.{List}
use Prim.Native.Nat.{ℕ, ◌+◌, ◌*◌, ◌≤◌, ◌<◌}
use native.Mathlib.Omega.{arith}
use lib.ListN.{length, get_or, take, length-set}
use lib.Seq.{length-take-le, get_or-take}
use Rattle.lists.specs.Splice.{splice}
use Rattle.lists.proofs.Tests.{contra}
use Rattle.lists.proofs.Below.{any_of, first_found, first_before}
use Rattle.lists.proofs.Splice.{splice_length, splice_in, splice_below, splice_above, splice_front, splice_rest}
use Rattle.wire.specs.ByByte.{four}
use Rattle.wire.proofs.ByByte.{at_four, in_four}
use Rattle.wire.proofs.Numbers.{be_back}
use Rattle.wire.proofs.Words.{words_at_length, words_at_word}
use Rattle.rules.specs.Regions.{any_right, load_right, dump_right, in_one_region, image_index}
use Rattle.rules.specs.States.{pool_at}
use Rattle.rules.specs.Packets.{decode, name_in, command_transaction, data_words}
use Rattle.rules.specs.Pools.{Block, whole, reply_bytes}
use Rattle.rules.specs.Values.{value_bytes}
use Rattle.rules.specs.Commands.{CommandArgs, task_of, is_idle, first_idle, first_with, set_context, pool_words, replied, carry_out, command_call}
use Rattle.rules.specs.Demand2.{IsAccepted, OnePlace, DumpDone, CancelAllowed, CancelDone, LoadAllowed, LoadDone, PoolAllowed, PoolDone, TelemetryHeader, SymbolNamed, ValueDone, ByNameAllowed, ByNameDone, Effects}
use Rattle.rules.specs.Cases.{range_of, range_from, pool_of, PlaceFree}
use Rattle.rules.specs.declared.Context.{Context}
use Rattle.rules.specs.declared.Place.{Place}
use Rattle.rules.specs.declared.Range.{Range}
use Rattle.rules.specs.declared.State.{State}
use Rattle.rules.specs.declared.Task.TheVariants.{DumpRange, CancelDump, LoadRange, CountPool, TellValue}
use Rattle.symbols.proofs.Logic.{value_fits}
use Rattle.rules.proofs.Table.{holds_any, one_out, one_in, one_any, image_fits, range_low, words_length}
use Rattle.rules.proofs.Located.{lies_from, lies_index}
use Rattle.rules.proofs.Good.{GoodIs, good_out, context_same, context_other}
use Rattle.rules.proofs.Rules.{StartIs, start_out, pool_out as rules-pool}
use Rattle.rules.proofs.Pools.{tiles_blocks, tiles_words, figures_fit, figures_are, reply_figures, reply_head, reply_pool}
use Rattle.rules.proofs.Passed.{Passed, passed_out, accepted_call, tests_of}
use Rattle.rules.proofs.Allowed.{decode_dump, decode_cancel, decode_load, decode_pool, decode_value, decode_by_name, dump_out, cancel_out, load_out, pool_out, value_out, by_name_out, value_named_lem, range_named, idle_out, idle_at, number_at}
use Rattle.rules.specs.declared.Command.{Command}

-- one place of four set
one_place : (ps : List Place) (i : ℕ) (a : Context) → i < 4 → length ps ≡ 4 → OnePlace ps i (set_context ps i a)
one_place ps i a l four = record { in_four = l; four = length-set ps i (record { context = a }) ∙ four; others = λ j ne. context_other ps i j a ne }

-- the words that a load of n words writes
module _ (p : List ℕ) (n : ℕ) (most : n ≤ 11) where
  load_length : length (take n (data_words p)) ≡ n
  load_length = let e = words_at_length 11 p 16 in length-take-le n (data_words p) (omega arith)

  load_word : (k : ℕ) → k < n → get_or (take n (data_words p)) k 0 ≡ four p (16 + 4 * k)
  load_word k l = get_or-take n (data_words p) k 0 l ∙ words_at_word 11 p 16 k (omega arith) ∙ at_four p (16 + 4 * k)

-- a reply with figures is 32 bytes long
reply_length_lem : (count unit transaction pool : ℕ) (bs : List Block) → length (reply_bytes count unit transaction pool bs) ≡ 32
unfolding reply_bytes
reply_length_lem count unit transaction pool bs = refl

-- A REPLY WITH A VALUE

module _ (count unit t v : ℕ) where
  value_length : length (value_bytes count unit t v) ≡ 12
  unfolding value_bytes
  value_length = refl

  value_head : count ≤ 16383 → unit ≤ 15 → t ≤ 4095 → TelemetryHeader 786 count unit t (value_bytes count unit t v)
  unfolding value_bytes
  value_head hc hu ht = record { kind = refl; sequence = omega arith; length_field = refl; identity = omega arith }

  value_word : (buffer : List ℕ) → v < 4294967296 → four (splice buffer 0 (value_bytes count unit t v)) 8 ≡ v
  unfolding splice value_bytes
  value_word buffer h = in_four (splice buffer 0 (value_bytes count unit t v)) 8 v (be_back 4 v h)

module _ (s : State) (c : CommandArgs) (h : IsAccepted s c) where
  passed : Passed s c
  passed = passed_out s c h

  good : GoodIs s
  good = good_out s passed.good

  start : StartIs s.regions s.count s.pools s.unit
  start = start_out s.regions s.count s.pools s.unit good.rules

  pub call_is : {d : (Option Command)} → decode c.packet ≡ d → command_call s c ≡ carry_out s c (task_of c.symbols (name_in c.packet) d)
  call_is e = accepted_call s c h ∙ ap (λ (d : Option Command). carry_out s c (task_of c.symbols (name_in c.packet) d)) e

  dump_done : (r : Range) → PlaceFree s → DumpDone s c r (carry_out s c (DumpRange r))
  unfolding first_idle
  dump_done r p =
      let f = first_found (idle_at s) 4 (any_of (idle_at s) 4 p.1 (ap is_idle p.2)) in
      let four = good.places.four in
      record {
        i = first_idle s.places;
        idle = idle_out _ f.1;
        lowest = λ j l e. contra (ap is_idle e) (first_before (idle_at s) 4 l);
        now = context_same s.places _ _ (omega arith);
        rest = one_place s.places _ _ f.0 four;
        state = refl;
        image = refl;
        reply = (refl, refl);
      }

  cancel_done : CancelAllowed s c.packet → CancelDone s c (carry_out s c CancelDump)
  unfolding first_with
  cancel_done a =
      let f = first_found (number_at s c) 4 (any_of (number_at s c) 4 a.busy.1 a.busy.2) in
      let four = good.places.four in
      record {
        i = first_with (command_transaction c.packet) s.places;
        busy = f.1;
        now = context_same s.places _ _ (omega arith);
        rest = one_place s.places _ _ f.0 four;
        state = refl;
        image = refl;
        reply = (refl, refl);
      }

  load_done : LoadAllowed s c.packet → LoadDone s c (carry_out s c (LoadRange (range_of c.packet)))
  load_done a =
      let p = c.packet in
      let r = range_of p in
      let v = take r.words (data_words p) in
      let e : length v ≡ r.words = load_length p r.words a.most in
      let one = one_in any_right s.regions s.count r _ (holds_any load_right s.regions s.count r _ a.region.1) in
      let in_image = image_fits s.regions s.count r one in
      let first = (image_index s.regions s.count r).0 in
      let fits : first + length v ≤ length c.image = omega (arith, passed.image) in
      let lies = lies_from s.regions s.count r start.table a.aligned load_right a.region.0 a.region.1 in
      record {
        region = a.region.0;
        offset = _;
        lies = lies;
        first = first;
        index = lies_index s.regions s.count r start.table a.some a.region.0 _ lies;
        inside = omega (arith, passed.image);
        as_long = splice_length c.image first v fits;
        written = λ k l. splice_in c.image first v fits k (omega arith) ∙ load_word p r.words a.most k l;
        below = splice_below c.image first v fits;
        above = λ x l. splice_above c.image first v fits x (omega arith);
        state = refl;
        reply = (refl, refl);
      }

  -- the pool lies whole in one region, so that its size fits in a word
  pool_inside : PoolAllowed s c → in_one_region any_right s.regions s.count (pool_at s.pools (pool_of c.packet)) ≡ true
  pool_inside a =
      let rules = rules-pool s.regions s.count _ (start.pools (pool_of c.packet) a.pool) a.there in
      one_any dump_right s.regions s.count _ rules.region

  pool_length : PoolAllowed s c
      → length (pool_words s (pool_of c.packet) c.image) ≡ (pool_at s.pools (pool_of c.packet)).words
  pool_length a = words_length s.regions s.count _ c.image (pool_inside a) passed.image

  pool_low : PoolAllowed s c → (pool_at s.pools (pool_of c.packet)).words < 4294967296
  pool_low a =
      let pool = pool_at s.pools (pool_of c.packet) in
      let r = one_out any_right s.regions s.count pool (pool_inside a) in
      let l = range_low s.regions s.count start.table pool r.0 r.1 in
      omega arith

  pool_replied : (a : PoolAllowed s c) → PoolDone s c (replied s c (pool_of c.packet) (whole a.blocks.0))
  pool_replied a =
      let v = reply_bytes s.replies s.unit (command_transaction c.packet) (pool_of c.packet) a.blocks.0 in
      let e : length v ≡ 32 = reply_length_lem _ _ _ _ _ in
      let fit = figures_fit a.blocks.1 (rw (pool_length a) (pool_low a)) in
      let figures = reply_figures s.replies s.unit (command_transaction c.packet) (pool_of c.packet) a.blocks.0 c.reply fit in
      let head = reply_head s.replies s.unit (command_transaction c.packet) (pool_of c.packet) a.blocks.0 good.replies start.low (omega arith) in
      record {
        found = a.blocks.0;
        tiles = a.blocks.1;
        figures = figures_are _ _ a.blocks.1;
        free = figures.0;
        used = figures.1;
        size = tiles_words a.blocks.1 ∙ pool_length a;
        reported = refl;
        header = rw (← e, splice_front c.reply v) head;
        pool = reply_pool s.replies s.unit (command_transaction c.packet) (pool_of c.packet) a.blocks.0 c.reply a.pool;
        rest = rw e at (splice_rest c.reply v);
        state = refl;
        image = refl;
      }

  pool_done : PoolAllowed s c → PoolDone s c (carry_out s c (CountPool (pool_of c.packet)))
  pool_done a = rw (tiles_blocks a.blocks.1) (pool_replied a)

  value_done : (v : ℕ) → SymbolNamed c 60 v → v < 4294967296 → ValueDone s c (carry_out s c (TellValue v))
  value_done v x low =
      let t = command_transaction c.packet in
      let b = value_bytes s.values s.unit t v in
      let e : length b ≡ 12 = value_length s.values s.unit t v in
      let head = value_head s.values s.unit t v good.values start.low (omega arith) in
      record {
        v = v;
        symbol = x;
        value = value_word s.values s.unit t v c.reply low;
        reported = refl;
        header = rw (← e, splice_front c.reply b) head;
        rest = rw e at (splice_rest c.reply b);
        state = refl;
        image = refl;
      }

  by_name_done : (a : ByNameAllowed s c) → ByNameDone s c (carry_out s c (DumpRange (range_from c.packet a.a)))
  by_name_done a =
      record { v = a.v; symbol = a.symbol; a = a.a; reached = a.reached; dump = dump_done (range_from c.packet a.a) a.place }

  pub effects : Effects s c
  effects =
      record {
        dump = λ e. let d = decode_dump c.packet e in rw (call_is d) (dump_done (range_of c.packet) (dump_out s c (tests_of s c _ d h)).place);
        cancel = λ e. let d = decode_cancel c.packet e in rw (call_is d) (cancel_done (cancel_out s c (tests_of s c _ d h)));
        load = λ e. let d = decode_load c.packet e in rw (call_is d) (load_done (load_out s c (tests_of s c _ d h)));
        pool = λ e. let d = decode_pool c.packet e in rw (call_is d) (pool_done (pool_out s c (tests_of s c _ d h)));
        value = λ e b.
            let d = decode_value c.packet e in
            let a = value_out s c (tests_of s c _ d h) in
            let v = value_named_lem s c a.1 in
            rw (call_is d, v) (value_done a.0 a.1 (rw v at (value_fits c.symbols (name_in c.packet) b)));
        by_name = λ e b.
            let d = decode_by_name c.packet e in
            let a = by_name_out s c b (tests_of s c _ d h) in
            rw (call_is d, range_named s c a.symbol a.reached) (by_name_done a);
      }
