-- The ground's calls over blocks of words.
-- Assumes nothing.
use Rattle.std.specs.Prelude.{Some, Ok, Err}
use mathlib.Core.Path.{◌≡◌, refl, sym}
use mathlib.Core.Logic.{◌≢◌}
use mathlib.Core.Bool.{Bool, true, false, ◌&&◌, ◌||◌}
use mathlib.Core.List.{List, [], ◌∷◌, ◌++◌}
use Prim.Native.Nat.{ℕ, ◌+◌, min, ◌≤◌, ◌<◌}
use native.Mathlib.Omega.{arith}
use lib.Dec.{leb, eqb}
use lib.ListN.{length, take, drop, length-drop}
use lib.Seq.{get_or-drop}
use borrow.Author.Tests.{eqb-true, eq-eqb, ne_eqb, leb-true, leb-false, le-leb, lt-leb, le-ltb, lt-ltb}
use Rattle.lists.proofs.Tests.{either, or_left, or_right}
use Rattle.rules.specs.Cases.{one_of}
use Rattle.rules.specs.Ground.{header_rules, writer_rows, write_command, read_command, read_packet}
use Rattle.rules.specs.Packets.{packet_length, name_fits, field_rules, requested}
use Rattle.rules.specs.Regions.{aligned}
use Rattle.rules.specs.Results.{lowest, number}
use Rattle.rules.specs.declared.Command.{Command}
use Rattle.rules.specs.declared.Command.TheVariants.{Dump, Cancel, Load, PoolStatistics, SymbolValue, DumpSymbol}
use Rattle.rules.specs.declared.DumpPacket.{DumpPacket}
use Rattle.rules.specs.declared.Header.{Header}
use Rattle.rules.specs.declared.Refusal.{Refusal}
use Rattle.rules.specs.declared.Refusal.TheVariants.{BadField, BufferLength}
use Rattle.rules.specs.declared.Telecommand.{Telecommand}
use Rattle.block.specs.Blocks.{word}
use Rattle.block.proofs.Runs.{list_is}
use Rattle.ground_blocks.specs.Fields.{header_in, size_in, request_in, symbol_request_in, command_in, data_in, head_words, tail_words, field_words}
use Rattle.capi.specs.Commands.{lg_write_command, lg_read_command, lg_read_packet}
use Rattle.c_theorems.specs.GroundFromC.{CommandBlock, HeadFits, request, symbol_request, WrittenAs, room_for, Nine, GroundFromC}

-- THE COMMAND WRITER

module _ (b : List ℕ) (n : length b ≡ 21) where
  data_is : data_in b ≡ take 12 (drop 7 b)
  data_is =
      let l : length (drop 7 b) ≡ 14 = simp length-drop (omega arith) in
      list_is 0 (λ (k : ℕ). word b (7 + k)) (drop 7 b) 12 (omega arith) (λ i h. sym (get_or-drop 7 b i 0))

  head_is : HeadFits b → header_in b ≡ record { count = word b 1; unit = word b 2; transaction = word b 3 }
  head_is f =
      let p = f.count in
      let q = f.unit in
      let r = f.transaction in
      let x : min 65535 (word b 1) ≡ word b 1 = omega arith in
      let y : min 255 (word b 2) ≡ word b 2 = omega arith in
      let z : min 65535 (word b 3) ≡ word b 3 = omega arith in
      rw (x, y, z)

  write_as : (k : Command) → HeadFits b → command_in b ≡ Some k → WrittenAs b k
  unfolding lg_write_command
  write_as k f e buffer = rw (eq-eqb (length b) 21 n, e, head_is f, data_is)

size_is : (w : ℕ) → w < 65536 → size_in w ≡ w
size_is w h = rw (le-leb w 65535 (omega arith))

module _ (b : List ℕ) where
  dump_is : word b 0 ≡ 0 → word b 4 < 65536 → command_in b ≡ Some (Dump (request b))
  unfolding command_in
  dump_is c h = rw (c, size_is (word b 4) h)

  cancel_is : word b 0 ≡ 1 → command_in b ≡ Some Cancel
  unfolding command_in
  cancel_is c = rw c

  load_is : word b 0 ≡ 4 → word b 4 < 65536 → command_in b ≡ Some (Load (request b))
  unfolding command_in
  load_is c h = rw (c, size_is (word b 4) h)

  pool_is : word b 0 ≡ 7 → word b 6 < 65536 → command_in b ≡ Some (PoolStatistics (word b 6))
  unfolding command_in
  pool_is c h = let e : min 65535 (word b 6) ≡ word b 6 = omega arith in rw (c, e)

  value_is : word b 0 ≡ 8 → word b 19 < 256 → command_in b ≡ Some (SymbolValue (word b 19))
  unfolding command_in
  value_is c h = let e : min 255 (word b 19) ≡ word b 19 = omega arith in rw (c, e)

  by_name_is : word b 0 ≡ 9 → word b 4 < 65536 → word b 19 < 256 → command_in b ≡ Some (DumpSymbol (symbol_request b))
  unfolding command_in
  by_name_is c h n = let e : min 255 (word b 19) ≡ word b 19 = omega arith in rw (c, size_is (word b 4) h, e)

-- NUMBER 9

no_left : (a b : Bool) → a ≡ false → (a && b) ≡ false
no_left a b e = rw e

no_right : (a b : Bool) → b ≡ false → (a && b) ≡ false
no_right true b e = e
no_right false b e = refl

none : ◌≡◌ {A = Bool} false true → ⊥
none e = let z : ◌≡◌ {A = ℕ} 0 1 = cc in omega arith

nine_of : (h : Header) (k : Command) (ws buffer : List ℕ) → packet_length k ≤ length buffer → (header_rules h && field_rules k) ≡ false
    → write_command h k ws buffer ≡ record { answer = Err BadField; buffer = buffer }
unfolding write_command writer_rows lowest
nine_of h k ws buffer m e = rw (le-ltb (length buffer) (packet_length k) m, e)

three_of : (h : Header) (k : Command) (ws buffer : List ℕ) → length buffer < packet_length k
    → write_command h k ws buffer ≡ record { answer = Err BufferLength; buffer = buffer }
unfolding write_command writer_rows lowest
three_of h k ws buffer m = rw (lt-ltb (length buffer) (packet_length k) m)

module _ (b : List ℕ) where
  nine : length b ≡ 21 → (k : Command) → command_in b ≡ Some k → room_for (word b 0) ≡ packet_length k → (header_rules (header_in b) && field_rules k) ≡ false → Nine b
  unfolding lg_write_command
  nine n k ek r e buffer =
      rw (eq-eqb (length b) 21 n, ek, r)
      (either (leb (packet_length k) (length buffer))
      (λ l. rw (nine_of (header_in b) k (data_in b) buffer (leb-true _ _ l) e, l))
      (λ l. rw (three_of (header_in b) k (data_in b) buffer (leb-false _ _ l), l)))

  known : one_of (word b 0) (0 ∷ 1 ∷ 4 ∷ 7 ∷ 8 ∷ 9 ∷ []) ≡ true → (k : Command) × (command_in b ≡ Some k) × (room_for (word b 0) ≡ packet_length k)
  unfolding command_in
  known h =
      either (eqb (word b 0) 0) (λ e. (Dump (request_in b), rw e, rw (eqb-true (word b 0) 0 e)))
      (λ e. either (eqb (word b 0) 1) (λ f. (Cancel, rw (e, f), rw (eqb-true (word b 0) 1 f)))
      (λ f. either (eqb (word b 0) 4) (λ g. (Load (request_in b), rw (e, f, g), rw (eqb-true (word b 0) 4 g)))
      (λ g. either (eqb (word b 0) 7) (λ i. (PoolStatistics (min 65535 (word b 6)), rw (e, f, g, i), rw (eqb-true (word b 0) 7 i)))
      (λ i. either (eqb (word b 0) 8) (λ j. (SymbolValue (min 255 (word b 19)), rw (e, f, g, i, j), rw (eqb-true (word b 0) 8 j)))
      (λ j. either (eqb (word b 0) 9) (λ l. (DumpSymbol (symbol_request_in b), rw (e, f, g, i, j, l), rw (eqb-true (word b 0) 9 l)))
      (λ l. absurd (none (rw (e, f, g, i, j, l) at h))))))))

  header_nine : CommandBlock b → header_rules (header_in b) ≡ false → Nine b
  header_nine c e = let k = known c.code in nine c.words k.0 k.1 k.2 (no_left (header_rules (header_in b)) (field_rules k.0) e)

  high_count : 65535 < word b 1 → header_rules (header_in b) ≡ false
  unfolding header_rules
  high_count h =
      no_right (leb (min 255 (word b 2)) 15 && leb (min 65535 (word b 3)) 4095) (leb (min 65535 (word b 1)) 16383) (lt-leb (min 65535 (word b 1)) 16383 (omega arith))

  high_unit : 255 < word b 2 → header_rules (header_in b) ≡ false
  unfolding header_rules
  high_unit h = rw (lt-leb (min 255 (word b 2)) 15 (omega arith))

  high_transaction : 65535 < word b 3 → header_rules (header_in b) ≡ false
  unfolding header_rules
  high_transaction h =
      no_left (leb (min 255 (word b 2)) 15 && leb (min 65535 (word b 3)) 4095) (leb (min 65535 (word b 1)) 16383)
      (no_right (leb (min 255 (word b 2)) 15) (leb (min 65535 (word b 3)) 4095) (lt-leb (min 65535 (word b 3)) 4095 (omega arith)))

  no_size : 65535 < word b 4 → size_in (word b 4) ≡ 0
  no_size h = rw (lt-leb (word b 4) 65535 h)

  dump_nine : length b ≡ 21 → word b 0 ≡ 0 → 65535 < word b 4 → Nine b
  unfolding command_in field_rules
  dump_nine n c h =
      nine n (Dump (request_in b)) (rw c) (rw c) (no_right (header_rules (header_in b)) (field_rules (Dump (request_in b))) (no_right (aligned (requested (request_in b))) (leb 1 (request_in b).size) (rw (no_size h))))

  load_nine : length b ≡ 21 → word b 0 ≡ 4 → 65535 < word b 4 → Nine b
  unfolding command_in field_rules
  load_nine n c h =
      nine n (Load (request_in b)) (rw c) (rw c) (no_right (header_rules (header_in b)) (field_rules (Load (request_in b))) (no_left (aligned (requested (request_in b)) && leb 1 (request_in b).size) (leb (request_in b).size 11) (no_right (aligned (requested (request_in b))) (leb 1 (request_in b).size) (rw (no_size h)))))

  by_name_nine : length b ≡ 21 → word b 0 ≡ 9 → field_rules (DumpSymbol (symbol_request_in b)) ≡ false → Nine b
  unfolding command_in
  by_name_nine n c e = nine n (DumpSymbol (symbol_request_in b)) (rw c) (rw c) (no_right (header_rules (header_in b)) (field_rules (DumpSymbol (symbol_request_in b))) e)

  by_name_size : 65535 < word b 4 → field_rules (DumpSymbol (symbol_request_in b)) ≡ false
  unfolding field_rules
  by_name_size h = no_right (name_fits (symbol_request_in b).name) (leb 1 (symbol_request_in b).size) (rw (no_size h))

  size_nine : CommandBlock b → one_of (word b 0) (0 ∷ 4 ∷ 9 ∷ []) ≡ true → 65535 < word b 4 → Nine b
  size_nine d c h =
      either (eqb (word b 0) 0) (λ e. dump_nine d.words (eqb-true (word b 0) 0 e) h)
      (λ e. either (eqb (word b 0) 4) (λ f. load_nine d.words (eqb-true (word b 0) 4 f) h)
      (λ f. either (eqb (word b 0) 9) (λ g. by_name_nine d.words (eqb-true (word b 0) 9 g) (by_name_size h)) (λ g. absurd (none (rw (e, f, g) at c)))))

  pool_nine : length b ≡ 21 → word b 0 ≡ 7 → 65535 < word b 6 → Nine b
  unfolding command_in field_rules
  pool_nine n c h =
      nine n (PoolStatistics (min 65535 (word b 6))) (rw c) (rw c) (no_right (header_rules (header_in b)) (field_rules (PoolStatistics (min 65535 (word b 6)))) (lt-leb (min 65535 (word b 6)) 1 (omega arith)))

  -- a name of 255 bytes or more is none
  no_name : 255 < word b 19 → name_fits (min 255 (word b 19)) ≡ false
  no_name h = no_right (leb 1 (min 255 (word b 19))) (leb (min 255 (word b 19)) 48) (lt-leb (min 255 (word b 19)) 48 (omega arith))

  value_nine : length b ≡ 21 → word b 0 ≡ 8 → 255 < word b 19 → Nine b
  unfolding command_in field_rules
  value_nine n c h =
      nine n (SymbolValue (min 255 (word b 19))) (rw c) (rw c) (no_right (header_rules (header_in b)) (field_rules (SymbolValue (min 255 (word b 19)))) (no_name h))

  by_name_name : 255 < word b 19 → field_rules (DumpSymbol (symbol_request_in b)) ≡ false
  unfolding field_rules
  by_name_name h = no_left (name_fits (symbol_request_in b).name) (leb 1 (symbol_request_in b).size) (no_name h)

  name_nine : CommandBlock b → one_of (word b 0) (8 ∷ 9 ∷ []) ≡ true → 255 < word b 19 → Nine b
  name_nine d c h =
      either (eqb (word b 0) 8) (λ e. value_nine d.words (eqb-true (word b 0) 8 e) h)
      (λ e. either (eqb (word b 0) 9) (λ f. by_name_nine d.words (eqb-true (word b 0) 9 f) (by_name_name h)) (λ f. absurd (none (rw (e, f) at c))))

-- OTHER CODES AND LENGTHS

module _ (b buffer : List ℕ) where
  other_code : length b ≡ 21 → one_of (word b 0) (0 ∷ 1 ∷ 4 ∷ 7 ∷ 8 ∷ 9 ∷ []) ≡ false → lg_write_command b buffer ≡ record { number = 6; bytes = 0; buffer = buffer }
  unfolding lg_write_command command_in
  other_code n h =
      let p = eqb (word b 0) 0 in
      let q = eqb (word b 0) 1 in
      let r = eqb (word b 0) 4 in
      let s = eqb (word b 0) 7 in
      let t = eqb (word b 0) 8 in
      let u = eqb (word b 0) 9 in
      let after-p = or_right p (q || (r || (s || (t || (u || false))))) h in
      let after-q = or_right q (r || (s || (t || (u || false)))) after-p in
      let after-r = or_right r (s || (t || (u || false))) after-q in
      let after-s = or_right s (t || (u || false)) after-r in
      let after-t = or_right t (u || false) after-s in
      rw (
        eq-eqb (length b) 21 n,
        or_left p (q || (r || (s || (t || (u || false))))) h,
        or_left q (r || (s || (t || (u || false)))) after-p,
        or_left r (s || (t || (u || false))) after-q,
        or_left s (t || (u || false)) after-r,
        or_left t (u || false) after-s,
        or_left u false after-t,
      )

  other_block : length b ≢ 21 → lg_write_command b buffer ≡ record { number = 3; bytes = 0; buffer = buffer }
  unfolding lg_write_command
  other_block n = rw (ne_eqb (length b) 21 n)

-- THE READERS

module _ (p b : List ℕ) where
  read_is : (f : Telecommand) → length b ≡ 21 → (read_command p).reading ≡ Ok f
      → lg_read_command p b ≡ record { number = 0; block = head_words f ++ (read_command p).words ++ tail_words f.command }
  unfolding lg_read_command
  read_is f n e = rw (eq-eqb (length b) 21 n, e)

  unread_is : (r : Refusal) → length b ≡ 21 → (read_command p).reading ≡ Err r → lg_read_command p b ≡ record { number = number r; block = b }
  unfolding lg_read_command
  unread_is r n e = rw (eq-eqb (length b) 21 n, e)

  read_other : length b ≢ 21 → lg_read_command p b ≡ record { number = 3; block = b }
  unfolding lg_read_command
  read_other n = rw (ne_eqb (length b) 21 n)

  packet_is : (f : DumpPacket) → length b ≡ 8 → (read_packet p).reading ≡ Ok f
      → lg_read_packet p b ≡ record { number = 0; block = field_words f; bytes = length (read_packet p).part }
  unfolding lg_read_packet
  packet_is f n e = rw (eq-eqb (length b) 8 n, e)

  no_packet_is : (r : Refusal) → length b ≡ 8 → (read_packet p).reading ≡ Err r
      → lg_read_packet p b ≡ record { number = number r; block = b; bytes = length (read_packet p).part }
  unfolding lg_read_packet
  no_packet_is r n e = rw (eq-eqb (length b) 8 n, e)

  packet_other : length b ≢ 8 → lg_read_packet p b ≡ record { number = 3; block = b; bytes = 0 }
  unfolding lg_read_packet
  packet_other n = rw (ne_eqb (length b) 8 n)

pub ground_from_c : GroundFromC
ground_from_c =
    record {
      dump_words = λ h q. refl;
      cancel_words = λ h. refl;
      load_words = λ h q. refl;
      pool_words_lem = λ h i. refl;
      value_words = λ h n. refl;
      by_name_words = λ h q. refl;
      value_tail = λ n. refl;
      by_name_tail = λ q. refl;
      no_tail = λ q i. refl;
      packet_words = λ f. refl;
      dump = λ b c f e h. write_as b c.words (Dump (request b)) f (dump_is b e h);
      cancel = λ b c f e. write_as b c.words Cancel f (cancel_is b e);
      load = λ b c f e h. write_as b c.words (Load (request b)) f (load_is b e h);
      pool = λ b c f e h. write_as b c.words (PoolStatistics (word b 6)) f (pool_is b e h);
      value = λ b c f e h. write_as b c.words (SymbolValue (word b 19)) f (value_is b e h);
      by_name = λ b c f e h n. write_as b c.words (DumpSymbol (symbol_request b)) f (by_name_is b e h n);
      wide_count = λ b c h. header_nine b c (high_count b h);
      wide_unit = λ b c h. header_nine b c (high_unit b h);
      wide_transaction = λ b c h. header_nine b c (high_transaction b h);
      wide_size = size_nine;
      wide_pool = λ b c e h. pool_nine b c.words e h;
      wide_name = name_nine;
      write_code = other_code;
      write_lengths = other_block;
      read = read_is;
      unread = unread_is;
      read_lengths = read_other;
      packet = packet_is;
      no_packet = no_packet_is;
      packet_lengths = packet_other;
    }
