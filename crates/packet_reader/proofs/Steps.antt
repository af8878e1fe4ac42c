-- The steps of the dump packet reader give what the table of its rows gives.
-- Assumes nothing.
use Rattle.std.specs.Prelude.{Result, Ok, Err}
use mathlib.Core.Path.{◌≡◌, refl, sym, ap, ◌∙◌}
use mathlib.Core.Logic.{◌≢◌}
use mathlib.Core.Bool.{Bool, true, false, ◌&&◌, not}
use mathlib.Core.List.{List, []}
use Prim.Native.Nat.{ℕ, ◌+◌, ◌*◌, ◌-◌, ◌/◌, ◌%◌, min, ◌≤◌, ◌<◌}
use native.Mathlib.Omega.{arith}
use lib.Dec.{leb, eqb}
use lib.ListN.{length, take, drop, length-drop}
use lib.Seq.{take_all}
use borrow.Author.Tests.{leb-true, lt-leb, le-leb, lt-ltb, le-ltb, eq-eqb, ne_eqb, not-true, not-false}
use Rattle.lists.proofs.Tests.{either, and_left}
use Rattle.wire.specs.Bytes.{be_at}
use Rattle.rules.specs.Regions.{start_of}
use Rattle.rules.specs.States.{piece_words}
use Rattle.rules.specs.Results.{lowest}
use Rattle.rules.specs.Packets.{primary_rules, apid_of}
use Rattle.rules.specs.Ground.{packet_fields, could_be_dumped, is_cut, cut_rules, packet_rows, conclude_packet, read_packet}
use Rattle.rules.proofs.LowestNumber.{test_passed}
use Rattle.rules.specs.declared.DumpPacket.{DumpPacket}
use Rattle.rules.specs.declared.Range.{Range}
use Rattle.rules.specs.declared.Refusal.{Refusal}
use Rattle.rules.specs.declared.Refusal.TheVariants.{Malformed, OtherApid, PacketLength, BadField}

-- THE CUT

-- a test that holds may stand between two others
between : (a b c : Bool) → b ≡ true → (a && c) ≡ (a && b && c)
between a b c h = rw h (either a (λ e. rw e) (λ e. rw e))

none_between : (a b c : Bool) → b ≡ false → false ≡ (a && b && c)
none_between a b c h = rw h (either a (λ e. rw e) (λ e. rw e))

module _ (r : Range) (sent words : ℕ) where
  pub all_sent : r.words ≤ sent → false ≡ is_cut r sent words
  all_sent h = none_between (eqb (sent % piece_words r) 0) _ (eqb words (min (piece_words r) (r.words - sent))) (le-ltb sent r.words h)

  pub some_left : sent < r.words → (most : ℕ) → most ≡ min 1016 (r.words - sent) → (eqb (sent % 1016) 0 && eqb words most) ≡ is_cut r sent words
  unfolding piece_words
  some_left h most e = rw e (between (eqb (sent % 1016) 0) _ (eqb words (min 1016 (r.words - sent))) (lt-ltb sent r.words h))

module _ (f : DumpPacket) where
  abbrev offset : ℕ
  offset = f.here.0 - start_of f.range

  pub before_start : f.here.0 < start_of f.range → false ≡ cut_rules f
  unfolding cut_rules
  before_start h =
      let e : (could_be_dumped f.range && leb (start_of f.range) f.here.0) ≡ false =
      rw (lt-leb (start_of f.range) f.here.0 h) (either (could_be_dumped f.range) (λ e. rw e) (λ e. rw e))
      in
      rw e

  pub from_start : start_of f.range ≤ f.here.0
      → (could_be_dumped f.range && eqb (offset % 4) 0 && is_cut f.range (offset / 4) f.words) ≡ cut_rules f
  unfolding cut_rules
  from_start h =
      rw (between (could_be_dumped f.range) (leb (start_of f.range) f.here.0) (eqb (offset % 4) 0) (le-leb (start_of f.range) f.here.0 h))

-- THE ROWS, each from what the functions that were called before gave

pub short : (p : List ℕ) → length p < 28 → Err Malformed ≡ lowest (packet_rows p)
unfolding packet_rows lowest
short p l = rw (lt-leb 28 (length p) l)

module _ (p : List ℕ) (long : 28 ≤ length p) (a : Bool) (ea : a ≡ primary_rules 0 0 p) where
  pub malformed : not a ≡ true → Err Malformed ≡ lowest (packet_rows p)
  unfolding packet_rows lowest
  malformed h = let e : primary_rules 0 0 p ≡ false = rw ea at (not-true a h) in rw (le-leb 28 (length p) long, e)

  module _ (h : not a ≡ false) (x : ℕ) (ex : x ≡ be_at 2 p 0) where
    formed : (leb 28 (length p) && primary_rules 0 0 p) ≡ true
    formed = let e : primary_rules 0 0 p ≡ true = rw ea at (not-false a h) in rw (le-leb 28 (length p) long, e)

    pub other_apid : x % 2048 ≢ 788 → Err OtherApid ≡ lowest (packet_rows p)
    unfolding packet_rows lowest
    other_apid n = let e : eqb (apid_of p) 788 ≡ false = rw ex at (ne_eqb (x % 2048) 788 n) in rw (formed, e)

    module _ (k : x % 2048 ≡ 788) (f : DumpPacket) (ef : f ≡ packet_fields p) where
      dumped : eqb (apid_of p) 788 ≡ true
      dumped = rw ex at (eq-eqb (x % 2048) 788 k)

      abbrev sized : DumpPacket → Bool
      sized g = leb 1 g.words && leb g.words 1016 && eqb (length p) (28 + 4 * g.words)

      pub wrong_length : not (leb 1 f.words && leb f.words 1016 && eqb (length p) (28 + 4 * f.words)) ≡ true
          → Err PacketLength ≡ lowest (packet_rows p)
      unfolding packet_rows lowest piece_words
      wrong_length n =
          let e : sized (packet_fields p) ≡ false = ap sized (sym ef) ∙ not-true (sized f) n in
          rw (formed, dumped, e)

      module _ (l : not (leb 1 f.words && leb f.words 1016 && eqb (length p) (28 + 4 * f.words)) ≡ false) (c : Bool) (ec : c ≡ cut_rules f) where
        right_length : sized (packet_fields p) ≡ true
        right_length = ap sized (sym ef) ∙ not-false (sized f) l

        pub no_cut : not c ≡ true → Err BadField ≡ lowest (packet_rows p)
        unfolding packet_rows lowest piece_words
        no_cut n =
            let e : cut_rules (packet_fields p) ≡ false = ap cut_rules (sym ef) ∙ sym ec ∙ not-true c n in
            rw (formed, dumped, right_length, e)

        pub accepted : not c ≡ false → (Ok tt) ≡ lowest (packet_rows p)
        unfolding packet_rows lowest piece_words
        accepted n =
            let e : cut_rules (packet_fields p) ≡ true = ap cut_rules (sym ef) ∙ sym ec ∙ not-false c n in
            rw (formed, dumped, right_length, e)

-- THE READING, by the verdict

module _ (p : List ℕ) (v : Result (Unit {0}) Refusal) (ev : v ≡ lowest (packet_rows p)) where
  pub refused_reading : (r : Refusal) → v ≡ Err r → Err r ≡ (read_packet p).reading
  unfolding read_packet
  refused_reading r e = ap (λ (w : Result (Unit {0}) Refusal). (conclude_packet p w).reading) (sym e ∙ ev)

  pub accepted_reading : v ≡ (Ok tt) → (f : DumpPacket) → f ≡ packet_fields p → Ok f ≡ (read_packet p).reading
  unfolding read_packet
  accepted_reading e f ef = ap Ok ef ∙ ap (λ (w : Result (Unit {0}) Refusal). (conclude_packet p w).reading) (sym e ∙ ev)

  pub accepted_long : v ≡ (Ok tt) → 28 ≤ length p
  unfolding packet_rows
  accepted_long e =
      leb-true _ _ (and_left (leb 28 (length p)) (primary_rules 0 0 p) (not-false _ (test_passed (packet_rows p) (sym ev ∙ e) 4)))

-- THE DATA PART

module _ (p : List ℕ) where
  pub refused_part : (r : Refusal) → (read_packet p).reading ≡ Err r → (read_packet p).part ≡ []
  unfolding read_packet
  refused_part r = go (lowest (packet_rows p))
    where
      go : (v : Result (Unit {0}) Refusal) → (conclude_packet p v).reading ≡ Err r → (conclude_packet p v).part ≡ []
      go (Err x) e = refl
      go (Ok tt) e = let z : ◌≡◌ {A = ℕ} 0 1 = cc in absurd (omega arith)

  pub accepted_part : (f : DumpPacket) → (read_packet p).reading ≡ Ok f → (28 ≤ length p) × ((read_packet p).part ≡ drop 28 p)
  unfolding read_packet
  accepted_part f = go (lowest (packet_rows p)) refl
    where
      go : (v : Result (Unit {0}) Refusal) → lowest (packet_rows p) ≡ v → (conclude_packet p v).reading ≡ Ok f → (28 ≤ length p) × ((conclude_packet p v).part ≡ drop 28 p)
      go (Err x) q e = let z : ◌≡◌ {A = ℕ} 0 1 = cc in absurd (omega arith)
      go (Ok tt) q e = (accepted_long p _ refl q, refl)

  -- the bytes from the header's end to the packet's end
  pub data_part : (f : DumpPacket) → (read_packet p).reading ≡ Ok f → take (length p - 28) (drop 28 p) ≡ (read_packet p).part
  data_part f e = take_all (length p - 28) (drop 28 p) (simp length-drop (omega arith)) ∙ sym (accepted_part f e).1
