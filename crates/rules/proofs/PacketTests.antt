-- The dump packet reader accepts exactly the packets that pass its tests: the tests as facts one by one, both ways.
-- Assumes nothing.
use Rattle.std.specs.Prelude.{Result, Ok, Err}
use mathlib.Core.Path.{◌≡◌, refl, ap}
use mathlib.Core.Bool.{true, ◌&&◌, not}
use mathlib.Core.List.{List}
use Prim.Native.Nat.{ℕ, ◌+◌, ◌*◌, ◌-◌, ◌/◌, ◌%◌, ◌≤◌, ◌<◌, min}
use native.Mathlib.Omega.{arith}
use lib.Dec.{leb, ltb, eqb}
use lib.ListN.{length}
use borrow.Author.Tests.{leb-true, le-leb, ltb-true, lt-ltb, eqb-true, eq-eqb, not-false}
use Rattle.lists.proofs.Tests.{and_left, and_right}
use Rattle.rules.specs.Regions.{start_of, end_of, aligned}
use Rattle.rules.specs.States.{piece_words}
use Rattle.rules.specs.Packets.{version_of, type_of, second_header_of, sequence_flags_of, length_field_of, apid_of, primary_rules}
use Rattle.rules.specs.Results.{lowest}
use Rattle.rules.specs.Cases.{TelemetryFormed}
use Rattle.rules.specs.Slots.{dump_apid, packet_header}
use Rattle.rules.specs.Ground.{packet_fields, could_be_dumped, is_cut, cut_rules, packet_rows, packet_number, conclude_packet, read_packet}
use Rattle.rules.specs.declared.DumpPacket.{DumpPacket}
use Rattle.rules.proofs.LowestNumber.{number_some}
use Rattle.rules.proofs.Passed.{NoneApplies, lowest_none, none_lowest}
use Rattle.rules.specs.declared.Refusal.{Refusal}

-- THE CUT

-- the words of the requested range before the data
abbrev pub sent_before : DumpPacket → ℕ
sent_before f = (f.here.0 - start_of f.range) / 4

pub record CutIs (f : DumpPacket) : Type 0 where
  pub multiple : start_of f.range % 4 ≡ 0
  pub some : 1 ≤ f.range.words
  pub most : f.range.words ≤ 65535
  pub low : end_of f.range ≤ 4294967296
  pub from : start_of f.range ≤ f.here.0
  pub word : (f.here.0 - start_of f.range) % 4 ≡ 0
  pub cut : sent_before f % piece_words f.range ≡ 0
  pub more : sent_before f < f.range.words
  pub piece : f.words ≡ min (piece_words f.range) (f.range.words - sent_before f)

module _ (f : DumpPacket) where
  pub cut_out : cut_rules f ≡ true → CutIs f
  unfolding cut_rules
  cut_out h =
      let r = f.range in
      let a = aligned r in
      let b = leb 1 r.words in
      let c = leb r.words 65535 in
      let e = leb (end_of r) 4294967296 in
      let l = leb (start_of r) f.here.0 in
      let w = eqb ((f.here.0 - start_of r) % 4) 0 in
      let k = is_cut r (sent_before f) f.words in
      let x = eqb (sent_before f % piece_words r) 0 in
      let y = ltb (sent_before f) r.words in
      let z = eqb f.words (min (piece_words r) (r.words - sent_before f)) in
      let h2 = and_left (could_be_dumped r && l && w) k h in
      let h1 = and_left (could_be_dumped r && l) w h2 in
      let d3 = and_left (could_be_dumped r) l h1 in
      let d2 = and_left (a && b && c) e d3 in
      let d1 = and_left (a && b) c d2 in
      let k2 = and_right (could_be_dumped r && l && w) k h in
      let k1 = and_left (x && y) z k2 in
      record {
        multiple = eqb-true _ _ (and_left a b d1);
        some = leb-true _ _ (and_right a b d1);
        most = leb-true _ _ (and_right (a && b) c d2);
        low = leb-true _ _ (and_right (a && b && c) e d3);
        from = leb-true _ _ (and_right (could_be_dumped r) l h1);
        word = eqb-true _ _ (and_right (could_be_dumped r && l) w h2);
        cut = eqb-true _ _ (and_left x y k1);
        more = ltb-true _ _ (and_right x y k1);
        piece = eqb-true _ _ (and_right (x && y) z k2);
      }

  pub cut_in : CutIs f → cut_rules f ≡ true
  unfolding cut_rules
  cut_in k =
      let r = f.range in
      rw (
        eq-eqb (start_of r % 4) 0 k.multiple,
        le-leb 1 r.words k.some,
        le-leb r.words 65535 k.most,
        le-leb (end_of r) 4294967296 k.low,
        le-leb (start_of r) f.here.0 k.from,
        eq-eqb ((f.here.0 - start_of r) % 4) 0 k.word,
        eq-eqb (sent_before f % piece_words r) 0 k.cut,
        lt-ltb (sent_before f) r.words k.more,
        eq-eqb f.words (min (piece_words r) (r.words - sent_before f)) k.piece,
      )

-- THE PACKET

pub record PacketIs (p : List ℕ) : Type 0 where
  pub formed : TelemetryFormed p
  pub apid : apid_of p ≡ dump_apid
  pub some : 1 ≤ (packet_fields p).words
  pub most : (packet_fields p).words ≤ piece_words (packet_fields p).range
  pub bytes : length p ≡ packet_header + 4 * (packet_fields p).words
  pub cut : CutIs (packet_fields p)

module _ (p : List ℕ) where
  pub telemetry_out : (leb packet_header (length p) && primary_rules 0 0 p) ≡ true → TelemetryFormed p
  telemetry_out k =
      let a = leb packet_header (length p) in
      let v = eqb (version_of p) 0 in
      let t = eqb (type_of p) 0 in
      let s = eqb (second_header_of p) 0 in
      let q = eqb (sequence_flags_of p) 3 in
      let l = eqb (length_field_of p + 7) (length p) in
      let h4 = and_right a (primary_rules 0 0 p) k in
      let h3 = and_left (v && t && s && q) l h4 in
      let h2 = and_left (v && t && s) q h3 in
      let h1 = and_left (v && t) s h2 in
      record {
        bytes = leb-true _ _ (and_left a (primary_rules 0 0 p) k);
        version = eqb-true _ _ (and_left v t h1);
        type = eqb-true _ _ (and_right v t h1);
        second_header = eqb-true _ _ (and_right (v && t) s h2);
        sequence_flags = eqb-true _ _ (and_right (v && t && s) q h3);
        length_field = eqb-true _ _ (and_right (v && t && s && q) l h4);
      }

  pub telemetry_in : TelemetryFormed p → (leb packet_header (length p) && primary_rules 0 0 p) ≡ true
  telemetry_in k =
      rw (
        le-leb packet_header (length p) k.bytes,
        eq-eqb (version_of p) 0 k.version,
        eq-eqb (type_of p) 0 k.type,
        eq-eqb (second_header_of p) 0 k.second_header,
        eq-eqb (sequence_flags_of p) 3 k.sequence_flags,
        eq-eqb (length_field_of p + 7) (length p) k.length_field,
      )

  rows_out : NoneApplies (packet_rows p) → PacketIs p
  unfolding packet_rows
  rows_out (shape, (apid, (bytes, (cut, end)))) =
      let f = packet_fields p in
      let x = leb 1 f.words in
      let y = leb f.words (piece_words f.range) in
      let z = eqb (length p) (packet_header + 4 * f.words) in
      let b2 = not-false (x && y && z) bytes in
      let b1 = and_left (x && y) z b2 in
      record {
        formed = telemetry_out (not-false _ shape);
        apid = eqb-true _ _ (not-false _ apid);
        some = leb-true _ _ (and_left x y b1);
        most = leb-true _ _ (and_right x y b1);
        bytes = eqb-true _ _ (and_right (x && y) z b2);
        cut = cut_out f (not-false _ cut);
      }

  rows_in : PacketIs p → NoneApplies (packet_rows p)
  unfolding packet_rows
  rows_in k =
      let f = packet_fields p in
      let bytes : (leb 1 f.words && leb f.words (piece_words f.range) && eqb (length p) (packet_header + 4 * f.words)) ≡ true =
      rw (
        le-leb 1 f.words k.some,
        le-leb f.words (piece_words f.range) k.most,
        eq-eqb (length p) (packet_header + 4 * f.words) k.bytes,
      )
      in (
        ap not (telemetry_in k.formed),
        (ap not (eq-eqb (apid_of p) dump_apid k.apid), (ap not bytes, (ap not (cut_in f k.cut), tt))),
      )

  -- an answer of 0 is no refusal
  concluded : (v : Result (Unit {0}) Refusal) → packet_number (conclude_packet p v).reading ≡ 0 → v ≡ (Ok tt)
  concluded (Ok tt) h = refl
  concluded (Err r) h = let l = number_some r in absurd (omega arith)

  pub packet_out : packet_number (read_packet p).reading ≡ 0 → PacketIs p
  unfolding read_packet
  packet_out h = rows_out (lowest_none (packet_rows p) (concluded (lowest (packet_rows p)) h))

  pub packet_in_lem : PacketIs p → read_packet p ≡ conclude_packet p (Ok tt)
  unfolding read_packet
  packet_in_lem k = ap (conclude_packet p) (none_lowest (packet_rows p) (rows_in k))
