-- The rows of the ground's calls apply exactly in the cases that paper 01, and paper 02 in A2, name for them.
-- Assumes nothing.
use Rattle.std.specs.Prelude.{Some}
use mathlib.Core.Path.{◌≡◌, refl, subst}
use mathlib.Core.List.{List}
use Prim.Native.Nat.{ℕ, ◌+◌, ◌*◌, ◌-◌, ◌/◌, ◌≤◌}
use native.Mathlib.Nat.{div-add-mod}
use native.Mathlib.Omega.{arith}
use mathlib.Core.Logic.{◌↔◌}
use mathlib.Core.Bool.{true, false, ◌||◌, not, and-true}
use lib.ListN.{length}
use Rattle.lists.proofs.Tests.{contra}
use Rattle.wire.specs.Bytes.{be_at}
use Rattle.wire.specs.ByByte.{byte, two, four}
use Rattle.wire.proofs.ByByte.{at_two, at_four}
use Rattle.rules.specs.Regions.{start_of}
use Rattle.rules.specs.States.{piece_words}
use Rattle.rules.specs.Packets.{packet_length, decode, field_rules, zero_rules}
use Rattle.rules.specs.Commands.{names_symbol}
use Rattle.rules.specs.Cases.{applies, Passes, bytes_of, ReaderCases, WriterCases, CutOf, PacketCases}
use Rattle.rules.specs.Ground.{header_rules, writer_rows, reader_rows, packet_fields, cut_rules, packet_rows}
use Rattle.rules.specs.declared.Command.{Command}
use Rattle.rules.specs.declared.Command.TheVariants.{Dump, Cancel, Load, PoolStatistics, SymbolValue, DumpSymbol}
use Rattle.rules.specs.declared.DumpPacket.{DumpPacket}
use Rattle.rules.specs.declared.Header.{Header}
use Rattle.rules.proofs.Allowed.{decode_value, decode_by_name}
use Rattle.rules.proofs.Cases.{row_passes, rule_passes, eqb_when, ltb_when, leb_when, and_when, all_when, layout_cases}
use Rattle.rules.proofs.PacketTests.{sent_before, CutIs, cut_out, cut_in, telemetry_out, telemetry_in}
use Rattle.rules.proofs.WritesWhen.{fields_out, fields_in}

-- THE COMMAND READER

module _ (p : List ℕ) where
  -- number 9 of a command that names no symbol: its packet has no bits that must be zero
  fields_alone : (k : Command) → decode p ≡ Some k → names_symbol (Some k) ≡ false → applies 9 (reader_rows p) ≡ (not (field_rules k) || false)
  unfolding reader_rows zero_rules
  fields_alone (Dump q) d n = rw (d, and-true)
  fields_alone Cancel d n = rw (d, and-true)
  fields_alone (Load q) d n = rw (d, and-true)
  fields_alone (PoolStatistics i) d n = rw (d, and-true)
  fields_alone (SymbolValue i) d n = absurd (contra refl n)
  fields_alone (DumpSymbol q) d n = absurd (contra refl n)

  pub reader_cases : ReaderCases (reader_rows p) p
  unfolding reader_rows field_rules zero_rules
  reader_cases =
      let w =
      and_when _ _ (all_when _ _ _ (leb_when 1 (byte p 10)) (leb_when (byte p 10) 48) (leb_when 1 (two p 64)))
      (and_when _ _ (eqb_when (byte p 11) 0) (eqb_when (two p 66) 0)) in
      record {
        layout = layout_cases (reader_rows p) p refl refl refl refl fields_alone;
        value = λ e. let d = decode_value p e in
            rw d (rule_passes _ (all_when _ _ _ (leb_when _ _) (leb_when _ _) (eqb_when _ _)));
        by_name = λ e. let d = decode_by_name p e in
            rw (d, at_two p 64, at_two p 66)
            (rule_passes _ (
              λ h. let x = w.0 h in ((x.0.0, x.0.1, x.1.0), x.1.1, x.0.2),
              λ h. w.1 ((h.0.0, h.0.1, h.2), (h.0.2, h.1)),
            ));
      }

-- THE COMMAND WRITER

pub length_of : (k : Command) → packet_length k ≡ bytes_of k
length_of (Dump q) = refl
length_of Cancel = refl
length_of (Load q) = refl
length_of (PoolStatistics i) = refl
length_of (SymbolValue n) = refl
length_of (DumpSymbol q) = refl

pub writer_cases : (h : Header) (k : Command) (buffer : List ℕ) → WriterCases (writer_rows h k buffer) h k buffer
unfolding writer_rows header_rules
writer_cases h k buffer =
    let w = and_when _ _ (all_when _ _ _ (leb_when h.unit 15) (leb_when h.transaction 4095) (leb_when h.count 16383)) (fields_out k, fields_in k) in
    record {
      room = rw (length_of k) (row_passes _ (ltb_when _ _));
      fields = rule_passes _ (λ e. let x = w.0 e in (x.0.0, x.0.1, x.0.2, x.1), λ f. w.1 ((f.0, f.1, f.2), f.3));
    }

-- THE DUMP PACKET READER

-- A cut in logic: its number is how many pieces were sent before.
module _ (f : DumpPacket) where
  cut_of : CutIs f → CutOf f.range.start.0 f.range.words f.here.0 f.words
  unfolding piece_words
  cut_of k =
      let sent = sent_before f in
      let e = div-add-mod sent 1016 in
      let w = div-add-mod (f.here.0 - start_of f.range) 4 in
      record {
        aligned = k.multiple;
        some = k.some;
        most = k.most;
        end = k.low;
        cut = sent / 1016;
        from = let a = k.from in let b = k.word in let c = k.cut in omega arith;
        below = let c = k.cut in let m = k.more in omega arith;
        as_many = let c = k.cut in let p = k.piece in omega arith;
      }

  of_cut : CutOf f.range.start.0 f.range.words f.here.0 f.words → CutIs f
  unfolding piece_words
  of_cut k =
      let a = k.from in
      let e : sent_before f ≡ 1016 * k.cut = omega arith in
      record {
        multiple = k.aligned;
        some = k.some;
        most = k.most;
        low = k.end;
        from = omega arith;
        word = omega arith;
        cut = omega arith;
        more = let b = k.below in omega arith;
        piece = let m = k.as_many in omega arith;
      }

cut_when : (p : List ℕ) → (cut_rules (packet_fields p) ≡ true) ↔ CutOf (four p 12) (four p 16) (four p 20) (four p 24)
cut_when p =
    let e : CutOf (be_at 4 p 12) (be_at 4 p 16) (be_at 4 p 20) (be_at 4 p 24) ≡ CutOf (four p 12) (four p 16) (four p 20) (four p 24) =
    λ i. CutOf (at_four p 12 i) (at_four p 16 i) (at_four p 20 i) (at_four p 24 i) in
    subst (λ (C : Type 0). (cut_rules (packet_fields p) ≡ true) ↔ C) e
    (λ h. cut_of (packet_fields p) (cut_out (packet_fields p) h), λ k. cut_in (packet_fields p) (of_cut (packet_fields p) k))

pub packet_cases : (p : List ℕ) → PacketCases (packet_rows p) p
unfolding packet_rows piece_words
packet_cases p =
    record {
      formed = rule_passes _ (telemetry_out p, telemetry_in p);
      apid = rule_passes _ (eqb_when _ _);
      bytes =
          subst (λ (w : ℕ). Passes (packet_rows p) 7 ((1 ≤ w) × (w ≤ 1016) × (length p ≡ 28 + 4 * w))) (at_four p 24)
          (rule_passes _ (all_when _ _ _ (leb_when _ _) (leb_when _ _) (eqb_when _ _)));
      cut = rule_passes _ (cut_when p);
    }
