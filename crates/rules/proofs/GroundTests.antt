-- The command writer writes, and the command reader reads, exactly if each of their tests passes.
-- Assumes nothing.
use Rattle.std.specs.Prelude.{Option, Some, None, Result, Ok, Err}
use mathlib.Core.Path.{◌≡◌, refl, ap, ◌∙◌}
use mathlib.Core.Bool.{true, ◌&&◌, not}
use mathlib.Core.List.{List, []}
use Prim.Native.Nat.{ℕ, ◌≤◌}
use native.Mathlib.Omega.{arith}
use lib.Dec.{leb}
use lib.ListN.{length}
use borrow.Author.Tests.{ltb-false, le-ltb, leb-true, le-leb, eqb-true, eq-eqb, not-false}
use Rattle.lists.proofs.Tests.{and_left, and_right, and_both}
use Rattle.rules.specs.States.{fresh_state}
use Rattle.rules.specs.Packets.{header_at, command_unit, decode, packet_length, field_rules, zero_rules}
use Rattle.rules.specs.Results.{answer_number, lowest}
use Rattle.rules.specs.Demand2.{ForThisBox}
use Rattle.rules.specs.Ground.{header_rules, writer_rows, conclude_write, write_command, reader_rows, fields_read, conclude_read, read_command}
use Rattle.rules.specs.declared.Command.{Command}
use Rattle.rules.specs.declared.Header.{Header}
use Rattle.rules.specs.declared.State.{State}
use Rattle.rules.specs.declared.Telecommand.{Telecommand}
use Rattle.rules.proofs.LowestNumber.{number_some}
use Rattle.rules.proofs.Passed.{NoneApplies, lowest_none, none_lowest}
use Rattle.rules.proofs.Allowed.{box_out, box_in}
use Rattle.rules.specs.declared.Refusal.{Refusal}

-- THE WRITER

-- what the writer's tests say
pub record Writable (h : Header) (k : Command) (buffer : List ℕ) : Type 0 where
  pub room : packet_length k ≤ length buffer
  pub unit : h.unit ≤ 15
  pub transaction : h.transaction ≤ 4095
  pub count : h.count ≤ 16383
  pub fields : field_rules k ≡ true

module _ (h : Header) (k : Command) (ws buffer : List ℕ) where
  rows_writable : NoneApplies (writer_rows h k buffer) → Writable h k buffer
  unfolding writer_rows header_rules
  rows_writable (room, (rules, end)) =
      let u = leb h.unit 15 in
      let t = leb h.transaction 4095 in
      let c = leb h.count 16383 in
      let f = not-false (u && t && c && field_rules k) rules in
      let g = and_left (u && t && c) (field_rules k) f in
      record {
        room = ltb-false _ _ room;
        unit = leb-true _ _ (and_left u t (and_left (u && t) c g));
        transaction = leb-true _ _ (and_right u t (and_left (u && t) c g));
        count = leb-true _ _ (and_right (u && t) c g);
        fields = and_right (u && t && c) (field_rules k) f;
      }

  writable_rows : Writable h k buffer → NoneApplies (writer_rows h k buffer)
  unfolding writer_rows header_rules
  writable_rows w =
      let g = and_both (and_both (le-leb _ _ w.unit) (le-leb _ _ w.transaction)) (le-leb _ _ w.count) in
      (le-ltb _ _ w.room, (ap not (and_both g w.fields), tt))

  -- an answer of 0 is no refusal
  written : (v : Result (Unit {0}) Refusal) → answer_number (conclude_write h k ws buffer v).answer ≡ 0 → v ≡ (Ok tt)
  written (Ok tt) e = refl
  written (Err r) e = let l = number_some r in absurd (omega arith)

  pub writable_out : answer_number (write_command h k ws buffer).answer ≡ 0 → Writable h k buffer
  unfolding write_command
  writable_out e = rows_writable (lowest_none _ (written (lowest (writer_rows h k buffer)) e))

  pub writable_in : Writable h k buffer → write_command h k ws buffer ≡ conclude_write h k ws buffer (Ok tt)
  unfolding write_command
  writable_in w = ap (conclude_write h k ws buffer) (none_lowest _ (writable_rows w))

-- THE READER

-- a box with the unit of a packet
abbrev pub box_of : List ℕ → State
box_of p = fresh_state [] 0 [] (command_unit p)

-- what the reader's tests say
pub record Readable (p : List ℕ) (k : Command) : Type 0 where
  pub box : ForThisBox (box_of p) p
  pub known : decode p ≡ Some k
  pub bytes : length p ≡ packet_length k
  pub fields : field_rules k ≡ true
  pub zeros : zero_rules p k ≡ true

module _ (p : List ℕ) where
  rows_readable : (k : Command) → decode p ≡ Some k → NoneApplies (reader_rows p) → Readable p k
  unfolding reader_rows
  rows_readable k e (shape, (apid, (known, (bytes, (fields, end))))) =
      let f = not-false _ (rw e at fields) in
      record {
        box = box_out (box_of p) p (not-false _ shape) (eqb-true _ _ (not-false _ apid)) refl;
        known = e;
        bytes = eqb-true _ _ (not-false _ (rw e at bytes));
        fields = and_left (field_rules k) (zero_rules p k) f;
        zeros = and_right (field_rules k) (zero_rules p k) f;
      }

  readable_rows : (k : Command) → Readable p k → NoneApplies (reader_rows p)
  unfolding reader_rows
  readable_rows k r =
      rw r.known (
        ap not (box_in (box_of p) p r.box),
        (ap not (eq-eqb _ _ r.box.apid), (refl, (ap not (eq-eqb _ _ r.bytes), (ap not (and_both r.fields r.zeros), tt)))),
      )

  pub readable_in : (k : Command) → Readable p k → read_command p ≡ fields_read p (Some k)
  unfolding read_command
  readable_in k r = ap (conclude_read p) (none_lowest _ (readable_rows k r)) ∙ ap (fields_read p) r.known

  module _ (h : Header) (k : Command) where
    fields_out : (d : Option Command) → (fields_read p d).reading ≡ Ok (record { header = h; command = k }) → (d ≡ Some k) × (header_at p 8 ≡ h)
    fields_out None e = let z : ◌≡◌ {A = ℕ} 0 1 = cc in absurd (omega arith)
    fields_out (Some j) e =
        let t : ◌≡◌ {A = Telecommand} (record { header = header_at p 8; command = j }) (record { header = h; command = k }) = cc in
        (ap (λ (x : Telecommand). Some x.command) t, ap (λ (x : Telecommand). x.header) t)

    verdict_out : (v : Result (Unit {0}) Refusal) → lowest (reader_rows p) ≡ v → (conclude_read p v).reading ≡ Ok (record { header = h; command = k })
        → Readable p k × (header_at p 8 ≡ h)
    verdict_out (Err r) v e = let z : ◌≡◌ {A = ℕ} 0 1 = cc in absurd (omega arith)
    verdict_out (Ok tt) v e = let (d, g) = fields_out (decode p) e in (rows_readable k d (lowest_none _ v), g)

    pub readable_out : (read_command p).reading ≡ Ok (record { header = h; command = k }) → Readable p k × (header_at p 8 ≡ h)
    unfolding read_command
    readable_out e = verdict_out (lowest (reader_rows p)) refl e
