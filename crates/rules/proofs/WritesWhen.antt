-- The command writer writes exactly when there is room and the fields are within their bounds.
-- Assumes nothing.
use mathlib.Core.Path.{◌≡◌, refl}
use mathlib.Core.Logic.{◌↔◌}
use mathlib.Core.Bool.{true, ◌&&◌}
use mathlib.Core.List.{List}
use Prim.Native.Nat.{ℕ, ◌≤◌}
use lib.Dec.{leb}
use borrow.Author.Tests.{leb-true, le-leb, eqb-true, eq-eqb}
use Rattle.lists.specs.Splice.{splice}
use Rattle.lists.proofs.Tests.{and_left, and_right, and_both}
use Rattle.rules.specs.Regions.{aligned}
use Rattle.rules.specs.Packets.{packet_length, requested, name_fits, field_rules, command_bytes}
use Rattle.rules.specs.Results.{answer_number, answer_length}
use Rattle.rules.specs.Ground.{write_command}
use Rattle.rules.specs.Cases.{FieldsAllowed}
use Rattle.rules.specs.ReadBack.{Writes}
use Rattle.rules.specs.declared.Command.{Command}
use Rattle.rules.specs.declared.Command.TheVariants.{Dump, Cancel, Load, PoolStatistics, SymbolValue, DumpSymbol}
use Rattle.rules.specs.declared.Header.{Header}
use Rattle.rules.proofs.GroundTests.{Writable, writable_out, writable_in}

name_out : (n : ℕ) → name_fits n ≡ true → (1 ≤ n) × (n ≤ 48)
name_out n h = (leb-true _ _ (and_left (leb 1 n) (leb n 48) h), leb-true _ _ (and_right (leb 1 n) (leb n 48) h))

pub fields_out : (k : Command) → field_rules k ≡ true → FieldsAllowed k
unfolding field_rules
fields_out (Dump q) h = (eqb-true _ _ (and_left (aligned (requested q)) (leb 1 q.size) h), leb-true _ _ (and_right (aligned (requested q)) (leb 1 q.size) h))
fields_out Cancel h = tt
fields_out (Load q) h =
    let a = aligned (requested q) in
    let b = leb 1 q.size in
    let c = leb q.size 11 in
    let g = and_left (a && b) c h in
    (eqb-true _ _ (and_left a b g), leb-true _ _ (and_right a b g), leb-true _ _ (and_right (a && b) c h))
fields_out (PoolStatistics i) h = leb-true _ _ h
fields_out (SymbolValue n) h = name_out n h
fields_out (DumpSymbol q) h =
    let n = name_out q.name (and_left (name_fits q.name) (leb 1 q.size) h) in
    (n.0, n.1, leb-true _ _ (and_right (name_fits q.name) (leb 1 q.size) h))

pub fields_in : (k : Command) → FieldsAllowed k → field_rules k ≡ true
unfolding field_rules
fields_in (Dump q) f = and_both (eq-eqb _ _ f.0) (le-leb _ _ f.1)
fields_in Cancel f = refl
fields_in (Load q) f = and_both (and_both (eq-eqb _ _ f.0) (le-leb _ _ f.1)) (le-leb _ _ f.2)
fields_in (PoolStatistics i) f = le-leb _ _ f
fields_in (SymbolValue n) f = and_both (le-leb _ _ f.0) (le-leb _ _ f.1)
fields_in (DumpSymbol q) f = and_both (and_both (le-leb _ _ f.0) (le-leb _ _ f.1)) (le-leb _ _ f.2)

module _ (h : Header) (k : Command) (ws buffer : List ℕ) where
  writes_out : Writable h k buffer → Writes h k buffer
  writes_out w =
      record { room = w.room; unit = w.unit; transaction = w.transaction; count = w.count; fields = fields_out k w.fields }

  writes_in : Writes h k buffer → Writable h k buffer
  writes_in w =
      record { room = w.room; unit = w.unit; transaction = w.transaction; count = w.count; fields = fields_in k w.fields }

  pub writes_when : (answer_number (write_command h k ws buffer).answer ≡ 0) ↔ Writes h k buffer
  writes_when = (λ e. writes_out (writable_out h k ws buffer e), λ w. rw (writable_in h k ws buffer (writes_in w)))

  pub writes_length : Writes h k buffer
      → (answer_length (write_command h k ws buffer).answer ≡ packet_length k) × ((write_command h k ws buffer).buffer ≡ splice buffer 0 (command_bytes h k ws))
  writes_length w = rw (writable_in h k ws buffer (writes_in w)) (refl, refl)
