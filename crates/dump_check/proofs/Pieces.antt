-- What is compared of two packets, and the piece that a packet has.
-- Assumes nothing.
use Rattle.std.specs.Prelude.{Result, Ok, Err}
use mathlib.Core.Path.{◌≡◌, refl}
use mathlib.Core.Bool.{true, false, ◌&&◌}
use mathlib.Core.List.{List}
use Prim.Native.Nat.{ℕ, ◌-◌, ◌/◌, ◌%◌, ◌≤◌, ◌<◌}
use native.Mathlib.Omega.{arith}
use lib.Dec.{eqb}
use lib.ListN.{length}
use borrow.Author.Tests.{eqb-true, eqb-false, eq-eqb}
use Rattle.lists.proofs.Tests.{either}
use Rattle.wire.specs.Bytes.{be_at}
use Rattle.rules.specs.States.{piece_words}
use Rattle.rules.specs.Results.{lowest}
use Rattle.rules.specs.Demand3.{pieces, packets_due}
use Rattle.rules.specs.Ground.{packet_fields, packet_rows, read_packet}
use Rattle.rules.specs.declared.Refusal.{Refusal}
use Rattle.rules.proofs.PacketTests.{packet_out}
use Rattle.packet_reader.proofs.Steps.{refused_reading, accepted_reading}
use Rattle.whole_dump.specs.Check.{is_read, agree, piece_of}
use Rattle.whole_dump.proofs.Tests.{read_when}
use Rattle.dump_check.specs.Marks.{piece_in}

-- unit and transaction are compared at once
same_both : (x y : ℕ) → (eqb (x / 4096) (y / 4096) && eqb (x % 4096) (y % 4096)) ≡ eqb x y
same_both x y =
    either (eqb x y)
    (λ e. let q = eqb-true x y e in rw (e, q, eq-eqb (y / 4096) (y / 4096) refl, eq-eqb (y % 4096) (y % 4096) refl))
    (λ e. either (eqb (x / 4096) (y / 4096))
    (λ a. either (eqb (x % 4096) (y % 4096))
    (λ b. let u = eqb-true (x / 4096) (y / 4096) a in let t = eqb-true (x % 4096) (y % 4096) b in absurd (eqb-false x y e (omega arith)))
    (λ b. rw (a, b, e)))
    (λ a. rw (a, e)))

pub agree_is : (p q : List ℕ)
    → (eqb (be_at 2 p 6) (be_at 2 q 6) && eqb (be_at 4 p 12) (be_at 4 q 12) && eqb (be_at 4 p 16) (be_at 4 q 16)) ≡ agree (packet_fields p) (packet_fields q)
unfolding agree
agree_is p q = rw (← same_both (be_at 2 p 6) (be_at 2 q 6))

-- A PACKET THAT IS READ

module _ (p : List ℕ) (r : is_read (read_packet p).reading ≡ true) where
  pub read_long : 28 ≤ length p
  read_long = (packet_out p ((read_when p).0 r)).formed.bytes

  pub data_after : be_at 4 p 12 ≤ be_at 4 p 20
  data_after = (packet_out p ((read_when p).0 r)).cut.from

  pub piece_low : piece_of (packet_fields p) < 65
  unfolding piece_of piece_words
  piece_low = let c = (packet_out p ((read_when p).0 r)).cut in let m = c.most in let l = c.more in omega arith

  pub due_few : packets_due (packet_fields p).range ≤ 65
  unfolding pieces piece_words
  due_few = let c = (packet_out p ((read_when p).0 r)).cut in let m = c.most in omega arith

-- THE PIECE, by the reader's verdict

module _ (p : List ℕ) (v : Result (Unit {0}) Refusal) (ev : v ≡ lowest (packet_rows p)) where
  pub accepted_read : v ≡ (Ok tt) → is_read (read_packet p).reading ≡ true
  accepted_read e = rw (← accepted_reading p v ev e (packet_fields p) refl)

  pub low_piece : v ≡ Ok tt → (be_at 4 p 20 - be_at 4 p 12) / 4 / 1016 < 65
  unfolding piece_of piece_words
  low_piece e = piece_low p (accepted_read e)

  module _ (first : List ℕ) where
    pub refused_piece : (r : Refusal) → v ≡ Err r → 65 ≡ piece_in first p
    refused_piece r e = rw (← refused_reading p v ev r e)

    pub other_piece : v ≡ (Ok tt) → agree (packet_fields first) (packet_fields p) ≡ false → 65 ≡ piece_in first p
    other_piece e a = rw (accepted_read e, a)

    pub own_piece : v ≡ (Ok tt) → agree (packet_fields first) (packet_fields p) ≡ true → (be_at 4 p 20 - be_at 4 p 12) / 4 / 1016 ≡ piece_in first p
    unfolding piece_of piece_words
    own_piece e a = rw (accepted_read e, a)
