-- The numbers and lengths of answers (paper 01, "Result numbers"), each case by name: what else fixes the definitions of Results.antt and
-- Ground.antt that turn an answer into a number, and the part of an outcome that a call returns.
use Rattle.std.specs.Prelude.{◌≡◌, true, false, Ok, Err}
use Rattle.rules.specs.Results.{number, counted, verdict_number, answer_number, answer_length}
use Rattle.rules.specs.Commands.{Outcome, returned}
use Rattle.rules.specs.Ground.{reading_number, packet_number}
use Rattle.rules.specs.declared.DumpPacket.{DumpPacket}
use Rattle.rules.specs.declared.Refusal.{Refusal}
use Rattle.rules.specs.declared.Refusal.TheVariants.{BadState, ImageLength, BufferLength, Malformed, OtherApid, UnknownCode, PacketLength, OtherUnit, BadField, OutsideRegions, NoRight, TransactionBusy, PlacesBusy, NotBusy, PoolDamaged, NothingToSend, BadTable, UnknownSymbol, RunsOut}
use Rattle.rules.specs.declared.Telecommand.{Telecommand}
use Rattle.rules.specs.declared.Written.{Written}

pub record AnswerNumbers : Type 0 where
  -- the table of result numbers
  pub lent : (number BadState ≡ 1) × (number ImageLength ≡ 2) × (number BufferLength ≡ 3)
  pub packet : (number Malformed ≡ 4) × (number OtherApid ≡ 5) × (number UnknownCode ≡ 6) × (number PacketLength ≡ 7) × (number OtherUnit ≡ 8) × (number BadField ≡ 9)
  pub command : (number OutsideRegions ≡ 10) × (number NoRight ≡ 11) × (number TransactionBusy ≡ 12) × (number PlacesBusy ≡ 13) × (number NotBusy ≡ 14) × (number PoolDamaged ≡ 15)
  pub others : (number NothingToSend ≡ 16) × (number BadTable ≡ 17) × (number UnknownSymbol ≡ 18) × (number RunsOut ≡ 19)
  -- those that return the state as handed in, and those that are counted
  pub handed_in : (counted BadState ≡ false) × (counted ImageLength ≡ false) × (counted BufferLength ≡ false) × (counted OtherApid ≡ false)
      × (counted OtherUnit ≡ false) × (counted NothingToSend ≡ false)
  pub one_more : (counted Malformed ≡ true) × (counted UnknownCode ≡ true) × (counted PacketLength ≡ true) × (counted BadField ≡ true)
      × (counted OutsideRegions ≡ true) × (counted RunsOut ≡ true) × (counted NoRight ≡ true) × (counted TransactionBusy ≡ true)
      × (counted PlacesBusy ≡ true) × (counted NotBusy ≡ true) × (counted PoolDamaged ≡ true) × (counted BadTable ≡ true) × (counted UnknownSymbol ≡ true)
  -- done is 0, with the length that was written; a refusal is its number, with length 0
  pub done : (w : Written) → (answer_number (Ok w) ≡ 0) × (answer_length (Ok w) ≡ w.length)
  pub refused : (r : Refusal) → (answer_number (Err r) ≡ number r) × (answer_length (Err r) ≡ 0)
  pub started : (verdict_number (Ok tt) ≡ 0) × ((r : Refusal) → verdict_number (Err r) ≡ number r)
  -- the readers: 0 with the fields, and only then
  pub command_read : (f : Telecommand) → reading_number (Ok f) ≡ 0
  pub command_unread : (r : Refusal) → reading_number (Err r) ≡ number r
  pub packet_read : (f : DumpPacket) → packet_number (Ok f) ≡ 0
  pub packet_unread : (r : Refusal) → packet_number (Err r) ≡ number r
  -- a call returns the answer and the state of its outcome
  pub returns : (o : Outcome) → ((returned o).answer ≡ o.answer) × ((returned o).state ≡ o.state)
