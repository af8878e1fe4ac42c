-- What a command keeps of a state: its regions, their count and its pools. Its number and the length of its reply fit a byte.
-- Assumes nothing.
use Rattle.std.specs.Prelude.{Result, Ok, Err}
use mathlib.Core.Path.{◌≡◌, refl}
use Prim.Native.Nat.{ℕ, ◌<◌}
use lib.Dec.{lit<}
use Rattle.lists.proofs.Tests.{either}
use Rattle.rules.specs.Commands.{CommandArgs, Outcome, task, command_rows, refused_command, pool_words, replied, carry_out, conclude, command_call}
use Rattle.rules.specs.Pools.{Walk, damaged, whole, blocks_of}
use Rattle.rules.specs.Results.{number, counted, answer_number, answer_length, lowest}
use Rattle.rules.specs.declared.Refusal.{Refusal}
use Rattle.rules.specs.declared.Refusal.TheVariants.{BadState, ImageLength, BufferLength, Malformed, OtherApid, UnknownCode, PacketLength, OtherUnit, BadField, OutsideRegions, NoRight, TransactionBusy, PlacesBusy, NotBusy, PoolDamaged, NothingToSend, BadTable, UnknownSymbol, RunsOut}
use Rattle.rules.specs.declared.State.{State}
use Rattle.rules.specs.declared.Task.{Task}
use Rattle.rules.specs.declared.Task.TheVariants.{Nothing, DumpRange, CancelDump, LoadRange, CountPool, TellValue}

pub record Kept (s : State) (o : Outcome) : Type 0 where
  pub regions : o.state.regions ≡ s.regions
  pub count : o.state.count ≡ s.count
  pub pools : o.state.pools ≡ s.pools
  pub number : answer_number o.answer < 256
  pub length : answer_length o.answer < 256

pub refusal_small : (r : Refusal) → number r < 256
refusal_small BadState = lit< tt
refusal_small ImageLength = lit< tt
refusal_small BufferLength = lit< tt
refusal_small Malformed = lit< tt
refusal_small OtherApid = lit< tt
refusal_small UnknownCode = lit< tt
refusal_small PacketLength = lit< tt
refusal_small OtherUnit = lit< tt
refusal_small BadField = lit< tt
refusal_small OutsideRegions = lit< tt
refusal_small NoRight = lit< tt
refusal_small TransactionBusy = lit< tt
refusal_small PlacesBusy = lit< tt
refusal_small NotBusy = lit< tt
refusal_small PoolDamaged = lit< tt
refusal_small NothingToSend = lit< tt
refusal_small BadTable = lit< tt
refusal_small UnknownSymbol = lit< tt
refusal_small RunsOut = lit< tt

module _ (s : State) (c : CommandArgs) where
  refused_kept : (r : Refusal) → Kept s (refused_command s c r)
  refused_kept r =
      let n = refusal_small r in
      either (counted r)
      (λ e. rw e record { regions = refl; count = refl; pools = refl; number = n; length = lit< tt })
      (λ e. rw e record { regions = refl; count = refl; pools = refl; number = n; length = lit< tt })

  replied_kept : (i : ℕ) (w : Walk) → Kept s (replied s c i w)
  replied_kept i damaged = refused_kept PoolDamaged
  replied_kept i (whole bs) = record { regions = refl; count = refl; pools = refl; number = lit< tt; length = lit< tt }

  carried_kept : (k : Task) → Kept s (carry_out s c k)
  carried_kept Nothing = refused_kept UnknownCode
  carried_kept (DumpRange r) = record { regions = refl; count = refl; pools = refl; number = lit< tt; length = lit< tt }
  carried_kept CancelDump = record { regions = refl; count = refl; pools = refl; number = lit< tt; length = lit< tt }
  carried_kept (LoadRange r) = record { regions = refl; count = refl; pools = refl; number = lit< tt; length = lit< tt }
  carried_kept (CountPool i) = replied_kept i (blocks_of (pool_words s i c.image))
  carried_kept (TellValue v) = record { regions = refl; count = refl; pools = refl; number = lit< tt; length = lit< tt }

  concluded_kept : (v : Result (Unit {0}) Refusal) → Kept s (conclude s c v)
  concluded_kept (Err r) = refused_kept r
  concluded_kept (Ok tt) = carried_kept (task c)

  pub command_kept : Kept s (command_call s c)
  unfolding command_call
  command_kept = concluded_kept (lowest (command_rows s c))
