-- AFTER A CANCEL, beside demand 3, which speaks of dumps that are not cancelled: after a cancel answered 0 no slot writes a packet with its number
-- until a dump with that number is accepted again. Over every list of calls from a fresh start, in the bytes that the calls were lent and wrote.
use Rattle.std.specs.Prelude.{◌≡◌, List, ◌∷◌, ◌++◌, ℕ, ◌+◌, ◌*◌, ◌%◌}
use Rattle.wire.specs.ByByte.{byte}
use Rattle.rules.specs.States.{start_up}
use Rattle.rules.specs.Results.{verdict_number, answer_number}
use Rattle.rules.specs.Commands.{CommandArgs}
use Rattle.rules.specs.Slots.{SlotArgs}
use Rattle.rules.specs.Demand3.{Call, command, slot, LendsBytes, Event, events}
use Rattle.rules.specs.declared.Range.{Range}
use Rattle.rules.specs.declared.Region.{Region}

-- a transaction number: the low four bits of the byte at index i, and the next byte
abbrev pub number_at : List ℕ → ℕ → ℕ
number_at p i = byte p i % 16 * 256 + byte p (i + 1)

-- a command with this function code and transaction number, answered 0
pub record Told (code t : ℕ) (e : Event) : Type 0 where
  pub args : CommandArgs
  pub call : e.call ≡ command args
  pub code_byte : byte args.packet 6 ≡ code
  pub number : number_at args.packet 8 ≡ t
  pub answered : answer_number e.out.answer ≡ 0

-- a slot answered 0 that wrote a packet with this transaction number
pub record Wrote (t : ℕ) (e : Event) : Type 0 where
  pub args : SlotArgs
  pub call : e.call ≡ slot args
  pub answered : answer_number e.out.answer ≡ 0
  pub number : number_at e.out.buffer 6 ≡ t

-- no dump with this number is accepted in these calls, by its address or by a name
abbrev pub NoneAccepted : ℕ → List Event → Type 0
NoneAccepted t es = (xs ys : List Event) (g : Event) → es ≡ xs ++ g ∷ ys → (Told 0 t g → ⊥) × (Told 9 t g → ⊥)

abbrev pub Silence : Type 0
Silence =
    (rs : List Region) (n : ℕ) (pools : List Range) (unit : ℕ) → verdict_number (start_up rs n pools unit).verdict ≡ 0
    → (calls : List Call) → LendsBytes calls
    → (before between after : List Event) (e f : Event) (t : ℕ)
    → events (start_up rs n pools unit).state calls ≡ before ++ e ∷ (between ++ f ∷ after)
    → Told 1 t e
    → NoneAccepted t between
    → Wrote t f → ⊥
