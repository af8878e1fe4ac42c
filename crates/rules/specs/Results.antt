-- Paper 01, "Result numbers": the number of each refusal, which refusals are counted, and the lowest number that applies.
use Rattle.std.specs.Prelude.{Bool, true, false, cond, not, List, [], ◌∷◌, ℕ, ltb, eqb, length, Result, Ok, Err}
use Rattle.rules.specs.Regions.{image_length}
use Rattle.rules.specs.States.{good_state}
use Rattle.rules.specs.declared.State.{State}
use Rattle.rules.specs.declared.Refusal.{Refusal}
use Rattle.rules.specs.declared.Refusal.TheVariants.{BadState, ImageLength, BufferLength, Malformed, OtherApid, UnknownCode, PacketLength, OtherUnit, BadField, OutsideRegions, NoRight, TransactionBusy, PlacesBusy, NotBusy, PoolDamaged, NothingToSend, BadTable, UnknownSymbol, RunsOut}
use Rattle.rules.specs.declared.Written.{Written}

-- the paper's number of each refusal
abbrev pub number : Refusal → ℕ
number BadState = 1
number ImageLength = 2
number BufferLength = 3
number Malformed = 4
number OtherApid = 5
number UnknownCode = 6
number PacketLength = 7
number OtherUnit = 8
number BadField = 9
number OutsideRegions = 10
number NoRight = 11
number TransactionBusy = 12
number PlacesBusy = 13
number NotBusy = 14
number PoolDamaged = 15
number NothingToSend = 16
number BadTable = 17
number UnknownSymbol = 18
number RunsOut = 19

-- whether a command that is refused so adds one to the refused count; if not, the state is returned as handed in
abbrev pub counted : Refusal → Bool
counted BadState = false
counted ImageLength = false
counted BufferLength = false
counted Malformed = true
counted OtherApid = false
counted UnknownCode = true
counted PacketLength = true
counted OtherUnit = false
counted BadField = true
counted OutsideRegions = true
counted NoRight = true
counted TransactionBusy = true
counted PlacesBusy = true
counted NotBusy = true
counted PoolDamaged = true
counted NothingToSend = false
counted BadTable = true
counted UnknownSymbol = true
counted RunsOut = true

-- the number of an answer: 0, or that of its refusal
abbrev pub number_of : {A : Type 0} → Result A Refusal → ℕ
number_of (Ok x) = 0
number_of (Err r) = number r

abbrev pub verdict_number : Result (Unit {0}) Refusal → ℕ
verdict_number v = number_of v

abbrev pub answer_number : Result Written Refusal → ℕ
answer_number a = number_of a

-- the length of an answer; a refusal reports length 0
abbrev pub answer_length : Result Written Refusal → ℕ
answer_length (Err r) = 0
answer_length (Ok w) = w.length

-- a row of the table for one call: a refusal, and whether its case applies
pub record Row : Type 0 where
  pub refusal : Refusal
  pub applies : Bool

abbrev pub row : Refusal → Bool → Row
row r b = record { refusal = r; applies = b }

-- The first row that applies. The rows of a call stand in the order laid down for its tests: they ascend by number, so that this is the lowest
-- number that applies, but for 19, right after 10, and those of the command call that only codes 8 and 9 can get.
unfoldable pub lowest : List Row → Result (Unit {0}) Refusal
lowest [] = (Ok tt)
lowest (r ∷ rs) = cond r.applies (Err r.refusal) (lowest rs)

-- rows 1, 2 and 3, for a call whose buffer must have `size` bytes
unfoldable pub lent_rows : State → List ℕ → ℕ → List ℕ → List Row
lent_rows s image size buffer =
    row BadState (not (good_state s))
    ∷ row ImageLength (not (eqb (length image) (image_length s.regions s.count)))
    ∷ row BufferLength (ltb (length buffer) size)
    ∷ []
