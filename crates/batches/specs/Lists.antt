-- Demand 3 in a list of calls where a batch may stand: its items are the calls of the list.
use Rattle.std.specs.Prelude.{◌≡◌, true, false, cond, List, [], ◌∷◌, ◌++◌, ℕ, ◌-◌, take, drop}
use Rattle.wire.specs.Bytes.{AreBytes}
use Rattle.rules.specs.Commands.{CommandArgs, command_call}
use Rattle.rules.specs.Demand3.{Call, command, slot, Event, step, NoneWaits}
use Rattle.rules.specs.Results.{verdict_number}
use Rattle.rules.specs.Slots.{SlotArgs}
use Rattle.rules.specs.States.{good_state, start_up}
use Rattle.rules.specs.declared.Range.{Range}
use Rattle.rules.specs.declared.Region.{Region}
use Rattle.rules.specs.declared.State.{State}
use Rattle.batches.specs.Batch.{BatchArgs, lends, on_state, bytes_from, unfit, batch}
use Rattle.batches.specs.InOrder.{Made, items, made}

-- a call of the list: a single one, or a batch with so many answer records lent
pub data Step : Type 0 where
  one : Call → Step
  many : BatchArgs → ℕ → Step

-- what is lent as packets are bytes, of any content and number
abbrev pub StepBytes : Step → Type 0
StepBytes (one (command c)) = AreBytes c.packet
StepBytes (one (slot c)) = Unit {0}
StepBytes (many a records) = AreBytes a.bytes

abbrev pub StepsLendBytes : List Step → Type 0
StepsLendBytes [] = Unit {0}
StepsLendBytes (x ∷ xs) = StepBytes x × StepsLendBytes xs

-- the state that a call of the list returns
abbrev pub returned_by : State → Step → State
returned_by s (one c) = (step s c).state
returned_by s (many a records) = (batch on_state s a records).left.state

-- an item of a batch, as a call of the list
abbrev pub item_events : List (Made State) → List Event
item_events [] = []
item_events (m ∷ ms) = record { given = m.given; call = command m.args; out = command_call m.given m.args } ∷ item_events ms

-- the events of a call of the list: its own, or one for each item of a batch that is not refused
abbrev pub events_of : State → Step → List Event
events_of s (one c) = record { given = s; call = c; out = step s c } ∷ []
events_of s (many a records) = cond (unfit a records) [] (item_events (made on_state a.symbols s a.image (items a)))

-- each call is handed the state that the one before it returned
abbrev pub events_along : State → List Step → List Event
events_along s [] = []
events_along s (x ∷ xs) = events_of s x ++ events_along (returned_by s x) xs

abbrev pub Demand3WithBatches : Type 0
Demand3WithBatches =
    (rs : List Region) (n : ℕ) (pools : List Range) (unit : ℕ) → verdict_number (start_up rs n pools unit).verdict ≡ 0
    → (xs : List Step) → StepsLendBytes xs
    → NoneWaits rs n (events_along (start_up rs n pools unit).state xs)

-- a batch of bytes leaves a good state good
abbrev pub StaysGood : Type 0
StaysGood =
    (s : State) (a : BatchArgs) (records : ℕ) → AreBytes a.bytes → good_state s ≡ true → good_state (batch on_state s a records).left.state ≡ true

-- what fixes the events of a list: a single call is an event and hands its state on; a batch that is refused is none; the first item of any other is
-- a single call, and the other items are a batch on what it left
pub record ItemsAreCalls : Type 0 where
  -- nothing is asked of a list but that what is lent as packets are bytes
  pub no_step : StepsLendBytes []
  pub command_step : (c : CommandArgs) (xs : List Step) → AreBytes c.packet → StepsLendBytes xs → StepsLendBytes (one (command c) ∷ xs)
  pub slot_step : (c : SlotArgs) (xs : List Step) → StepsLendBytes xs → StepsLendBytes (one (slot c) ∷ xs)
  pub batch_step : (a : BatchArgs) (records : ℕ) (xs : List Step) → AreBytes a.bytes → StepsLendBytes xs → StepsLendBytes (many a records ∷ xs)
  -- the events
  pub none : (s : State) → events_along s [] ≡ []
  pub call : (s : State) (c : Call) (xs : List Step)
      → events_along s (one c ∷ xs) ≡ record { given = s; call = c; out = step s c } ∷ events_along (step s c).state xs
  pub refused : (s : State) (a : BatchArgs) (records : ℕ) (xs : List Step) → unfit a records ≡ true
      → events_along s (many a records ∷ xs) ≡ events_along s xs
  pub no_item : (s : State) (bytes symbols image replies : List ℕ) (records : ℕ) (xs : List Step)
      → events_along s (many (lends bytes [] [] symbols image replies) records ∷ xs) ≡ events_along s xs
  pub first_item : (s : State) (bytes : List ℕ) (start : ℕ) (ss : List ℕ) (n : ℕ) (ns symbols image replies : List ℕ) (records : ℕ) (xs : List Step)
      → unfit (lends bytes (start ∷ ss) (n ∷ ns) symbols image replies) records ≡ false
      → let c : CommandArgs = record { packet = bytes_from bytes start n; symbols = symbols; image = image; reply = take 32 replies } in
      events_along s (many (lends bytes (start ∷ ss) (n ∷ ns) symbols image replies) records ∷ xs)
      ≡ events_along s (one (command c) ∷ many (lends bytes ss ns symbols (command_call s c).image (drop 32 replies)) (records - 1) ∷ xs)
