-- The slot call on what keeps a state: what is sent, by whether that is a good one, and what it makes of it.
use Rattle.std.specs.Prelude.{Bool, cond, length, Result, Ok, Err}
use Rattle.rules.specs.Regions.{image_length}
use Rattle.rules.specs.Slots.{SlotArgs}
use Rattle.rules.specs.declared.Refusal.{Refusal}
use Rattle.rules.specs.declared.State.{State}
use Rattle.state.specs.Changes.{Changes}
use Rattle.opening.specs.Opening.{lent_by}
use Rattle.sending.specs.Sendings.{sending_as}
use Rattle.sending.specs.declared.Piece.{Piece}

-- what a slot is to send, where the state is good or not
unfoldable pub sending_in : Bool → State → SlotArgs → Result Piece Refusal
sending_in good s c = sending_as s c.tick (lent_by (cond good (image_length s.regions s.count) 0) (length c.image) 4092 (length c.buffer))

-- the place, the last place and the packet count of a packet that was sent
abbrev pub sent : {A : Type 0} → Changes A → A → Result Piece Refusal → A
sent m s (Err r) = s
sent m s (Ok x) = m.served s x.place x.after
