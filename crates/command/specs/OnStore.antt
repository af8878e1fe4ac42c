-- The command call on what keeps a state: the decision, by whether that is a good one, and what a decision makes of it.
use Rattle.std.specs.Prelude.{Bool, cond, length, Result, Ok, Err}
use Rattle.rules.specs.Commands.{CommandArgs}
use Rattle.rules.specs.Packets.{command_transaction}
use Rattle.rules.specs.Regions.{image_length}
use Rattle.rules.specs.Results.{counted}
use Rattle.rules.specs.declared.Context.TheVariants.{Idle, Busy}
use Rattle.rules.specs.declared.Refusal.{Refusal}
use Rattle.rules.specs.declared.State.{State}
use Rattle.state.specs.Changes.{Changes}
use Rattle.opening.specs.Opening.{opened_by}
use Rattle.decide.specs.Decisions.{by_sought}
use Rattle.decide.specs.declared.Decision.{Decision}
use Rattle.decide.specs.declared.Decision.TheVariants.{Dump as Placed, Cancel as Freed, Load as Stored, Reply, Tell}

-- what a call is told to do, where the state is good or not
unfoldable pub decision_in : Bool → State → CommandArgs → Result Decision Refusal
decision_in good s c =
    by_sought s c.image (command_transaction c.packet)
    (opened_by (cond good (image_length s.regions s.count) 0) (length c.image) (length c.reply) c.packet c.symbols s.unit)

-- the refused count of a refusal that is counted; the place, the packet count and the accepted count of an accepted command
abbrev pub after : {A : Type 0} → Changes A → A → Result Decision Refusal → A
after m s (Err r) = cond (counted r) (m.refused s) s
after m s (Ok (Placed x)) = m.accepted (m.place s x.place (Busy x.dump))
after m s (Ok (Freed x)) = m.accepted (m.place s x.place Idle)
after m s (Ok (Stored x)) = m.accepted s
after m s (Ok (Reply x)) = m.accepted (m.reply s)
after m s (Ok (Tell x)) = m.accepted (m.value s)
