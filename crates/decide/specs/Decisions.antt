-- The command call as a decision on facts: what each decision is, by the facts, and its number and effect in every case.
use Rattle.std.specs.Prelude.{◌≡◌, ◌&&◌, cond, List, ℕ, ◌+◌, ◌%◌, leb, ltb, eqb, length, take, Option, Some, None, Result, Ok, Err}
use Rattle.lists.specs.Splice.{splice}
use Rattle.rules.specs.States.{pool_at}
use Rattle.rules.specs.Packets.{data_words, command_transaction}
use Rattle.rules.specs.Pools.{blocks_of}
use Rattle.rules.specs.Results.{counted}
use Rattle.rules.specs.Values.{value_bytes}
use Rattle.rules.specs.Commands.{CommandArgs, Outcome, changed, accepted_more, refused_more, first_idle, first_with, set_context, new_dump, command_call}
use Rattle.rules.specs.declared.Context.TheVariants.{Idle, Busy}
use Rattle.rules.specs.declared.Header.{Header}
use Rattle.rules.specs.declared.Range.{Range}
use Rattle.rules.specs.declared.Refusal.TheVariants.{UnknownCode, OutsideRegions, NoRight, TransactionBusy, PlacesBusy, NotBusy, PoolDamaged, RunsOut}
use Rattle.rules.specs.declared.State.{State}
use Rattle.rules.specs.declared.Task.{Task}
use Rattle.rules.specs.declared.WordIndex.{WordIndex}
use Rattle.rules.specs.declared.Task.TheVariants.{Nothing, DumpRange, CancelDump, LoadRange, CountPool, TellValue}
use Rattle.pool.specs.Answers.{walked_of, figure_bytes}
use Rattle.opening.specs.Opening.{opened_by, good_words, find, index, words_from}
use Rattle.decide.specs.declared.Decision.{Decision}
use Rattle.decide.specs.declared.Decision.TheVariants.{Dump as Placed, Cancel as Freed, Load as Stored, Reply, Tell}
use Rattle.rules.specs.declared.Refusal.{Refusal}
use Rattle.rules.specs.declared.Written.{Written}
use Rattle.pool.specs.declared.Figures.{Figures}
use Rattle.regions.specs.declared.Spot.{Spot}
use Rattle.regions.specs.declared.Miss.{Miss}
use Rattle.regions.specs.declared.Miss.TheVariants.{StartsOutside, EndsOutside}

-- NUMBERS 10 TO 15, AND 19, by the facts that each command asks for

abbrev pub decide_dump : ℕ → Range → Result Spot Miss → ℕ → ℕ → Result Decision Refusal
decide_dump t a (Err StartsOutside) busy idle = Err OutsideRegions
decide_dump t a (Err EndsOutside) busy idle = Err RunsOut
decide_dump t a (Ok spot) busy idle =
    cond spot.dump
    (cond (ltb busy 4) (Err TransactionBusy)
    (cond (leb 4 idle) (Err PlacesBusy) (Ok (Placed (record { place = idle; dump = new_dump t a })))))
    (Err NoRight)

abbrev pub decide_cancel : ℕ → Result Decision Refusal
decide_cancel busy = cond (leb 4 busy) (Err NotBusy) (Ok (Freed (record { place = busy })))

abbrev pub decide_load : Range → Result Spot Miss → WordIndex → Result Decision Refusal
decide_load a (Err StartsOutside) at = Err OutsideRegions
decide_load a (Err EndsOutside) at = Err RunsOut
decide_load a (Ok spot) at = cond spot.load (Ok (Stored (record { at = at; words = a.words }))) (Err NoRight)

abbrev pub decide_walked : Header → ℕ → Option Figures → Result Decision Refusal
decide_walked h i None = Err PoolDamaged
decide_walked h i (Some f) = Ok (Reply (record { header = h; pool = i; figures = f }))

abbrev pub decide_found : Header → ℕ → Range → Result Spot Miss → WordIndex → List ℕ → Result Decision Refusal
decide_found h i pool (Err StartsOutside) at image = Err OutsideRegions
decide_found h i pool (Err EndsOutside) at image = Err RunsOut
decide_found h i pool (Ok spot) at image = decide_walked h i (walked_of (blocks_of (words_from image at.0 pool.words)))

abbrev pub decide_pool : Header → ℕ → Range → Result Spot Miss → WordIndex → List ℕ → Result Decision Refusal
decide_pool h i pool found at image = cond (eqb pool.words 0) (Err OutsideRegions) (decide_found h i pool found at image)

-- THE DECISION, with the facts of a state

abbrev pub by_task : State → List ℕ → ℕ → Task → Result Decision Refusal
by_task s image t Nothing = Err UnknownCode
by_task s image t (DumpRange a) = decide_dump t a (find s a) (first_with t s.places) (first_idle s.places)
by_task s image t CancelDump = decide_cancel (first_with t s.places)
by_task s image t (LoadRange a) = decide_load a (find s a) (index s a)
by_task s image t (CountPool i) =
    decide_pool (record { count = s.replies; unit = s.unit; transaction = t }) i (pool_at s.pools i) (find s (pool_at s.pools i))
    (index s (pool_at s.pools i)) image
by_task s image t (TellValue v) = Ok (Tell (record { header = record { count = s.values; unit = s.unit; transaction = t }; value = v }))

abbrev pub by_sought : State → List ℕ → ℕ → Result Task Refusal → Result Decision Refusal
by_sought s image t (Err r) = Err r
by_sought s image t (Ok k) = by_task s image t k

unfoldable pub decision : State → CommandArgs → Result Decision Refusal
decision s c =
    by_sought s c.image (command_transaction c.packet)
    (opened_by (good_words s) (length c.image) (length c.reply) c.packet c.symbols s.unit)

-- NUMBER AND EFFECT of every case

abbrev pub answer_of : Result Decision Refusal → Result Written Refusal
answer_of (Err r) = Err r
answer_of (Ok (Placed x)) = Ok (record { length = 0 })
answer_of (Ok (Freed x)) = Ok (record { length = 0 })
answer_of (Ok (Stored x)) = Ok (record { length = 0 })
answer_of (Ok (Reply x)) = Ok (record { length = 32 })
answer_of (Ok (Tell x)) = Ok (record { length = 12 })

abbrev pub image_after : Result Decision Refusal → List ℕ → List ℕ → List ℕ
image_after (Err r) p image = image
image_after (Ok (Placed x)) p image = image
image_after (Ok (Freed x)) p image = image
image_after (Ok (Stored x)) p image = cond (leb x.words 11 && leb (x.at.0 + x.words) (length image)) (splice image x.at.0 (take x.words (data_words p))) image
image_after (Ok (Reply x)) p image = image
image_after (Ok (Tell x)) p image = image

abbrev pub reply_after : Result Decision Refusal → List ℕ → List ℕ
reply_after (Err r) reply = reply
reply_after (Ok (Placed x)) reply = reply
reply_after (Ok (Freed x)) reply = reply
reply_after (Ok (Stored x)) reply = reply
reply_after (Ok (Reply x)) reply =
    cond (leb 32 (length reply))
    (splice reply 0 (figure_bytes (x.header.count % 16384) (x.header.unit % 16) (x.header.transaction % 4096) x.pool x.figures))
    reply
reply_after (Ok (Tell x)) reply =
    cond (leb 12 (length reply))
    (splice reply 0 (value_bytes (x.header.count % 16384) (x.header.unit % 16) (x.header.transaction % 4096) x.value))
    reply

abbrev pub state_after : State → Result Decision Refusal → State
state_after s (Err r) = cond (counted r) (changed s s.places s.replies s.values s.accepted (refused_more s)) s
state_after s (Ok (Placed x)) = changed s (set_context s.places x.place (Busy x.dump)) s.replies s.values (accepted_more s) s.refused
state_after s (Ok (Freed x)) = changed s (set_context s.places x.place Idle) s.replies s.values (accepted_more s) s.refused
state_after s (Ok (Stored x)) = changed s s.places s.replies s.values (accepted_more s) s.refused
state_after s (Ok (Reply x)) = changed s s.places ((s.replies + 1) % 16384) s.values (accepted_more s) s.refused
state_after s (Ok (Tell x)) = changed s s.places s.replies ((s.values + 1) % 16384) (accepted_more s) s.refused

abbrev pub carried_out : State → CommandArgs → Result Decision Refusal → Outcome
carried_out s c d =
    record {
      answer = answer_of d;
      state = state_after s d;
      image = image_after d c.packet c.image;
      buffer = reply_after d c.reply;
    }

-- the call is the decision, carried out
abbrev pub Decided : Type 0
Decided = (s : State) (c : CommandArgs) → command_call s c ≡ carried_out s c (decision s c)
