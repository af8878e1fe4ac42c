-- The slot call as a decision on facts: what is sent, by the facts, and its number and effect.
use Rattle.std.specs.Prelude.{◌≡◌, cond, List, ℕ, ◌+◌, ◌*◌, ◌-◌, ◌%◌, ◌<◌, min, length, Option, Some, None, Result, Ok, Err}
use Rattle.lists.specs.Splice.{splice}
use Rattle.rules.specs.Regions.{start_of}
use Rattle.rules.specs.Commands.{Outcome, set_context}
use Rattle.rules.specs.Slots.{SlotArgs, slot_call, served, after_packet}
use Rattle.rules.specs.declared.Refusal.TheVariants.{NothingToSend}
use Rattle.rules.specs.declared.State.{State}
use Rattle.rules.specs.declared.WordIndex.{WordIndex}
use Rattle.bulk.specs.DumpBytes.{dump_packet_bytes, packet_fits}
use Rattle.places.specs.Turns.{next_turn}
use Rattle.places.specs.declared.Seat.{Seat}
use Rattle.opening.specs.Opening.{lent_by, good_words, find, index, words_from}
use Rattle.rules.specs.declared.Refusal.{Refusal}
use Rattle.rules.specs.declared.Written.{Written}
use Rattle.regions.specs.declared.Spot.{Spot}
use Rattle.regions.specs.declared.Miss.{Miss}
use Rattle.sending.specs.declared.Piece.{Piece}
use Rattle.regions.specs.declared.Miss.TheVariants.{StartsOutside, EndsOutside}

-- the next packet of a dump whose range was found, and begins at this index; no field is out of its type's bounds, whatever the facts
abbrev pub decide_send : Seat → Result Spot Miss → WordIndex → ℕ → ℕ → ℕ → Result Piece Refusal
decide_send x (Err StartsOutside) at count unit tick = Err NothingToSend
decide_send x (Err EndsOutside) at count unit tick = Err NothingToSend
decide_send x (Ok spot) at count unit tick =
    Ok
    (record {
      packet =
          record {
            header = record { count = count; unit = unit; transaction = x.dump.transaction };
            tick = tick;
            range = x.dump.range;
            here = record { 0 = (start_of x.dump.range + 4 * x.dump.sent) % 4294967296 };
            words = min 1016 (x.dump.range.words - x.dump.sent);
          };
      from = record { 0 = min (at.0 + x.dump.sent) 18446744073709551615 };
      place = x.place;
      after = after_packet x.dump;
    })

-- THE DECISION, with the facts of a state

abbrev pub by_turn : State → ℕ → Option Seat → Result Piece Refusal
by_turn s tick None = Err NothingToSend
by_turn s tick (Some x) = decide_send x (find s x.dump.range) (index s x.dump.range) s.packets s.unit tick

abbrev pub sending_as : State → ℕ → Result (Unit {0}) Refusal → Result Piece Refusal
sending_as s tick (Err r) = Err r
sending_as s tick (Ok tt) = by_turn s tick (next_turn s.places s.last)

unfoldable pub sending : State → SlotArgs → Result Piece Refusal
sending s c = sending_as s c.tick (lent_by (good_words s) (length c.image) 4092 (length c.buffer))

-- NUMBER AND EFFECT

abbrev pub send_answer : Result Piece Refusal → Result Written Refusal
send_answer (Err r) = Err r
send_answer (Ok x) = Ok (record { length = 28 + 4 * x.packet.words })

-- a packet that fits, with these words
abbrev pub buffer_after : Result Piece Refusal → List ℕ → List ℕ → List ℕ
buffer_after (Err r) image buffer = buffer
buffer_after (Ok x) image buffer =
    cond (packet_fits x.packet (length (words_from image x.from.0 x.packet.words)) (length buffer))
    (splice buffer 0 (dump_packet_bytes x.packet (words_from image x.from.0 x.packet.words)))
    buffer

abbrev pub state_sent : State → Result Piece Refusal → State
state_sent s (Err r) = s
state_sent s (Ok x) = served s (set_context s.places x.place x.after) x.place ((s.packets + 1) % 16384)

abbrev pub sent_out : State → SlotArgs → Result Piece Refusal → Outcome
sent_out s c d =
    record { answer = send_answer d; state = state_sent s d; image = c.image; buffer = buffer_after d c.image c.buffer }

-- the place that is served is one of the four
abbrev pub PlaceFits : Result Piece Refusal → Type 0
PlaceFits (Err r) = Unit {0}
PlaceFits (Ok x) = x.place < 4

-- the call is the decision, carried out
abbrev pub SlotDecided : Type 0
SlotDecided = (s : State) (c : SlotArgs) → slot_call s c ≡ sent_out s c (sending s c)
