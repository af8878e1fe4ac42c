-- Paper 01, "Telemetry slots": the slot call, from all that is lent to all that is left.
use Rattle.std.specs.Prelude.{Bool, true, false, not, cond, List, [], ◌∷◌, ◌++◌, ℕ, ◌+◌, ◌*◌, ◌%◌, ltb, length, take, drop, Result, Ok, Err}
use Rattle.lists.specs.Below.{any_below, first_below}
use Rattle.lists.specs.Splice.{splice}
use Rattle.wire.specs.Bytes.{be, word_bytes}
use Rattle.rules.specs.Regions.{start_of, words_of}
use Rattle.rules.specs.States.{context_at, piece_words}
use Rattle.rules.specs.Packets.{primary_header, identity}
use Rattle.rules.specs.Commands.{Outcome, set_context}
use Rattle.rules.specs.Results.{Row, row, lowest, lent_rows}
use Rattle.rules.specs.declared.ActiveDump.{ActiveDump}
use Rattle.rules.specs.declared.Place.{Place}
use Rattle.rules.specs.declared.Context.{Context}
use Rattle.rules.specs.declared.Context.TheVariants.{Idle, Busy}
use Rattle.rules.specs.declared.State.{State}
use Rattle.rules.specs.declared.Refusal.{Refusal}
use Rattle.rules.specs.declared.Refusal.TheVariants.{NothingToSend}

-- what a slot call is lent beside the state
pub record SlotArgs : Type 0 where
  pub tick : ℕ
  pub image : List ℕ
  pub buffer : List ℕ

abbrev pub is_busy : Context → Bool
is_busy Idle = false
is_busy (Busy d) = true

unfoldable pub any_busy : List Place → Bool
any_busy ps = any_below (λ i. is_busy (context_at ps i)) 4

-- the packet buffer that a slot call needs, and so the longest packet
abbrev pub longest_packet : ℕ
longest_packet = 4092

-- a slot call's rows of the table of result numbers: 1, 2, 3 and 16
unfoldable pub slot_rows : State → SlotArgs → List Row
slot_rows s c =
    lent_rows s c.image longest_packet c.buffer ++ row NothingToSend (not (any_busy s.places)) ∷ []

-- THE ROUND

-- the place that comes k places after the one after `last`, going round 0, 1, 2, 3
abbrev pub place_after : ℕ → ℕ → ℕ
place_after last k = (last + 1 + k) % 4

-- the first busy place after the last one served
unfoldable pub next_place : List Place → ℕ → ℕ
next_place ps last = place_after last (first_below (λ k. is_busy (context_at ps (place_after last k))) 4)

-- THE PACKET

abbrev pub dump_apid : ℕ
dump_apid = 788

-- the bytes before the data
abbrev pub packet_header : ℕ
packet_header = 28

-- the data of a dump's next packet: as many words as a packet takes, or what is left, as the image holds them
unfoldable pub next_words : State → List ℕ → ActiveDump → List ℕ
next_words s image d = take (piece_words d.range) (drop d.sent (words_of s.regions s.count d.range image))

-- primary header; unit and transaction; tick; requested address; requested words; address of this packet's data; words in this packet; data
unfoldable pub packet_bytes : State → ℕ → ActiveDump → List ℕ → List ℕ
packet_bytes s tick d ws =
    primary_header 0 0 dump_apid s.packets (packet_header + 4 * length ws) ++ identity s.unit d.transaction ++ be 4 tick
    ++ be 4 (start_of d.range)
    ++ be 4 d.range.words
    ++ be 4 (start_of d.range + 4 * d.sent)
    ++ be 4 (length ws)
    ++ word_bytes ws

-- THE STATE AFTER

-- what the place of a dump does after its next packet: after the last it is freed
unfoldable pub after_packet : ActiveDump → Context
after_packet d =
    cond (ltb (d.sent + piece_words d.range) d.range.words)
    (Busy (record { transaction = d.transaction; range = d.range; sent = d.sent + piece_words d.range }))
    Idle

-- a state with other places, last place served and packet count; the rest as it was
abbrev pub served : State → List Place → ℕ → ℕ → State
served s places last packets =
    record {
      regions = s.regions;
      count = s.count;
      pools = s.pools;
      unit = s.unit;
      places = places;
      last = last;
      replies = s.replies;
      values = s.values;
      packets = packets;
      accepted = s.accepted;
      refused = s.refused;
    }

-- a refusal: all stays as handed in
abbrev pub refused_slot : State → SlotArgs → Refusal → Outcome
refused_slot s c r = record { answer = Err r; state = s; image = c.image; buffer = c.buffer }

-- place p is served
abbrev pub serve : State → SlotArgs → ℕ → Context → Outcome
serve s c p Idle = refused_slot s c NothingToSend
serve s c p (Busy d) =
    record {
      answer = Ok (record { length = length (packet_bytes s c.tick d (next_words s c.image d)) });
      state = served s (set_context s.places p (after_packet d)) p ((s.packets + 1) % 16384);
      image = c.image;
      buffer = splice c.buffer 0 (packet_bytes s c.tick d (next_words s c.image d));
    }

abbrev pub conclude_slot : State → SlotArgs → Result (Unit {0}) Refusal → Outcome
conclude_slot s c (Err r) = refused_slot s c r
conclude_slot s c (Ok tt) = serve s c (next_place s.places s.last) (context_at s.places (next_place s.places s.last))

-- THE SLOT CALL
unfoldable pub slot_call : State → SlotArgs → Outcome
slot_call s c = conclude_slot s c (lowest (slot_rows s c))
