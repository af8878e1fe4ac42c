-- DEMAND 3: no dump waits for ever. One claim about a whole list of calls from a fresh start, by the last paragraph of paper 01's
-- "Telemetry slots". It speaks of what is lent to the calls and what they answer and write.
use Rattle.std.specs.Prelude.{◌≡◌, ◌≢◌, Bool, true, false, ◌&&◌, cond, List, [], ◌∷◌, ◌++◌, ℕ, zero, suc, ◌+◌, ◌*◌, ◌-◌, ◌/◌, ◌≤◌, ◌<◌, leb, eqb, length, take, drop}
use Rattle.wire.specs.Bytes.{AreBytes, word_bytes}
use Rattle.wire.specs.ByByte.{four}
use Rattle.symbols.specs.Table.{IsTable, Named}
use Rattle.rules.specs.Regions.{start_of, image_length, words_of}
use Rattle.rules.specs.States.{start_up, entries_used, piece_words}
use Rattle.rules.specs.Packets.{function_code_of, command_transaction, transaction_at}
use Rattle.rules.specs.Values.{Reached}
use Rattle.rules.specs.Cases.{range_of, name_from, range_from}
use Rattle.rules.specs.Results.{verdict_number, answer_number, answer_length}
use Rattle.rules.specs.Commands.{CommandArgs, Outcome, task, command_call}
use Rattle.rules.specs.Slots.{SlotArgs, slot_call, longest_packet, packet_header}
use Rattle.rules.specs.Ground.{packet_fields}
use Rattle.rules.specs.declared.State.{State}
use Rattle.rules.specs.declared.Region.{Region}
use Rattle.rules.specs.declared.Range.{Range}
use Rattle.rules.specs.declared.Task.{Task}
use Rattle.rules.specs.declared.Task.TheVariants.{Nothing, DumpRange, CancelDump, LoadRange, CountPool, TellValue}

-- THE LIST OF CALLS: commands of any bytes and slots, each lent what it likes

pub data Call : Type 0 where
  command : CommandArgs → Call
  slot : SlotArgs → Call

-- what is lent as a packet are bytes, of any content and number
abbrev pub LendsBytes : List Call → Type 0
LendsBytes [] = Unit {0}
LendsBytes (command c ∷ cs) = AreBytes c.packet × LendsBytes cs
LendsBytes (slot c ∷ cs) = LendsBytes cs

abbrev pub step : State → Call → Outcome
step s (command c) = command_call s c
step s (slot c) = slot_call s c

-- a call as it was made: the state that it was handed, what it was lent, and what came of it
pub record Event : Type 0 where
  pub given : State
  pub call : Call
  pub out : Outcome

-- each call is handed the state that the one before it returned
abbrev pub events : State → List Call → List Event
events s [] = []
events s (c ∷ cs) = record { given = s; call = c; out = step s c } ∷ events (step s c).state cs

-- what a call asks of the dump places, by what it is lent: a dump of a range or a cancel, with their transaction number. A dump by name asks for
-- the range that its name resolves to in the symbol table lent to its call.
pub data Asked : Type 0 where
  nothing : Asked
  dump : ℕ → Range → Asked
  cancel : ℕ → Asked

abbrev pub asked_by : ℕ → Task → Asked
asked_by t Nothing = nothing
asked_by t (DumpRange r) = dump t r
asked_by t CancelDump = cancel t
asked_by t (LoadRange r) = nothing
asked_by t (CountPool i) = nothing
asked_by t (TellValue v) = nothing

abbrev pub asked : Call → Asked
asked (command c) = asked_by (command_transaction c.packet) (task c)
asked (slot c) = nothing

-- the same in logic, by function code and by the bytes: what fixes `asked`
pub record AskedIs (c : CommandArgs) : Type 0 where
  pub dumps : function_code_of c.packet ≡ 0 → asked (command c) ≡ dump (command_transaction c.packet) (range_of c.packet)
  pub cancels : function_code_of c.packet ≡ 1 → asked (command c) ≡ cancel (command_transaction c.packet)
  pub by_name : function_code_of c.packet ≡ 9 → (v a : ℕ) → IsTable c.symbols → Named c.symbols (name_from c.packet) v
      → Reached v (four c.packet 60) a → asked (command c) ≡ dump (command_transaction c.packet) (range_from c.packet a)
  pub other : function_code_of c.packet ≢ 0 → function_code_of c.packet ≢ 1 → function_code_of c.packet ≢ 9 → asked (command c) ≡ nothing

abbrev pub is_dump : ℕ → Asked → Bool
is_dump t nothing = false
is_dump t (dump u r) = eqb u t
is_dump t (cancel u) = false

abbrev pub is_cancel : ℕ → Asked → Bool
is_cancel t nothing = false
is_cancel t (dump u r) = false
is_cancel t (cancel u) = eqb u t

abbrev pub is_slot : Call → Bool
is_slot (command c) = false
is_slot (slot c) = true

-- FOUR TESTS ON A CALL

-- answered 0
abbrev pub done : Event → Bool
done e = eqb (answer_number e.out.answer) 0

-- an accepted dump with transaction number t: a dump whose command is answered 0
unfoldable pub accepts : ℕ → Event → Bool
accepts t e = done e && is_dump t (asked e.call)

-- a cancel with transaction number t, answered 0
unfoldable pub cancels : ℕ → Event → Bool
cancels t e = done e && is_cancel t (asked e.call)

-- a slot that writes a packet with transaction number t, by the bytes that it wrote
unfoldable pub writes : ℕ → Event → Bool
writes t e = done e && is_slot e.call && eqb (transaction_at e.out.buffer 6) t

-- a slot that counts: its image is as long as the table's sum, and its buffer has 4,092 bytes or more
abbrev pub fits : State → Call → Bool
fits s (command c) = false
fits s (slot c) = eqb (length c.image) (image_length s.regions s.count) && leb longest_packet (length c.buffer)

unfoldable pub counts : Event → Bool
counts e = fits e.given e.call

-- THE DUMP'S PACKETS

-- of the calls after its acceptance, the slots that wrote a packet with its number, up to the next accepted dump with that number
abbrev pub packets : ℕ → List Event → List Event
packets t [] = []
packets t (e ∷ es) = cond (accepts t e) [] (cond (writes t e) (e ∷ packets t es) (packets t es))

-- the slots that count
abbrev pub slots : List Event → List Event
slots [] = []
slots (e ∷ es) = cond (counts e) (e ∷ slots es) (slots es)

-- m: n words in pieces of z, rounded up
unfoldable pub pieces : ℕ → ℕ → ℕ
pieces z n = (n + (z - 1)) / z

abbrev pub packets_due : Range → ℕ
packets_due r = pieces (piece_words r) r.words

-- the image lent to a call
abbrev pub image_of : Call → List ℕ
image_of (command c) = c.image
image_of (slot c) = c.image

-- the words of a range, as the image lent to a call holds them
unfoldable pub range_in : Range → Event → List ℕ
range_in r e = words_of e.given.regions e.given.count r (image_of e.call)

-- piece j, from 0, of a list cut into pieces of z: z elements from element z j on, or the fewer that are left
abbrev pub piece : ℕ → ℕ → List ℕ → List ℕ
piece z j ws = take z (drop (z * j) ws)

abbrev pub piece_in : Range → ℕ → Event → List ℕ
piece_in r j e = piece (piece_words r) j (range_in r e)

-- the packet that a slot wrote: as many bytes of its buffer as it reported
abbrev pub packet_in : Event → List ℕ
packet_in e = take (answer_length e.out.answer) e.out.buffer

-- The packet of a slot shows piece j of the range.
pub record Shows (r : Range) (j : ℕ) (e : Event) : Type 0 where
  -- the image lent to the slot has all words of the range: the piece is not cut short in silence
  pub whole : length (range_in r e) ≡ r.words
  -- the data are the piece's words as that image holds them, byte for byte, and nothing follows them
  pub words : drop packet_header (packet_in e) ≡ word_bytes (piece_in r j e)
  -- the header names the request, the address of the piece, and how many words it has
  pub request : (packet_fields (packet_in e)).range ≡ r
  pub address : (packet_fields (packet_in e)).here.0 ≡ start_of r + 4 * (piece_words r * j)
  pub count : (packet_fields (packet_in e)).words ≡ length (piece_in r j e)

-- THE CLAIM

-- event e is the acceptance of a dump of the range r with transaction number t
pub record Accepted (t : ℕ) (r : Range) (e : Event) : Type 0 where
  pub command : asked e.call ≡ dump t r
  pub answered : answer_number e.out.answer ≡ 0

-- it is not cancelled: when a later cancel with its number is answered 0, all m packets were written before
pub record Uncancelled (t m : ℕ) (after : List Event) : Type 0 where
  pub all : (xs ys : List Event) (e : Event) → after ≡ xs ++ e ∷ ys → cancels t e ≡ true → m ≤ length (packets t xs)

-- what is promised of it, over the calls after its acceptance
pub record Served (t : ℕ) (r : Range) (after : List Event) : Type 0 where
  -- never more than m packets
  pub most : length (packets t after) ≤ packets_due r
  -- in any stretch of calls with four slots that count, begun before packet m was written, a packet is written: so packet 1 is among
  -- the first four such after the acceptance (xs empty), and packet j+1 among the first four after packet j (xs ends with it)
  pub soon : (xs ys zs : List Event) → after ≡ xs ++ ys ++ zs → length (packets t xs) < packets_due r → 4 ≤ length (slots ys)
      → length (packets t xs) < length (packets t (xs ++ ys))
  -- all m packets within 4 m slots that count
  pub all : (xs ys : List Event) → after ≡ xs ++ ys → 4 * packets_due r ≤ length (slots xs) → length (packets t xs) ≡ packets_due r
  -- the packet after j others was written by a slot that counts, and shows piece j
  pub shows : (ps qs : List Event) (e : Event) → packets t after ≡ ps ++ e ∷ qs → (counts e ≡ true) × Shows r (length ps) e

-- the first j pieces of a list, joined in order
abbrev pub joined : ℕ → List ℕ → ℕ → List ℕ
joined z ws zero = []
joined z ws (suc j) = joined z ws j ++ piece z j ws

-- the m pieces of n words are those words: each once, in order
abbrev pub Covers : Range → Type 0
Covers r = (ws : List ℕ) → length ws ≡ r.words → joined (piece_words r) ws (packets_due r) ≡ ws

-- every call is handed the table that start-up was given
abbrev pub SameTable : List Region → ℕ → List Event → Type 0
SameTable rs n es =
    (xs ys : List Event) (e : Event) → es ≡ xs ++ e ∷ ys → (e.given.regions ≡ entries_used rs n) × (e.given.count ≡ n)

-- the claim about the events of a whole list of calls, from the state that start-up gave for a table of n regions
abbrev pub NoneWaits : List Region → ℕ → List Event → Type 0
NoneWaits rs n es =
    ((r : Range) → piece_words r ≡ 1016)
    × SameTable rs n es
    × ((before after : List Event) (e : Event) (t : ℕ) (r : Range)
    → es ≡ before ++ e ∷ after
    → Accepted t r e
    → Uncancelled t (packets_due r) after
    → Served t r after × Covers r)

abbrev pub Demand3 : Type 0
Demand3 =
    (rs : List Region) (n : ℕ) (pools : List Range) (unit : ℕ) → verdict_number (start_up rs n pools unit).verdict ≡ 0
    → (calls : List Call) → LendsBytes calls
    → NoneWaits rs n (events (start_up rs n pools unit).state calls)
