-- Paper 01, "Checked examples", E1 to E12, as paper 02 (A4, A5) leaves them: computed with the definitions. Fresh states, unit 2; unless said otherwise no pools and one
-- region at 1000 hex of four words, both rights.
use Rattle.std.specs.Prelude.{◌≡◌, true, List, [], ◌∷◌, ◌++◌, map, ℕ, zero, suc, ◌*◌, length, drop, replicate}
use Rattle.rules.specs.Regions.{no_range}
use Rattle.rules.specs.States.{start_up}
use Rattle.rules.specs.Packets.{command_bytes}
use Rattle.rules.specs.Results.{answer_number, answer_length}
use Rattle.rules.specs.Demand3.{Call, command, slot, Event, events, packets, packet_in, packets_due}
use Rattle.rules.specs.declared.Range.{Range}
use Rattle.rules.specs.declared.Region.{Region}
use Rattle.rules.specs.declared.State.{State}
use Rattle.rules.specs.declared.Header.{Header}
use Rattle.rules.specs.declared.Command.TheVariants.{Dump, Load, PoolStatistics}

abbrev pub range : ℕ → ℕ → Range
range a n = record { start = record { 0 = a }; words = n }

-- a region of n words with both rights
abbrev pub both : ℕ → ℕ → Region
both a n = record { range = range a n; load = true; dump = true }

-- the fresh state of unit 2 with these regions and this pool 1
abbrev pub box : List Region → Range → State
box rs pool = (start_up (rs ++ replicate 8 (record { range = no_range; load = true; dump = true })) (length rs) (no_range ∷ pool ∷ []) 2).state

abbrev pub fresh : List Region → State
fresh rs = box rs no_range

abbrev pub header : ℕ → ℕ → Header
header count t = record { count = count; unit = 2; transaction = t }

abbrev pub dump : ℕ → ℕ → ℕ → List ℕ
dump t n a = command_bytes (header 0 t) (Dump (record { size = n; address = record { 0 = a } })) []

abbrev pub load : ℕ → ℕ → ℕ → List ℕ → List ℕ
load t n a ws = command_bytes (header 1 t) (Load (record { size = n; address = record { 0 = a } })) ws

-- a command call and a slot call, lent an image and buffers just long enough
abbrev pub send : List ℕ → List ℕ → Call
send image p = command (record { packet = p; symbols = []; image = image; reply = replicate 32 0 })

abbrev pub slot_at : List ℕ → ℕ → Call
slot_at image tick = slot (record { tick = tick; image = image; buffer = replicate 4092 0 })

abbrev pub number_in : Event → ℕ
number_in e = answer_number e.out.answer

-- the numbers that calls get, one after the other
abbrev pub numbers : State → List Call → List ℕ
numbers s cs = map number_in (events s cs)

-- how long the packets are that calls send of the dump with transaction number 123 hex, which the first of them asks for
abbrev pub length_in : Event → ℕ
length_in e = answer_length e.out.answer

abbrev pub sent : State → List Call → List ℕ
sent s cs = map length_in (packets 0x123 (drop 1 (events s cs)))

-- the images that calls leave, and what they leave of their buffer as far as they report
abbrev pub image_after : Event → List ℕ
image_after e = e.out.image

abbrev pub images : State → List Call → List (List ℕ)
images s cs = map image_after (events s cs)

abbrev pub written : State → List Call → List (List ℕ)
written s cs = map packet_in (events s cs)

abbrev pub due : ℕ → ℕ
due n = packets_due (range 0x1000 n)

abbrev pub four : List ℕ
four = 0x11111111 ∷ 0x22222222 ∷ 0x33333333 ∷ 0x44444444 ∷ []

abbrev pub usual : State
usual = fresh (both 0x1000 4 ∷ [])

-- an image of 1,017 words, 7 but for the first and the last; and the word 7 in bytes, n times
abbrev pub long : List ℕ
long = 0x01020304 ∷ replicate 1015 7 ++ 0x0A0B0C0D ∷ []

abbrev pub sevens : ℕ → List ℕ
sevens zero = []
sevens (suc n) = 0 ∷ 0 ∷ 0 ∷ 7 ∷ sevens n

pub record Examples : Type 0 where
  pub e1 : dump 0x123 2 0x1004 ≡ 0x1E ∷ 0x44 ∷ 0xC0 ∷ 0x00 ∷ 0x00 ∷ 0x09 ∷ 0x00 ∷ 0x78 ∷ 0x21 ∷ 0x23 ∷ 0x00 ∷ 0x02 ∷ 0x00 ∷ 0x00 ∷ 0x10 ∷ 0x04 ∷ []
  -- E1 is answered 0, the slot after it 0, and the next slot 16
  pub e1_e2 : numbers usual (send four (dump 0x123 2 0x1004) ∷ slot_at four 5 ∷ slot_at four 6 ∷ []) ≡ 0 ∷ 0 ∷ 16 ∷ []
  pub e2 : written usual (send four (dump 0x123 2 0x1004) ∷ slot_at four 5 ∷ slot_at four 6 ∷ [])
      ≡ []
      ∷ (0x03 ∷ 0x14 ∷ 0xC0 ∷ 0x00 ∷ 0x00 ∷ 0x1D ∷ 0x21 ∷ 0x23 ∷ 0x00 ∷ 0x00 ∷ 0x00 ∷ 0x05 ∷ 0x00 ∷ 0x00 ∷ 0x10 ∷ 0x04 ∷ 0x00 ∷ 0x00
      ∷ 0x00 ∷ 0x02 ∷ 0x00 ∷ 0x00 ∷ 0x10 ∷ 0x04 ∷ 0x00 ∷ 0x00 ∷ 0x00 ∷ 0x02 ∷ 0x22 ∷ 0x22 ∷ 0x22 ∷ 0x22 ∷ 0x33 ∷ 0x33 ∷ 0x33 ∷ 0x33 ∷ [])
      ∷ []
      ∷ []
  pub e3 : load 0xABC 1 0x1000 (0x01020304 ∷ [])
      ≡ 0x1E ∷ 0x44 ∷ 0xC0 ∷ 0x01 ∷ 0x00 ∷ 0x35 ∷ 0x04 ∷ 0xD6 ∷ 0x2A ∷ 0xBC ∷ 0x00 ∷ 0x01 ∷ 0x00 ∷ 0x00 ∷ 0x10 ∷ 0x00 ∷ 0x01 ∷ 0x02 ∷ 0x03 ∷ 0x04
      ∷ replicate 40 0
  pub e3_answer : numbers usual (send four (load 0xABC 1 0x1000 (0x01020304 ∷ [])) ∷ []) ≡ 0 ∷ []
  pub e3_image : images usual (send four (load 0xABC 1 0x1000 (0x01020304 ∷ [])) ∷ []) ≡ (0x01020304 ∷ 0x22222222 ∷ 0x33333333 ∷ 0x44444444 ∷ []) ∷ []
  pub e4 : numbers usual (send four (dump 1 4 0x1000) ∷ send four (dump 2 5 0x1000) ∷ []) ≡ 0 ∷ 19 ∷ []
  pub e5 : numbers usual (send four (dump 1 1 0x1002) ∷ send four (load 1 1 0x1002 (7 ∷ [])) ∷ []) ≡ 9 ∷ 9 ∷ []
  pub e6 : numbers usual (send four (dump 1 0 0x1000) ∷ send four (load 1 0 0x1000 []) ∷ []) ≡ 9 ∷ 9 ∷ []
  pub e7 : numbers (fresh (both 0x1000 11 ∷ []))
      (send (replicate 11 0) (load 1 11 0x1000 (replicate 11 7)) ∷ send (replicate 11 0) (load 1 12 0x1000 (replicate 11 7)) ∷ [])
      ≡ 0 ∷ 9 ∷ []
  -- 1,016 words: one packet; 1,017: two, the second with one word
  pub e8_one : sent (fresh (both 0x1000 1016 ∷ []))
      (send (replicate 1016 7) (dump 0x123 1016 0x1000) ∷ slot_at (replicate 1016 7) 5 ∷ slot_at (replicate 1016 7) 6 ∷ [])
      ≡ 4092 ∷ []
  pub e8_two : sent (fresh (both 0x1000 1017 ∷ []))
      (send (replicate 1017 7) (dump 0x123 1017 0x1000) ∷ slot_at (replicate 1017 7) 5 ∷ slot_at (replicate 1017 7) 6 ∷ slot_at (replicate 1017 7) 7 ∷ [])
      ≡ 4092 ∷ 32 ∷ []
  -- both packets of 1,017 words, byte for byte
  pub e8_bytes : written (fresh (both 0x1000 1017 ∷ [])) (send long (dump 0x123 1017 0x1000) ∷ slot_at long 5 ∷ slot_at long 6 ∷ [])
      ≡ []
      ∷ (0x03 ∷ 0x14 ∷ 0xC0 ∷ 0x00 ∷ 0x0F ∷ 0xF5 ∷ 0x21 ∷ 0x23 ∷ 0x00 ∷ 0x00 ∷ 0x00 ∷ 0x05 ∷ 0x00 ∷ 0x00 ∷ 0x10 ∷ 0x00 ∷ 0x00 ∷ 0x00
      ∷ 0x03 ∷ 0xF9 ∷ 0x00 ∷ 0x00 ∷ 0x10 ∷ 0x00 ∷ 0x00 ∷ 0x00 ∷ 0x03 ∷ 0xF8 ∷ 0x01 ∷ 0x02 ∷ 0x03 ∷ 0x04 ∷ sevens 1015)
      ∷ (0x03 ∷ 0x14 ∷ 0xC0 ∷ 0x01 ∷ 0x00 ∷ 0x19 ∷ 0x21 ∷ 0x23 ∷ 0x00 ∷ 0x00 ∷ 0x00 ∷ 0x06 ∷ 0x00 ∷ 0x00 ∷ 0x10 ∷ 0x00 ∷ 0x00 ∷ 0x00
      ∷ 0x03 ∷ 0xF9 ∷ 0x00 ∷ 0x00 ∷ 0x1F ∷ 0xE0 ∷ 0x00 ∷ 0x00 ∷ 0x00 ∷ 0x01 ∷ 0x0A ∷ 0x0B ∷ 0x0C ∷ 0x0D ∷ [])
      ∷ []
  -- the m of demand 3, and its 4 m slots
  pub e8_pieces : map due (1016 ∷ 1017 ∷ 65535 ∷ []) ≡ 1 ∷ 2 ∷ 65 ∷ []
  pub e8_slots : 4 * due 65535 ≡ 260
  pub e9 : numbers (fresh (both 0xFFFFFFF0 4 ∷ [])) (send four (dump 1 1 0xFFFFFFFC) ∷ send four (dump 2 2 0xFFFFFFFC) ∷ []) ≡ 0 ∷ 19 ∷ []
  pub e10 : numbers (fresh (both 0x1000 2 ∷ both 0x1008 2 ∷ [])) (send four (dump 1 2 0x1004) ∷ send four (load 2 2 0x1004 (7 ∷ 7 ∷ [])) ∷ []) ≡ 19 ∷ 19 ∷ []
  -- whatever the words x inside the blocks
  pub e11 : (w x y z : ℕ) → written (box (both 0x1000 6 ∷ []) (range 0x1000 6))
      (send (0x80000002 ∷ w ∷ 0x00000004 ∷ x ∷ y ∷ z ∷ []) (command_bytes (header 0 0x123) (PoolStatistics 1) []) ∷ [])
      ≡ (0x03 ∷ 0x11 ∷ 0xC0 ∷ 0x00 ∷ 0x00 ∷ 0x19 ∷ 0x21 ∷ 0x23 ∷ 0x00 ∷ 0x01 ∷ 0x00 ∷ 0x00
      ∷ 0 ∷ 0 ∷ 0 ∷ 4 ∷ 0 ∷ 0 ∷ 0 ∷ 1 ∷ 0 ∷ 0 ∷ 0 ∷ 3 ∷ 0 ∷ 0 ∷ 0 ∷ 2 ∷ 0 ∷ 0 ∷ 0 ∷ 1 ∷ [])
      ∷ []
  pub e11_answer : (w x y z : ℕ) → numbers (box (both 0x1000 6 ∷ []) (range 0x1000 6))
      (send (0x80000002 ∷ w ∷ 0x00000004 ∷ x ∷ y ∷ z ∷ []) (command_bytes (header 0 0x123) (PoolStatistics 1) []) ∷ [])
      ≡ 0 ∷ []
  -- the fifth dump with four busy, and with a busy number as well
  pub e12 : numbers usual
      (send four (dump 1 1 0x1000) ∷ send four (dump 2 1 0x1000) ∷ send four (dump 3 1 0x1000) ∷ send four (dump 4 1 0x1000)
      ∷ send four (dump 5 1 0x1000) ∷ send four (dump 4 1 0x1000) ∷ [])
      ≡ 0 ∷ 0 ∷ 0 ∷ 0 ∷ 13 ∷ 12 ∷ []
