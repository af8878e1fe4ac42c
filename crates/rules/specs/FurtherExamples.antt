-- Examples beyond paper 01's: cases that E1 to E12 leave out. Unless said otherwise as there, the box is unit 2 and fresh.
use Rattle.std.specs.Prelude.{◌≡◌, Bool, true, false, List, [], ◌∷◌, ◌++◌, map, ℕ, drop, replicate, Ok}
use Rattle.rules.specs.Regions.{no_range}
use Rattle.rules.specs.States.{start_up}
use Rattle.rules.specs.Packets.{command_bytes}
use Rattle.rules.specs.Commands.{command_call}
use Rattle.rules.specs.Results.{answer_number}
use Rattle.rules.specs.Ground.{write_command, read_command, reading_number, read_packet}
use Rattle.rules.specs.Demand3.{Call, events}
use Rattle.rules.specs.Examples.{range, both, box, fresh, header, dump, load, send, slot_at, numbers, written, four, usual}
use Rattle.rules.specs.declared.Command.{Command}
use Rattle.rules.specs.declared.Command.TheVariants.{Dump, Cancel, Load, PoolStatistics}
use Rattle.rules.specs.declared.Header.{Header}
use Rattle.rules.specs.declared.Region.{Region}
use Rattle.rules.specs.declared.State.{State}

abbrev pub region : ℕ → ℕ → Bool → Bool → Region
region a n l d = record { range = range a n; load = l; dump = d }

abbrev pub cancel : ℕ → List ℕ
cancel t = command_bytes (header 0 t) Cancel []

-- a box with two touching regions, and after a gap of four words a third; each has two words, and the third has load right alone
abbrev pub apart : State
apart = fresh (both 0x1000 2 ∷ both 0x1008 2 ∷ region 0x1020 2 true false ∷ [])

abbrev pub send_apart : List ℕ → Call
send_apart p = send (replicate 6 0) p

-- what each of these commands is answered by that box while it is fresh
abbrev pub alone : List (List ℕ) → List ℕ
alone ps = map (λ p. answer_number (command_call apart (record { packet = p; symbols = []; image = replicate 6 0; reply = replicate 32 0 })).answer) ps

-- a box whose only region, of two words, is pool 1, and its figures
abbrev pub pair : State
pair = box (both 0x1000 2 ∷ []) (range 0x1000 2)

abbrev pub figures_of_pair : ℕ → ℕ → Call
figures_of_pair w x = send (w ∷ x ∷ []) (command_bytes (header 0 1) (PoolStatistics 1) [])

-- a box of unit 10 with two regions; all of the first is pool 0, whose blocks are two free and two used
abbrev pub big : State
big = (start_up (both 0x1000 7 ∷ both 0x2000 2 ∷ []) 2 (range 0x1000 7 ∷ no_range ∷ []) 10).state

abbrev pub memory : List ℕ
memory = 2 ∷ 0 ∷ 3 ∷ 0 ∷ 0 ∷ 0x80000001 ∷ 0x80000001 ∷ 0xAAAAAAAA ∷ 0xBBBBBBBB ∷ []

abbrev pub for_big : ℕ → ℕ → Header
for_big count t = record { count = count; unit = 10; transaction = t }

abbrev pub ask : ℕ → Command → Call
ask t k = send memory (command_bytes (for_big 300 t) k [])

abbrev pub dump_of : ℕ → ℕ → Command
dump_of n a = Dump (record { size = n; address = record { 0 = a } })

abbrev pub commands : List Command
commands = dump_of 7 0x1000 ∷ Cancel ∷ Load (record { size = 2; address = record { 0 = 0x1004 } }) ∷ PoolStatistics 1 ∷ []

pub record FurtherExamples : Type 0 where
  -- a region with dump right alone, and one with load right alone
  pub rights : numbers (fresh (region 0x1000 2 false true ∷ region 0x1008 2 true false ∷ []))
      (send four (dump 1 1 0x1000) ∷ send four (load 1 1 0x1000 (7 ∷ [])) ∷ send four (dump 2 1 0x1008) ∷ send four (load 1 1 0x1008 (7 ∷ [])) ∷ [])
      ≡ 0 ∷ 11 ∷ 11 ∷ 0 ∷ []
  -- a range that starts inside: over two touching regions, from a region's last word into the gap, and on into the next; past the last region
  pub runs_out_lem : alone (dump 1 2 0x1004 ∷ load 1 2 0x1004 (7 ∷ 7 ∷ []) ∷ dump 1 2 0x100C ∷ dump 1 7 0x100C ∷ load 1 3 0x1020 (7 ∷ 7 ∷ 7 ∷ []) ∷ [])
      ≡ 19 ∷ 19 ∷ 19 ∷ 19 ∷ 19 ∷ []
  -- a range that starts in no region: before the first, at a region's end in the gap, in the gap and into the next region, past the last; no such pool
  pub outside : alone
      (dump 1 1 0x0FFC ∷ dump 1 2 0x0FFC ∷ dump 1 1 0x1010 ∷ load 1 5 0x1010 (replicate 5 7) ∷ dump 1 1 0x101C ∷ dump 1 3 0x101C ∷ dump 1 1 0x1028
      ∷ command_bytes (header 0 1) (PoolStatistics 1) []
      ∷ [])
      ≡ 10 ∷ 10 ∷ 10 ∷ 10 ∷ 10 ∷ 10 ∷ 10 ∷ 10 ∷ []
  -- the longest dumps, from a region's last word on and from a gap on
  pub longest : alone (dump 1 65535 0x1004 ∷ dump 1 65535 0x1024 ∷ dump 1 65535 0x0FFC ∷ dump 1 65535 0x1010 ∷ []) ≡ 19 ∷ 19 ∷ 10 ∷ 10 ∷ []
  -- at a region's end, where the next one touches, the first word is in that one
  pub touching : alone (dump 1 1 0x1008 ∷ dump 1 2 0x1008 ∷ dump 1 3 0x1008 ∷ []) ≡ 0 ∷ 0 ∷ 19 ∷ []
  -- 9 before 19, and 19 before 11, 12 and 13; each is counted
  pub runs_out_order : numbers apart
      (send_apart (dump 1 3 0x1006) ∷ send_apart (dump 1 3 0x1020) ∷ send_apart (dump 1 1 0x1000) ∷ send_apart (dump 1 3 0x1000) ∷ send_apart (dump 2 1 0x1000)
      ∷ send_apart (dump 3 1 0x1000) ∷ send_apart (dump 4 1 0x1000) ∷ send_apart (dump 5 3 0x1000) ∷ send_apart (dump 5 1 0x1010) ∷ [])
      ≡ 9 ∷ 19 ∷ 0 ∷ 19 ∷ 0 ∷ 0 ∷ 0 ∷ 19 ∷ 10 ∷ []
  pub runs_out_counted : map (λ e. e.out.state.refused) (events apart (send_apart (dump 1 3 0x1000) ∷ send_apart (load 1 3 0x1020 (7 ∷ 7 ∷ 7 ∷ [])) ∷ []))
      ≡ 1 ∷ 2 ∷ []
  -- a cancel of a number that is not busy, of one that is, and of one that was
  pub cancels : numbers usual (send four (dump 1 1 0x1000) ∷ send four (cancel 2) ∷ send four (cancel 1) ∷ slot_at four 6 ∷ send four (cancel 1) ∷ [])
      ≡ 0 ∷ 14 ∷ 0 ∷ 16 ∷ 14 ∷ []
  -- the second reply of pool 0: five free words in two blocks, the largest with two usable, and two used words in two blocks
  pub figures : drop 1 (written big (ask 0xFED (PoolStatistics 0) ∷ ask 0xFED (PoolStatistics 0) ∷ []))
      ≡ (0x03 ∷ 0x11 ∷ 0xC0 ∷ 0x01 ∷ 0x00 ∷ 0x19 ∷ 0xAF ∷ 0xED ∷ 0x00 ∷ 0x00 ∷ 0x00 ∷ 0x00
      ∷ 0 ∷ 0 ∷ 0 ∷ 5 ∷ 0 ∷ 0 ∷ 0 ∷ 2 ∷ 0 ∷ 0 ∷ 0 ∷ 2 ∷ 0 ∷ 0 ∷ 0 ∷ 2 ∷ 0 ∷ 0 ∷ 0 ∷ 2 ∷ [])
      ∷ []
  -- one free block of two words; no free block; one free block of one word beside a used one; two free blocks of one word
  pub usable : map (drop 12) (written pair (figures_of_pair 2 9 ∷ figures_of_pair 0x80000002 9 ∷ figures_of_pair 1 0x80000001 ∷ figures_of_pair 1 1 ∷ []))
      ≡ (0 ∷ 0 ∷ 0 ∷ 2 ∷ 0 ∷ 0 ∷ 0 ∷ 1 ∷ 0 ∷ 0 ∷ 0 ∷ 1 ∷ 0 ∷ 0 ∷ 0 ∷ 0 ∷ 0 ∷ 0 ∷ 0 ∷ 0 ∷ [])
      ∷ (0 ∷ 0 ∷ 0 ∷ 0 ∷ 0 ∷ 0 ∷ 0 ∷ 0 ∷ 0 ∷ 0 ∷ 0 ∷ 0 ∷ 0 ∷ 0 ∷ 0 ∷ 2 ∷ 0 ∷ 0 ∷ 0 ∷ 1 ∷ [])
      ∷ (0 ∷ 0 ∷ 0 ∷ 1 ∷ 0 ∷ 0 ∷ 0 ∷ 1 ∷ 0 ∷ 0 ∷ 0 ∷ 0 ∷ 0 ∷ 0 ∷ 0 ∷ 1 ∷ 0 ∷ 0 ∷ 0 ∷ 1 ∷ [])
      ∷ (0 ∷ 0 ∷ 0 ∷ 2 ∷ 0 ∷ 0 ∷ 0 ∷ 2 ∷ 0 ∷ 0 ∷ 0 ∷ 0 ∷ 0 ∷ 0 ∷ 0 ∷ 0 ∷ 0 ∷ 0 ∷ 0 ∷ 0 ∷ [])
      ∷ []
  -- pools of two words by their first word: whole, and damaged
  pub damage : numbers pair
      (map (λ w. figures_of_pair w 0) (2 ∷ 0x80000002 ∷ 0 ∷ 0x80000000 ∷ 3 ∷ 1 ∷ 0x10002 ∷ 0x40000002 ∷ []))
      ≡ 0 ∷ 0 ∷ 15 ∷ 15 ∷ 15 ∷ 15 ∷ 15 ∷ 15 ∷ []
  -- two dumps of the second region, served in turn
  pub turns : written big (ask 0x801 (dump_of 1 0x2000) ∷ ask 0x802 (dump_of 1 0x2004) ∷ slot_at memory 0x01020304 ∷ slot_at memory 7 ∷ [])
      ≡ []
      ∷ []
      ∷ (0x03 ∷ 0x14 ∷ 0xC0 ∷ 0 ∷ 0 ∷ 25 ∷ 0xA8 ∷ 0x01 ∷ 1 ∷ 2 ∷ 3 ∷ 4 ∷ 0 ∷ 0 ∷ 0x20 ∷ 0 ∷ 0 ∷ 0 ∷ 0 ∷ 1 ∷ 0 ∷ 0 ∷ 0x20 ∷ 0 ∷ 0 ∷ 0 ∷ 0 ∷ 1
      ∷ 0xAA ∷ 0xAA ∷ 0xAA ∷ 0xAA ∷ [])
      ∷ (0x03 ∷ 0x14 ∷ 0xC0 ∷ 1 ∷ 0 ∷ 25 ∷ 0xA8 ∷ 0x02 ∷ 0 ∷ 0 ∷ 0 ∷ 7 ∷ 0 ∷ 0 ∷ 0x20 ∷ 4 ∷ 0 ∷ 0 ∷ 0 ∷ 1 ∷ 0 ∷ 0 ∷ 0x20 ∷ 4 ∷ 0 ∷ 0 ∷ 0 ∷ 1
      ∷ 0xBB ∷ 0xBB ∷ 0xBB ∷ 0xBB ∷ [])
      ∷ []
  -- the four commands, written and read
  pub read : map (λ k. (read_command (command_bytes (for_big 300 0xFED) k (replicate 12 9))).reading) commands
      ≡ map (λ k. Ok (record { header = for_big 300 0xFED; command = k })) commands
  pub read_words : (read_command (command_bytes (for_big 0 1) (Load (record { size = 2; address = record { 0 = 0x1004 } })) (replicate 12 9))).words
      ≡ 9 ∷ 9 ∷ replicate 10 0
  pub unread : reading_number (read_command (command_bytes (for_big 0 1) (PoolStatistics 2) [])).reading ≡ 9
  -- the writer at its bounds and past each of them, and the bytes that it leaves
  pub bounds : map (λ h. answer_number (write_command h Cancel [] (replicate 10 9)).answer)
      (header 16383 4095 ∷ header 16384 1 ∷ header 0 4096 ∷ record { count = 0; unit = 16; transaction = 1 } ∷ [])
      ≡ 0 ∷ 9 ∷ 9 ∷ 9 ∷ []
  pub left : (write_command (for_big 0 1) Cancel [] (replicate 12 9)).buffer ≡ command_bytes (for_big 0 1) Cancel [] ++ 9 ∷ 9 ∷ []
  -- a dump packet's fields and data, read
  pub fields : map (λ b. (read_packet b).reading) (drop 3 (written big (ask 0x801 (dump_of 1 0x2000) ∷ slot_at memory 3 ∷ ask 0x802 (dump_of 1 0x2004) ∷ slot_at memory 7 ∷ [])))
      ≡ Ok (record { header = for_big 1 0x802; tick = 7; range = range 0x2004 1; here = record { 0 = 0x2004 }; words = 1 }) ∷ []
  pub part : map (λ b. (read_packet b).part) (written usual (send four (dump 0x123 2 0x1004) ∷ slot_at four 5 ∷ []))
      ≡ [] ∷ (0x22 ∷ 0x22 ∷ 0x22 ∷ 0x22 ∷ 0x33 ∷ 0x33 ∷ 0x33 ∷ 0x33 ∷ []) ∷ []
