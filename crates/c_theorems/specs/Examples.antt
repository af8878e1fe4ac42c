-- The C interface on literal words and bytes: what c/leatgarnet.h says of each, with a value of its own in every field. So two definitions that were
-- changed alike, as a word written and read at another place, are seen here.
use Rattle.std.specs.Prelude.{◌≡◌, List, [], ◌∷◌, ◌++◌, map, ℕ, set, take, drop, replicate, Ok, Err}
use Rattle.rules.specs.declared.Refusal.TheVariants.{BufferLength}
use Rattle.batches.specs.Batch.{BatchArgs, lends}
use Rattle.block.specs.Calls.{CallLeft, lg_start_up, lg_slot, lg_command}
use Rattle.lent_batch.specs.Batches.{lg_commands}
use Rattle.capi.specs.Commands.{lg_write_command, lg_read_command, lg_read_packet}

-- unit 2, three regions: at 1000 hex 4 words with load right, at 2000 hex 6 with dump right, at 3000 hex 1,020 with both; pool 0 is the second
-- region, pool 1 three words of the third. The sixteenth entry is not in use, and holds rights over 3.
abbrev pub table : List ℕ
table =
    2 ∷ 3 ∷ 0x2000 ∷ 6 ∷ 0x3004 ∷ 3 ∷ 0x1000 ∷ 4 ∷ 1 ∷ 0x2000 ∷ 6 ∷ 2 ∷ 0x3000 ∷ 1020 ∷ 3 ∷ replicate 36 0
    ++ 9 ∷ 9 ∷ 7 ∷ []

-- sixteen regions, each with words of its own
abbrev pub sixteen : List ℕ
sixteen =
    0x0000 ∷ 1 ∷ 0 ∷ 0x1000 ∷ 2 ∷ 1 ∷ 0x2000 ∷ 3 ∷ 2 ∷ 0x3000 ∷ 4 ∷ 3 ∷ 0x4000 ∷ 5 ∷ 0 ∷ 0x5000 ∷ 6 ∷ 1 ∷ 0x6000 ∷ 7 ∷ 2 ∷ 0x7000 ∷ 8 ∷ 3
    ∷ 0x8000 ∷ 9 ∷ 0 ∷ 0x9000 ∷ 10 ∷ 1 ∷ 0xA000 ∷ 11 ∷ 2 ∷ 0xB000 ∷ 12 ∷ 3 ∷ 0xC000 ∷ 13 ∷ 0 ∷ 0xD000 ∷ 14 ∷ 1 ∷ 0xE000 ∷ 15 ∷ 2 ∷ 0xF000 ∷ 16 ∷ 3 ∷ []

-- that box with these twenty words of places, and these six of last place and counts
abbrev pub box : List ℕ → List ℕ → List ℕ
box places tail =
    3 ∷ 0x1000 ∷ 4 ∷ 1 ∷ 0x2000 ∷ 6 ∷ 2 ∷ 0x3000 ∷ 1020 ∷ 3 ∷ replicate 39 0 ++ (0x2000 ∷ 6 ∷ 0x3004 ∷ 3 ∷ 2 ∷ []) ++ places ++ tail

-- place 1 busy with the last four words of 1,020; last place 2, packet counts 5 (APID 785), 6 (788) and 9 (786), accepted 7, refused 8
abbrev pub busy : List ℕ
busy = replicate 5 0 ++ (1 ∷ 0x123 ∷ 0x3000 ∷ 1020 ∷ 1016 ∷ []) ++ replicate 10 0

abbrev pub running : List ℕ
running = box busy (2 ∷ 5 ∷ 6 ∷ 7 ∷ 8 ∷ 9 ∷ [])

abbrev pub image : List ℕ
image = replicate 4 0x11 ++ (0x80000002 ∷ 0 ∷ 4 ∷ 0 ∷ 0 ∷ 0 ∷ []) ++ replicate 1020 7

abbrev pub no_regions : List ℕ
no_regions = replicate 74 0 ++ 3 ∷ 0 ∷ 0 ∷ 0 ∷ 0 ∷ 0 ∷ []

-- code, sequence count, unit 2, transaction, size, address, pool, and 9 in the other words
abbrev pub asked : ℕ → ℕ → ℕ → ℕ → ℕ → ℕ → List ℕ
asked code count t size address pool = code ∷ count ∷ 2 ∷ t ∷ size ∷ address ∷ pool ∷ replicate 14 9

-- the symbol "HEAT", 2000 hex, and its alias "H"
abbrev pub symbols : List ℕ
symbols =
    (0 ∷ 4 ∷ 0 ∷ 0 ∷ 0x48 ∷ 0x45 ∷ 0x41 ∷ 0x54 ∷ replicate 44 0 ++ (0x00 ∷ 0x00 ∷ 0x20 ∷ 0x00 ∷ []))
    ++ (1 ∷ 1 ∷ 0 ∷ 0 ∷ 0x48 ∷ replicate 47 0 ++ (0 ∷ 0 ∷ 0 ∷ 0 ∷ []))

-- a command of transaction 456 hex, written and handed to the running box
abbrev pub packet : List ℕ → List ℕ
packet b = take (lg_write_command b (replicate 68 0)).bytes (lg_write_command b (replicate 68 0)).buffer

abbrev pub sent : List ℕ → CallLeft
sent b = lg_command running (record { packet = packet b; symbols = symbols; image = image; reply = replicate 32 0xEE })

abbrev pub slot : List ℕ → CallLeft
slot state = lg_slot state 9 image (replicate 4092 0xEE)

abbrev pub dump_bytes : List ℕ
dump_bytes = 0x03 ∷ 0x14 ∷ 0xC0 ∷ 0x06 ∷ 0x00 ∷ 0x25 ∷ 0x21 ∷ 0x23 ∷ 0x00 ∷ 0x00 ∷ 0x00 ∷ 0x09 ∷ 0x00 ∷ 0x00
    ∷ 0x30 ∷ 0x00 ∷ 0x00 ∷ 0x00 ∷ 0x03 ∷ 0xFC ∷ 0x00 ∷ 0x00 ∷ 0x3F ∷ 0xE0 ∷ 0x00 ∷ 0x00 ∷ 0x00 ∷ 0x04
    ∷ 0x00 ∷ 0x00 ∷ 0x00 ∷ 0x07 ∷ 0x00 ∷ 0x00 ∷ 0x00 ∷ 0x07 ∷ 0x00 ∷ 0x00 ∷ 0x00 ∷ 0x07 ∷ 0x00 ∷ 0x00 ∷ 0x00 ∷ 0x07 ∷ []

abbrev pub e1 : List ℕ
e1 = 0x1E ∷ 0x44 ∷ 0xC0 ∷ 0x00 ∷ 0x00 ∷ 0x09 ∷ 0x00 ∷ 0x78 ∷ 0x21 ∷ 0x23 ∷ 0x00 ∷ 0x02 ∷ 0x00 ∷ 0x00 ∷ 0x10 ∷ 0x04 ∷ []

abbrev pub e3 : List ℕ
e3 = 0x1E ∷ 0x44 ∷ 0xC0 ∷ 0x01 ∷ 0x00 ∷ 0x35 ∷ 0x04 ∷ 0xD6 ∷ 0x2A ∷ 0xBC ∷ 0x00 ∷ 0x01 ∷ 0x00 ∷ 0x00 ∷ 0x10 ∷ 0x00 ∷ 0x01 ∷ 0x02 ∷ 0x03 ∷ 0x04 ∷ replicate 40 0

abbrev pub cancel_bytes : List ℕ
cancel_bytes = 0x1E ∷ 0x44 ∷ 0xC0 ∷ 0x05 ∷ 0x00 ∷ 0x03 ∷ 0x01 ∷ 0x60 ∷ 0x21 ∷ 0x23 ∷ []

abbrev pub pool_bytes : List ℕ
pool_bytes = 0x1E ∷ 0x44 ∷ 0xC0 ∷ 0x05 ∷ 0x00 ∷ 0x05 ∷ 0x07 ∷ 0x61 ∷ 0x21 ∷ 0x23 ∷ 0x00 ∷ 0x01 ∷ []

-- a command that names "HEAT", or its first letters: code, size, name size, offset
abbrev pub naming : ℕ → ℕ → ℕ → ℕ → List ℕ
naming code size n offset =
    code ∷ 0 ∷ 2 ∷ 0x456 ∷ size ∷ 9 ∷ 9 ∷ 0x48454154 ∷ replicate 11 9 ++ (n ∷ offset ∷ [])

-- a dump at byte 0, pool statistics at byte 16, one byte more than is left, and a length that would wrap
abbrev pub several : BatchArgs
several =
    lends (packet (asked 0 0 0x456 5 0x2004 0) ++ packet (asked 7 0 0x456 9 9 0)) (0 ∷ 16 ∷ 16 ∷ 16 ∷ []) (16 ∷ 12 ∷ 13 ∷ 0xFFFFFFFC ∷ []) [] image (replicate 129 0xEE)

pub record Examples : Type 0 where
  -- START-UP: the fresh state's words; a word out of its bounds; a block of another length
  pub start : lg_start_up table (replicate 80 5) ≡ record { number = 0; state = box (replicate 20 0) (3 ∷ 0 ∷ 0 ∷ 0 ∷ 0 ∷ 0 ∷ []) }
  pub start_sixteen : lg_start_up (7 ∷ 16 ∷ 0x2000 ∷ 3 ∷ 0xF004 ∷ 15 ∷ sixteen) (replicate 80 5)
      ≡ record { number = 0; state = 16 ∷ sixteen ++ (0x2000 ∷ 3 ∷ 0xF004 ∷ 15 ∷ 7 ∷ []) ++ replicate 20 0 ++ (3 ∷ 0 ∷ 0 ∷ 0 ∷ 0 ∷ 0 ∷ []) }
  pub start_bounds : map (λ t. lg_start_up t (replicate 80 5)) (set table 8 4 ∷ set table 14 4 ∷ set table 0 256 ∷ set table 0 16 ∷ [])
      ≡ replicate 4 (record { number = 17; state = no_regions })
  pub start_lengths : map (λ t. lg_start_up t (replicate 80 5)) (drop 1 table ∷ (0 ∷ table) ∷ []) ≡ replicate 2 (record { number = 17; state = no_regions })
  pub start_state : lg_start_up table (replicate 81 5) ≡ record { number = 17; state = replicate 81 5 }
  -- A SLOT: the packet, the place freed, last place 1, and the second packet count raised
  pub slot_number : (slot running).number ≡ 0
  pub slot_bytes : (slot running).bytes ≡ 44
  pub slot_packet : take 44 (slot running).buffer ≡ dump_bytes
  pub slot_state : (slot running).state ≡ box (replicate 20 0) (1 ∷ 5 ∷ 7 ∷ 7 ∷ 8 ∷ 9 ∷ [])
  -- the same with other words in the sixteenth entry, which is not in use: they stay
  pub slot_unused : slot (set (set running 46 9) 48 4)
      ≡ record { number = 0; bytes = 44; state = set (set (slot running).state 46 9) 48 4; image = image; buffer = (slot running).buffer }
  -- blocks that are no state: of another length, and with a word out of its bounds
  pub no_state : map slot (drop 1 running ∷ (0 ∷ running) ∷ set running 3 4 ∷ set running 9 4 ∷ set running 54 2 ∷ set running 55 1 ∷ set running 73 1 ∷ [])
      ≡ map (λ b. record { number = 1; bytes = 0; state = b; image = image; buffer = replicate 4092 0xEE })
      (drop 1 running ∷ (0 ∷ running) ∷ set running 3 4 ∷ set running 9 4 ∷ set running 54 2 ∷ set running 55 1 ∷ set running 73 1 ∷ [])
  -- COMMANDS: a dump of the region with load right and a load of the one with dump right, and the other way round
  pub rights : map (λ b. (sent b).number) (asked 0 0 0x456 1 0x1000 0 ∷ asked 4 0 0x456 1 0x2000 0 ∷ asked 0 0 0x456 5 0x2004 0 ∷ asked 4 0 0x456 1 0x1004 0 ∷ [])
      ≡ 11 ∷ 11 ∷ 0 ∷ 0 ∷ []
  pub dump_state : (sent (asked 0 0 0x456 5 0x2004 0)).state
      ≡ box ((1 ∷ 0x456 ∷ 0x2004 ∷ 5 ∷ 0 ∷ []) ++ (1 ∷ 0x123 ∷ 0x3000 ∷ 1020 ∷ 1016 ∷ []) ++ replicate 10 0) (2 ∷ 5 ∷ 6 ∷ 8 ∷ 8 ∷ 9 ∷ [])
  pub refused_state : (sent (asked 0 0 0x456 1 0x1000 0)).state ≡ box busy (2 ∷ 5 ∷ 6 ∷ 7 ∷ 9 ∷ 9 ∷ [])
  -- the first region and the word after it, dumped and loaded; the word after it; a dump by name past the second region's end, and the state after that
  pub runs_out_lem : map (λ b. (sent b).number) (asked 0 0 0x456 5 0x1000 0 ∷ asked 4 0 0x456 2 0x100C 0 ∷ asked 0 0 0x456 1 0x1010 0 ∷ asked 4 0 0x456 1 0x1010 0 ∷ naming 9 6 1 4 ∷ [])
      ≡ 19 ∷ 19 ∷ 10 ∷ 10 ∷ 19 ∷ []
  pub runs_out_state : (sent (naming 9 6 1 4)).state ≡ box busy (2 ∷ 5 ∷ 6 ∷ 7 ∷ 9 ∷ 9 ∷ [])
  pub load_image : take 5 (sent (asked 4 0 0x456 1 0x1004 0)).image ≡ 0x11 ∷ 9 ∷ 0x11 ∷ 0x11 ∷ 0x80000002 ∷ []
  pub pool_left : sent (asked 7 0 0x456 9 9 0)
      ≡ record {
        number = 0;
        bytes = 32;
        state = box busy (2 ∷ 6 ∷ 6 ∷ 8 ∷ 8 ∷ 9 ∷ []);
        image = image;
        buffer = 0x03 ∷ 0x11 ∷ 0xC0 ∷ 0x05 ∷ 0x00 ∷ 0x19 ∷ 0x24 ∷ 0x56 ∷ 0x00 ∷ 0x00 ∷ 0x00 ∷ 0x00
            ∷ 0x00 ∷ 0x00 ∷ 0x00 ∷ 0x04 ∷ 0x00 ∷ 0x00 ∷ 0x00 ∷ 0x01 ∷ 0x00 ∷ 0x00 ∷ 0x00 ∷ 0x03 ∷ 0x00 ∷ 0x00 ∷ 0x00 ∷ 0x02 ∷ 0x00 ∷ 0x00 ∷ 0x00 ∷ 0x01 ∷ [];
      }
  -- the value of "HEAT" and of "H", with the packet count of word 79, which is raised; and a name that the table has not
  pub value_left : sent (naming 8 9 4 9)
      ≡ record {
        number = 0;
        bytes = 12;
        state = box busy (2 ∷ 5 ∷ 6 ∷ 8 ∷ 8 ∷ 10 ∷ []);
        image = image;
        buffer = 0x03 ∷ 0x12 ∷ 0xC0 ∷ 0x09 ∷ 0x00 ∷ 0x05 ∷ 0x24 ∷ 0x56 ∷ 0x00 ∷ 0x00 ∷ 0x20 ∷ 0x00 ∷ replicate 20 0xEE;
      }
  pub values : map (λ n. take 4 (drop 8 (sent (naming 8 9 n 9)).buffer)) (1 ∷ 4 ∷ []) ≡ replicate 2 (0x00 ∷ 0x00 ∷ 0x20 ∷ 0x00 ∷ [])
  pub unknown_left : map (λ n. (sent (naming 8 9 n 9)).number) (2 ∷ 3 ∷ 5 ∷ []) ≡ replicate 3 18
  pub unknown_state : (sent (naming 8 9 3 9)).state ≡ box busy (2 ∷ 5 ∷ 6 ∷ 7 ∷ 9 ∷ 9 ∷ [])
  -- five words from four bytes after "H", and none before it
  pub by_name_state : (sent (naming 9 5 1 4)).state ≡ (sent (asked 0 0 0x456 5 0x2004 0)).state
  pub by_name_back : (sent (naming 9 5 1 0xFFFFFFFC)).number ≡ 10
  -- A BATCH from that box: a dump, pool statistics, and two items that leave the buffer; a reply buffer and a list with one more of each
  pub batch_left : lg_commands running several 5
      ≡ record {
        verdict = (Ok tt);
        left =
            record {
              state = box ((1 ∷ 0x456 ∷ 0x2004 ∷ 5 ∷ 0 ∷ []) ++ (1 ∷ 0x123 ∷ 0x3000 ∷ 1020 ∷ 1016 ∷ []) ++ replicate 10 0) (2 ∷ 6 ∷ 6 ∷ 9 ∷ 10 ∷ 9 ∷ []);
              image = image;
              replies = replicate 32 0xEE ++ (sent (asked 7 0 0x456 9 9 0)).buffer ++ replicate 65 0xEE;
              answers =
                  record { number = 0; length = 0 } ∷ record { number = 0; length = 32 } ∷ record { number = 4; length = 0 } ∷ record { number = 4; length = 0 } ∷ [];
            };
      }
  -- to a block that is no state each item gets 1; too few records are refused with 3 before that
  pub batch_no_state : lg_commands (drop 1 running) several 4
      ≡ record { verdict = (Ok tt); left = record { state = drop 1 running; image = image; replies = replicate 129 0xEE; answers = replicate 4 (record { number = 1; length = 0 }) } }
  pub batch_refused : lg_commands (drop 1 running) several 3
      ≡ record { verdict = Err BufferLength; left = record { state = drop 1 running; image = image; replies = replicate 129 0xEE; answers = [] } }
  -- THE COMMAND BLOCK, written: E1 and E3, a cancel and pool statistics; words that the code does not use are 9
  pub write_e1 : lg_write_command (asked 0 0 0x123 2 0x1004 9) (replicate 16 7) ≡ record { number = 0; bytes = 16; buffer = e1 }
  pub write_e3 : lg_write_command (set (asked 4 1 0xABC 1 0x1000 9) 7 0x01020304) (replicate 60 7) ≡ record { number = 0; bytes = 60; buffer = e3 }
  pub write_cancel : lg_write_command (asked 1 5 0x123 9 9 9) (replicate 11 7) ≡ record { number = 0; bytes = 10; buffer = cancel_bytes ++ 7 ∷ [] }
  pub write_by_name : lg_write_command (set (set (naming 9 2 5 0xFFFFFFFC) 1 5) 3 0x123) (replicate 69 7)
      ≡ record {
        number = 0;
        bytes = 68;
        buffer = 0x1E ∷ 0x44 ∷ 0xC0 ∷ 0x05 ∷ 0x00 ∷ 0x3D ∷ 0x09 ∷ 0x4A ∷ 0x21 ∷ 0x23 ∷ 0x05 ∷ 0x00 ∷ 0x48 ∷ 0x45 ∷ 0x41 ∷ 0x54 ∷ 0x00 ∷ 0x00 ∷ 0x00 ∷ 0x00
            ∷ 0x00 ∷ 0x00 ∷ 0x00 ∷ 0x00 ∷ 0x00 ∷ 0x00 ∷ 0x00 ∷ 0x00 ∷ 0x00 ∷ 0x00 ∷ 0x00 ∷ 0x00 ∷ 0x00 ∷ 0x00 ∷ 0x00 ∷ 0x00 ∷ 0x00 ∷ 0x00 ∷ 0x00 ∷ 0x00
            ∷ 0x00 ∷ 0x00 ∷ 0x00 ∷ 0x00 ∷ 0x00 ∷ 0x00 ∷ 0x00 ∷ 0x00 ∷ 0x00 ∷ 0x00 ∷ 0x00 ∷ 0x00 ∷ 0x00 ∷ 0x00 ∷ 0x00 ∷ 0x00 ∷ 0x00 ∷ 0x00 ∷ 0x00 ∷ 0x00
            ∷ 0xFF ∷ 0xFF ∷ 0xFF ∷ 0xFC ∷ 0x00 ∷ 0x02 ∷ 0x00 ∷ 0x00
            ∷ 7 ∷ [];
      }
  pub write_pool : lg_write_command (asked 7 5 0x123 9 9 1) (replicate 12 7) ≡ record { number = 0; bytes = 12; buffer = pool_bytes }
  -- another length and another code, before all else; too short a buffer; each field past its bounds
  pub write_numbers : map (λ b. lg_write_command b (replicate 16 7))
      ((0 ∷ asked 2 0 1 1 0x1000 0) ∷ asked 2 0 1 1 0x1000 0 ∷ asked 4 0 4096 0 2 0 ∷ asked 0 16384 1 1 0x1000 0 ∷ asked 0 65536 1 1 0x1000 0 ∷ asked 0 0 4096 1 0x1000 0
      ∷ asked 0 0 65536 1 0x1000 0 ∷ set (asked 0 0 1 1 0x1000 0) 2 16 ∷ set (asked 0 0 1 1 0x1000 0) 2 256 ∷ asked 0 0 1 0 0x1000 0 ∷ asked 0 0 1 65537 0x1000 0
      ∷ asked 0 0 1 1 0x1002 0 ∷ asked 7 0 1 1 0 2 ∷ asked 7 0 1 1 0 65536 ∷ [])
      ≡ map (λ n. record { number = n; bytes = 0; buffer = replicate 16 7 }) (3 ∷ 6 ∷ 3 ∷ replicate 11 9)
  -- read
  pub read_e3 : lg_read_command e3 (replicate 21 7) ≡ record { number = 0; block = 4 ∷ 1 ∷ 2 ∷ 0xABC ∷ 1 ∷ 0x1000 ∷ 0 ∷ 0x01020304 ∷ replicate 13 0 }
  pub read_pool : lg_read_command pool_bytes (replicate 21 7) ≡ record { number = 0; block = 7 ∷ 5 ∷ 2 ∷ 0x123 ∷ 0 ∷ 0 ∷ 1 ∷ replicate 14 0 }
  pub read_by_name : lg_read_command (packet (naming 9 2 5 0xFFFFFFFC)) (replicate 21 7)
      ≡ record { number = 0; block = 9 ∷ 0 ∷ 2 ∷ 0x456 ∷ 2 ∷ 0 ∷ 0 ∷ 0x48454154 ∷ replicate 11 0 ++ (5 ∷ 0xFFFFFFFC ∷ []) }
  pub read_lengths : map (λ b. lg_read_command [] b) (replicate 20 7 ∷ replicate 22 7 ∷ replicate 21 7 ∷ [])
      ≡ record { number = 3; block = replicate 20 7 } ∷ record { number = 3; block = replicate 22 7 } ∷ record { number = 4; block = replicate 21 7 } ∷ []
  -- THE DUMP PACKET BLOCK
  pub packet_read : lg_read_packet dump_bytes (replicate 8 7) ≡ record { number = 0; block = 6 ∷ 2 ∷ 0x123 ∷ 9 ∷ 0x3000 ∷ 1020 ∷ 0x3FE0 ∷ 4 ∷ []; bytes = 16 }
  pub packet_lengths : map (λ b. lg_read_packet [] b) (replicate 7 7 ∷ replicate 9 7 ∷ replicate 8 7 ∷ [])
      ≡ record { number = 3; block = replicate 7 7; bytes = 0 } ∷ record { number = 3; block = replicate 9 7; bytes = 0 }
      ∷ record { number = 4; block = replicate 8 7; bytes = 0 } ∷ []
