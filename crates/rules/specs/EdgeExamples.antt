-- EXAMPLES WHERE RULES MEET: two faults in one packet, what stays of lent buffers, counts and states, and cases that the paper allows in so many words. On the
-- packets of NumberExamples; the box is that of E1: unit 2, one region at 1000 hex of four words, both rights.
use Rattle.std.specs.Prelude.{◌≡◌, false, List, [], ◌∷◌, ◌++◌, map, ℕ, set, take, drop, replicate}
use Rattle.rules.specs.Regions.{no_range}
use Rattle.rules.specs.States.{start_up}
use Rattle.rules.specs.Packets.{command_bytes}
use Rattle.rules.specs.Demand3.{Call, command, slot, events}
use Rattle.rules.specs.Examples.{range, both, fresh, header, dump, load, send, slot_at, numbers, usual, four}
use Rattle.rules.specs.FurtherExamples.{cancel, pair}
use Rattle.rules.specs.NumberExamples.{accepted, other_apid, one_byte_less, other_unit, wrong_check, cancelled, seven_words, value_of_a, dump_packet, table_of_a, send_lent, send_all, read_numbers, packet_numbers, crowded}
use Rattle.rules.specs.declared.Command.TheVariants.{PoolStatistics, DumpSymbol}
use Rattle.rules.specs.declared.State.{State}

-- calls that are lent longer buffers of nines
abbrev pub with_nines : List ℕ → List ℕ → Call
with_nines image p = command (record { packet = p; symbols = table_of_a; image = image; reply = replicate 40 9 })

abbrev pub slot_with_nines : Call
slot_with_nines = slot (record { tick = 5; image = four; buffer = replicate 4096 9 })

abbrev pub buffers : State → List Call → List (List ℕ)
buffers s cs = map (λ e. e.out.buffer) (events s cs)

-- the value of A with a symbol table that is none
abbrev pub no_table : List ℕ → Call
no_table p = command (record { packet = p; symbols = 1 ∷ []; image = four; reply = replicate 32 0 })

-- the usual box with words in the entries that are not in use
abbrev pub unused_filled : State
unused_filled =
    record {
      regions = both 0x1000 4 ∷ replicate 15 (both 2 3);
      count = 1;
      pools = usual.pools;
      unit = 2;
      places = usual.places;
      last = 3;
      replies = 0;
      values = 0;
      packets = 0;
      accepted = 0;
      refused = 0;
    }

abbrev pub many_words : List ℕ
many_words = replicate 1017 7

pub record EdgeExamples : Type 0 where
  -- TWO FAULTS: another APID and an unknown code; and a byte less; a byte less and another unit; another unit and size 0
  pub two_faults : numbers usual
      (send_all (set (set other_apid 6 2) 7 0x7B ∷ set (set one_byte_less 1 0x45) 7 0x7C ∷ set (set one_byte_less 8 0x31) 7 0x6D ∷ set (set other_unit 11 0) 7 0x6A ∷ []))
      ≡ 5 ∷ 5 ∷ 7 ∷ 8 ∷ []
  -- seven bytes with a right check byte and length field; another APID with a wrong check byte
  pub four_first : numbers usual (send_all ((0x1E ∷ 0x44 ∷ 0xC0 ∷ 0x65 ∷ 0 ∷ 0 ∷ 0 ∷ []) ∷ set other_apid 7 0x78 ∷ [])) ≡ 4 ∷ 4 ∷ []
  -- no symbol table, and a byte less, another unit, nothing else
  pub table_after_unit : numbers usual (no_table (set (set (take 59 value_of_a) 5 0x34) 7 0x1B) ∷ no_table (set (set value_of_a 8 0x31) 7 0x0A) ∷ no_table value_of_a ∷ [])
      ≡ 7 ∷ 8 ∷ 17 ∷ []
  -- a busy number, in a region without dump right
  pub right_before_number : numbers crowded (map (send (replicate 6 0)) (dump 1 1 0x1000 ∷ dump 1 1 0x2000 ∷ [])) ≡ 0 ∷ 11 ∷ []
  -- a dump packet of no words, and of 1,017, whose length is right
  pub packet_words : packet_numbers
      (set (set (take 28 dump_packet) 5 21) 27 0
      ∷ (0x03 ∷ 0x14 ∷ 0xC0 ∷ 0 ∷ 0x0F ∷ 0xF9 ∷ 0x21 ∷ 0x23 ∷ 0 ∷ 0 ∷ 0 ∷ 5 ∷ 0 ∷ 0 ∷ 0x10 ∷ 0 ∷ 0 ∷ 0 ∷ 3 ∷ 0xF9 ∷ 0 ∷ 0 ∷ 0x10 ∷ 0 ∷ 0 ∷ 0 ∷ 3 ∷ 0xF9 ∷ replicate 4068 0)
      ∷ [])
      ≡ 7 ∷ 7 ∷ []
  -- ALLOWED: a load into the range of a busy dump; a cancel of a dump of which one packet of two was sent
  pub load_into_dump : numbers usual (send four accepted ∷ send four (load 1 1 0x1004 (7 ∷ [])) ∷ []) ≡ 0 ∷ 0 ∷ []
  pub cancel_half_sent : numbers (fresh (both 0x1000 1017 ∷ []))
      (send many_words (dump 0x123 1017 0x1000) ∷ slot_at many_words 5 ∷ send many_words (cancel 0x123) ∷ slot_at many_words 6 ∷ [])
      ≡ 0 ∷ 0 ∷ 0 ∷ 16 ∷ []
  -- unused load words and name bytes that are not 0, and an offset of 2, are read
  pub unused_read : read_numbers
      (seven_words ∷ set (set value_of_a 59 1) 7 0x1B
      ∷ command_bytes (header 0 1) (DumpSymbol (record { name = 1; offset = 2; size = 1 })) (0x41000000 ∷ replicate 11 0)
      ∷ [])
      ≡ 0 ∷ 0 ∷ 0 ∷ []
  -- 9 to the command call: pool 2; a name of 49 bytes
  pub nines : numbers usual (send four (command_bytes (header 0 1) (PoolStatistics 2) []) ∷ send_lent four 32 (set (set value_of_a 10 49) 7 0x2A) ∷ []) ≡ 9 ∷ 9 ∷ []
  -- WHAT STAYS of the reply buffer: past a told value, and after a dump, a cancel, a refusal and a load; past a pool reply
  pub replies_stay : buffers usual (map (with_nines four) (value_of_a ∷ accepted ∷ cancelled ∷ wrong_check ∷ load 1 1 0x1000 (7 ∷ []) ∷ []))
      ≡ ((0x03 ∷ 0x12 ∷ 0xC0 ∷ 0x00 ∷ 0x00 ∷ 0x05 ∷ 0x21 ∷ 0x23 ∷ 0xFF ∷ 0xFF ∷ 0xFF ∷ 0xFC ∷ []) ++ replicate 28 9) ∷ replicate 4 (replicate 40 9)
  pub pool_reply_stays : map (drop 32) (buffers pair (with_nines (2 ∷ 0 ∷ []) (command_bytes (header 0 1) (PoolStatistics 1) []) ∷ [])) ≡ replicate 8 9 ∷ []
  -- of the packet buffer: past a packet, and after 16
  pub packets_stay : map (drop 36) (buffers usual (send four accepted ∷ slot_with_nines ∷ slot_with_nines ∷ [])) ≡ [] ∷ replicate 4060 9 ∷ replicate 4060 9 ∷ []
  -- of the state: the last place after 16; the counts of replies and values after a slot
  pub last_stays : map (λ e. e.out.state.last) (events usual (send four accepted ∷ slot_at four 1 ∷ slot_at four 2 ∷ [])) ≡ 3 ∷ 0 ∷ 0 ∷ []
  pub counts_stay : map (λ e. e.out.state.replies) (events usual (send four accepted ∷ slot_at four 1 ∷ []))
      ++ map (λ e. e.out.state.values) (events usual (send four accepted ∷ slot_at four 1 ∷ []))
      ≡ replicate 4 0
  -- each accepted command counts: a dump, a cancel, a value, a load
  pub accepted_counts : map (λ e. e.out.state.accepted) (events usual (map (send_lent four 32) (accepted ∷ cancelled ∷ value_of_a ∷ load 1 1 0x1000 (7 ∷ []) ∷ [])))
      ≡ 1 ∷ 2 ∷ 3 ∷ 4 ∷ []
  -- START-UP gives zeros in entries that are not in use, and unit 0 with 17; a handed-in state is judged by its entries in use
  pub unused_zero : (start_up (both 0x1000 4 ∷ both 0x2000 4 ∷ []) 1 (no_range ∷ no_range ∷ []) 2).state.regions
      ≡ both 0x1000 4 ∷ replicate 15 (record { range = range 0 0; load = false; dump = false })
  pub refused_unit : (start_up [] 0 (no_range ∷ no_range ∷ []) 7).state.unit ≡ 0
  pub unused_judged : numbers unused_filled (send four accepted ∷ []) ≡ 0 ∷ []
