-- DEMAND 2: exact effect. With a good state and buffers that fit, a command is accepted exactly when the layouts, the unit, the region
-- table, the busy dumps, for pool figures the blocks and, where a symbol is named, the symbol table allow it, and then does exactly what papers
-- 01 and 02 (A2, A4) say; a range that misses is answered by how it did (A5).
use Rattle.std.specs.Prelude.{◌≡◌, ◌≢◌, ◌↔◌, Bool, true, false, cond, not, List, [], ◌∷◌, map, ℕ, ◌+◌, ◌-◌, ◌*◌, ◌%◌, ◌≤◌, ◌<◌, length, get_or, take, drop}
use Rattle.wire.specs.Bytes.{AreBytes}
use Rattle.wire.specs.ByByte.{two, four}
use Rattle.rules.specs.Regions.{start_of, in_one_region, image_length}
use Rattle.rules.specs.States.{start_rules, start_up, pool_at, context_at, busy_with, good_state}
use Rattle.rules.specs.Cases.{Formed, range_of, range_from, name_from, pool_of, NameAllowed, NumberFree, NumberBusy, PlaceFree}
use Rattle.rules.specs.GoodWhen.{LiesIn, StartsIn, DumpableIn, Lies, first_word, GoodStart, Good}
use Rattle.rules.specs.Packets.{function_code_of, apid_of, command_unit, command_transaction}
use Rattle.rules.specs.Pools.{Block, block_of, Tiles, is_free, is_used, words, blocks, largest, usable}
use Rattle.rules.specs.Values.{Reached}
use Rattle.symbols.specs.Table.{symbol_table, has_name, value_of, IsTable, Named}
use Rattle.rules.specs.Results.{verdict_number, answer_number, answer_length}
use Rattle.rules.specs.Commands.{CommandArgs, Outcome, command_call, pool_words}
use Rattle.rules.specs.Demand1.{state_with}
use Rattle.rules.specs.Slots.{SlotArgs, slot_call, next_words, packet_bytes, after_packet}
use Rattle.rules.specs.declared.ActiveDump.{ActiveDump}
use Rattle.rules.specs.declared.Context.TheVariants.{Idle, Busy}
use Rattle.rules.specs.declared.Place.{Place}
use Rattle.rules.specs.declared.Range.{Range}
use Rattle.rules.specs.declared.Region.{Region}
use Rattle.rules.specs.declared.State.{State}

-- WHAT MUST ALLOW A COMMAND

-- the layout of every command packet, and the unit
pub record ForThisBox (s : State) (p : List ℕ) : Type 0 where
  pub formed : Formed p
  pub apid : apid_of p ≡ 1604
  pub unit : command_unit p ≡ s.unit

pub record DumpAllowed (s : State) (p : List ℕ) : Type 0 where
  pub bytes : length p ≡ 16
  pub aligned : start_of (range_of p) % 4 ≡ 0
  pub some : 1 ≤ (range_of p).words
  pub region : DumpableIn s.regions s.count (range_of p)
  pub number : NumberFree s p
  pub place : PlaceFree s

pub record CancelAllowed (s : State) (p : List ℕ) : Type 0 where
  pub bytes : length p ≡ 10
  pub busy : NumberBusy s p

pub record LoadAllowed (s : State) (p : List ℕ) : Type 0 where
  pub bytes : length p ≡ 60
  pub aligned : start_of (range_of p) % 4 ≡ 0
  pub some : 1 ≤ (range_of p).words
  pub most : (range_of p).words ≤ 11
  pub region : (i : ℕ) × LiesIn (λ (g : Region). g.load) s.regions s.count (range_of p) i

pub record PoolAllowed (s : State) (c : CommandArgs) : Type 0 where
  pub bytes : length c.packet ≡ 12
  pub pool : pool_of c.packet ≤ 1
  pub there : (pool_at s.pools (pool_of c.packet)).words ≢ 0
  pub blocks : (bs : List Block) × Tiles (pool_words s (pool_of c.packet) c.image) bs

-- a symbol is named, in a packet of so many bytes, that the lent table has; it resolves to v
pub record SymbolNamed (c : CommandArgs) (n v : ℕ) : Type 0 where
  pub bytes : length c.packet ≡ n
  pub table : IsTable c.symbols
  pub allowed : NameAllowed c.packet
  pub named : Named c.symbols (name_from c.packet) v

abbrev pub ValueAllowed : CommandArgs → Type 0
ValueAllowed c = (v : ℕ) × SymbolNamed c 60 v

-- the name resolves to a value whose address, with the offset, and size could be dumped
pub record ByNameAllowed (s : State) (c : CommandArgs) : Type 0 where
  pub v : ℕ
  pub symbol : SymbolNamed c 68 v
  pub zeros : two c.packet 66 ≡ 0
  pub a : ℕ
  pub reached : Reached v (four c.packet 60) a
  pub below : a < 4294967296
  pub aligned : a % 4 ≡ 0
  pub some : 1 ≤ two c.packet 64
  pub region : DumpableIn s.regions s.count (range_from c.packet a)
  pub number : NumberFree s c.packet
  pub place : PlaceFree s

-- a command is accepted: answered 0
abbrev pub IsAccepted : State → CommandArgs → Type 0
IsAccepted s c = answer_number (command_call s c).answer ≡ 0

-- accepted exactly when, by function code
pub record AcceptedWhen (s : State) (c : CommandArgs) : Type 0 where
  pub dump : function_code_of c.packet ≡ 0 → IsAccepted s c ↔ (ForThisBox s c.packet × DumpAllowed s c.packet)
  pub cancel : function_code_of c.packet ≡ 1 → IsAccepted s c ↔ (ForThisBox s c.packet × CancelAllowed s c.packet)
  pub load : function_code_of c.packet ≡ 4 → IsAccepted s c ↔ (ForThisBox s c.packet × LoadAllowed s c.packet)
  pub pool : function_code_of c.packet ≡ 7 → IsAccepted s c ↔ (ForThisBox s c.packet × PoolAllowed s c)
  pub value : function_code_of c.packet ≡ 8 → IsAccepted s c ↔ (ForThisBox s c.packet × ValueAllowed c)
  pub by_name : function_code_of c.packet ≡ 9 → AreBytes c.packet → IsAccepted s c ↔ (ForThisBox s c.packet × ByNameAllowed s c)
  pub other : function_code_of c.packet ≢ 0 → function_code_of c.packet ≢ 1 → function_code_of c.packet ≢ 4
      → function_code_of c.packet ≢ 7 → function_code_of c.packet ≢ 8 → function_code_of c.packet ≢ 9 → IsAccepted s c → ⊥

-- HOW A RANGE MISSES, of a command that passes every test before that of its range r

pub record MissedWhen (s : State) (c : CommandArgs) (r : Range) : Type 0 where
  -- 10 exactly if no region in use holds the range's first word
  pub outside : (answer_number (command_call s c).answer ≡ 10) ↔ ((i : ℕ) → StartsIn s.regions s.count r i → ⊥)
  -- 19 exactly if one does, and it does not hold the range whole
  pub runs_out_lem : (answer_number (command_call s c).answer ≡ 19)
      ↔ ((i : ℕ) × StartsIn s.regions s.count r i × (LiesIn (λ (g : Region). true) s.regions s.count r i → ⊥))

-- a dump, a load and a dump by name with such a packet
pub record Misses (s : State) (c : CommandArgs) : Type 0 where
  pub dump : function_code_of c.packet ≡ 0 → length c.packet ≡ 16 → start_of (range_of c.packet) % 4 ≡ 0 → 1 ≤ (range_of c.packet).words
      → MissedWhen s c (range_of c.packet)
  pub load : function_code_of c.packet ≡ 4 → length c.packet ≡ 60 → start_of (range_of c.packet) % 4 ≡ 0 → 1 ≤ (range_of c.packet).words
      → (range_of c.packet).words ≤ 11 → MissedWhen s c (range_of c.packet)
  pub by_name : (v a : ℕ) → function_code_of c.packet ≡ 9 → SymbolNamed c 68 v → two c.packet 66 ≡ 0 → Reached v (four c.packet 60) a
      → a < 4294967296 → a % 4 ≡ 0 → 1 ≤ two c.packet 64 → MissedWhen s c (range_from c.packet a)
  -- pool statistics: 10 exactly if there is no such pool, and never 19
  pub pool : function_code_of c.packet ≡ 7 → length c.packet ≡ 12 → pool_of c.packet ≤ 1
      → ((answer_number (command_call s c).answer ≡ 10) ↔ ((pool_at s.pools (pool_of c.packet)).words ≡ 0)) × (answer_number (command_call s c).answer ≢ 19)

-- WHAT AN ACCEPTED COMMAND DOES

-- of four places only place i may have changed
pub record OnePlace (before : List Place) (i : ℕ) (now : List Place) : Type 0 where
  pub in_four : i < 4
  pub four : length now ≡ 4
  pub others : (j : ℕ) → j ≢ i → context_at now j ≡ context_at before j

-- the state after an accepted command: with these places and counts of replies and values, one more accepted, and all else as it was
abbrev pub after_command : State → List Place → ℕ → ℕ → State
after_command s places replies values = state_with s places s.last replies values s.packets ((s.accepted + 1) % 65536) s.refused

-- the lowest-numbered idle place is busy with the dump of the range r, of which nothing was sent
pub record DumpDone (s : State) (c : CommandArgs) (r : Range) (o : Outcome) : Type 0 where
  pub i : ℕ
  pub idle : context_at s.places i ≡ Idle
  pub lowest : (j : ℕ) → j < i → context_at s.places j ≢ Idle
  pub now : context_at o.state.places i
      ≡ Busy (record { transaction = command_transaction c.packet; range = r; sent = 0 })
  pub rest : OnePlace s.places i o.state.places
  pub state : o.state ≡ after_command s o.state.places s.replies s.values
  pub image : o.image ≡ c.image
  pub reply : (o.buffer ≡ c.reply) × (answer_length o.answer ≡ 0)

-- the place that had the number is idle
pub record CancelDone (s : State) (c : CommandArgs) (o : Outcome) : Type 0 where
  pub i : ℕ
  pub busy : busy_with (command_transaction c.packet) (context_at s.places i) ≡ true
  pub now : context_at o.state.places i ≡ Idle
  pub rest : OnePlace s.places i o.state.places
  pub state : o.state ≡ after_command s o.state.places s.replies s.values
  pub image : o.image ≡ c.image
  pub reply : (o.buffer ≡ c.reply) × (answer_length o.answer ≡ 0)

-- Of the image, the addressed words are those of the packet and every other word is as it was: the range lies in a region from one of its
-- words on, and `first` is the index of that word.
pub record LoadDone (s : State) (c : CommandArgs) (o : Outcome) : Type 0 where
  pub region : ℕ
  pub offset : ℕ
  pub lies : Lies s.regions s.count (range_of c.packet) region offset
  pub first : ℕ
  pub index : first ≡ first_word s.regions region + offset
  pub inside : first + (range_of c.packet).words ≤ length c.image
  pub as_long : length o.image ≡ length c.image
  pub written : (k : ℕ) → k < (range_of c.packet).words → get_or o.image (first + k) 0 ≡ four c.packet (16 + 4 * k)
  pub below : (x : ℕ) → x < first → get_or o.image x 0 ≡ get_or c.image x 0
  pub above : (x : ℕ) → first + (range_of c.packet).words ≤ x → get_or o.image x 0 ≡ get_or c.image x 0
  pub state : o.state ≡ after_command s s.places s.replies s.values
  pub reply : (o.buffer ≡ c.reply) × (answer_length o.answer ≡ 0)

-- THE BLOCKS AND THEIR FIGURES IN LOGIC

-- the blocks that `pick` picks, in order, and the sum of blocks' sizes
abbrev pub picked : (Block → Bool) → List Block → List Block
picked pick [] = []
picked pick (b ∷ bs) = cond (pick b) (b ∷ picked pick bs) (picked pick bs)

abbrev pub size_sum : List Block → ℕ
size_sum [] = 0
size_sum (b ∷ bs) = b.size + size_sum bs

abbrev pub block_at : List Block → ℕ → Block
block_at bs i = get_or bs i (record { used = false; size = 0 })

abbrev pub size_at : List Block → ℕ → ℕ
size_at bs i = (block_at bs i).size

-- The blocks of a pool, one by one: each is what the word says that comes after the words of those before it, and has a word or more; together they
-- have as many as the pool.
pub record BlocksAre (pool : List ℕ) (bs : List Block) : Type 0 where
  pub block : (i : ℕ) → i < length bs → block_at bs i ≡ block_of (get_or pool (size_sum (take i bs)) 0)
  pub some : (i : ℕ) → i < length bs → 1 ≤ size_at bs i
  pub all : size_sum bs ≡ length pool

abbrev pub free_blocks : List Block → List Block
free_blocks bs = picked (λ b. not b.used) bs

abbrev pub used_blocks : List Block → List Block
used_blocks bs = picked (λ b. b.used) bs

-- a block without its first word
abbrev pub without_first : Block → Block
without_first b = record { used = b.used; size = b.size - 1 }

pub record FiguresAre (bs : List Block) : Type 0 where
  pub free_words : words is_free bs ≡ size_sum (free_blocks bs)
  pub free_blocks_lem : blocks is_free bs ≡ length (free_blocks bs)
  pub used_words : words is_used bs ≡ size_sum (used_blocks bs)
  pub used_blocks_lem : blocks is_used bs ≡ length (used_blocks bs)
  pub all_blocks : blocks is_free bs + blocks is_used bs ≡ length bs
  -- The third figure plus one is the largest free block's size, where there is a free block: one has as many words, and none has more.
  pub reached : 1 ≤ length (free_blocks bs) → (i : ℕ) × (i < length (free_blocks bs)) × (size_at (free_blocks bs) i ≡ usable is_free bs + 1)
  pub bounds : (i : ℕ) → i < length (free_blocks bs) → size_at (free_blocks bs) i ≤ usable is_free bs + 1
  -- It is 0 where there is no free block, and where every free block has one word.
  pub none : length (free_blocks bs) ≡ 0 → usable is_free bs ≡ 0
  pub ones : ((i : ℕ) → i < length (free_blocks bs) → size_at (free_blocks bs) i ≡ 1) → usable is_free bs ≡ 0
  -- It is the same if one is taken off each block before the largest is picked.
  pub each : largest is_free (map without_first bs) ≡ usable is_free bs

-- THE REPLY, BY BYTE OFFSET

-- what every telemetry packet begins with: version 0, type 0, no second header and the APID; sequence flags 3 and the count; packet bytes minus 7;
-- unit and transaction
pub record TelemetryHeader (apid count unit transaction : ℕ) (p : List ℕ) : Type 0 where
  pub kind : two p 0 ≡ apid
  pub sequence : two p 2 ≡ 49152 + count
  pub length_field : two p 4 + 7 ≡ length p
  pub identity : two p 6 ≡ 4096 * unit + transaction

-- a block's first word: the top bit says used, the low 31 bits are the size
abbrev pub BlockBits : ℕ → Type 0
BlockBits w = (w ≡ cond (block_of w).used 2147483648 0 + (block_of w).size) × ((block_of w).size < 2147483648)

-- The reply has the figures of the pool's blocks, as words from byte 12 on; its packet count is raised.
pub record PoolDone (s : State) (c : CommandArgs) (o : Outcome) : Type 0 where
  pub found : List Block
  pub tiles : Tiles (pool_words s (pool_of c.packet) c.image) found
  pub figures : FiguresAre found
  -- five words from byte 12 on: free words, free blocks, usable words of the largest free block, used words, used blocks
  pub free : (four o.buffer 12 ≡ words is_free found) × (four o.buffer 16 ≡ blocks is_free found) × (four o.buffer 20 ≡ usable is_free found)
  pub used : (four o.buffer 24 ≡ words is_used found) × (four o.buffer 28 ≡ blocks is_used found)
  pub size : words is_free found + words is_used found ≡ (pool_at s.pools (pool_of c.packet)).words
  pub reported : answer_length o.answer ≡ 32
  -- a telemetry packet of APID 785 with the reply count, the box's unit and the command's transaction number; its pool, and 16 zero bits
  pub header : TelemetryHeader 785 s.replies s.unit (command_transaction c.packet) (take 32 o.buffer)
  pub pool : (two o.buffer 8 ≡ pool_of c.packet) × (two o.buffer 10 ≡ 0)
  pub rest : drop 32 o.buffer ≡ drop 32 c.reply
  pub state : o.state ≡ after_command s s.places ((s.replies + 1) % 16384) s.values
  pub image : o.image ≡ c.image

-- The reply has the value that the symbol resolves to, as a word at byte 8; its packet count is raised.
pub record ValueDone (s : State) (c : CommandArgs) (o : Outcome) : Type 0 where
  pub v : ℕ
  pub symbol : SymbolNamed c 60 v
  pub value : four o.buffer 8 ≡ v
  pub reported : answer_length o.answer ≡ 12
  -- a telemetry packet of APID 786 with its own count, the box's unit and the command's transaction number
  pub header : TelemetryHeader 786 s.values s.unit (command_transaction c.packet) (take 12 o.buffer)
  pub rest : drop 12 o.buffer ≡ drop 12 c.reply
  pub state : o.state ≡ after_command s s.places s.replies ((s.values + 1) % 16384)
  pub image : o.image ≡ c.image

-- A dump by name is the dump of the range that its name resolves to.
pub record ByNameDone (s : State) (c : CommandArgs) (o : Outcome) : Type 0 where
  pub v : ℕ
  pub symbol : SymbolNamed c 68 v
  pub a : ℕ
  pub reached : Reached v (four c.packet 60) a
  pub dump : DumpDone s c (range_from c.packet a) o

pub record Effects (s : State) (c : CommandArgs) : Type 0 where
  pub dump : function_code_of c.packet ≡ 0 → DumpDone s c (range_of c.packet) (command_call s c)
  pub cancel : function_code_of c.packet ≡ 1 → CancelDone s c (command_call s c)
  pub load : function_code_of c.packet ≡ 4 → LoadDone s c (command_call s c)
  pub pool : function_code_of c.packet ≡ 7 → PoolDone s c (command_call s c)
  pub value : function_code_of c.packet ≡ 8 → AreBytes c.symbols → ValueDone s c (command_call s c)
  pub by_name : function_code_of c.packet ≡ 9 → AreBytes c.packet → ByNameDone s c (command_call s c)

-- SLOTS

-- The first busy place after the last one served had the dump; its next packet stands in the buffer, and its place has moved on.
pub record SlotDone (s : State) (c : SlotArgs) (o : Outcome) : Type 0 where
  pub k : ℕ
  pub near : k < 4
  pub dump : ActiveDump
  pub busy : context_at s.places ((s.last + 1 + k) % 4) ≡ Busy dump
  pub passed : (j : ℕ) → j < k → context_at s.places ((s.last + 1 + j) % 4) ≡ Idle
  pub packet : take (answer_length o.answer) o.buffer ≡ packet_bytes s c.tick dump (next_words s c.image dump)
  pub rest : drop (answer_length o.answer) o.buffer ≡ drop (answer_length o.answer) c.buffer
  pub reported : answer_length o.answer ≡ 28 + 4 * length (next_words s c.image dump)
  pub longest : answer_length o.answer ≤ 4092
  pub now : context_at o.state.places ((s.last + 1 + k) % 4) ≡ after_packet dump
  pub more : dump.sent + 1016 < dump.range.words
      → context_at o.state.places ((s.last + 1 + k) % 4)
      ≡ Busy (record { transaction = dump.transaction; range = dump.range; sent = dump.sent + 1016 })
  pub freed : dump.range.words ≤ dump.sent + 1016 → context_at o.state.places ((s.last + 1 + k) % 4) ≡ Idle
  pub others : OnePlace s.places ((s.last + 1 + k) % 4) o.state.places
  pub state : o.state ≡ state_with s o.state.places ((s.last + 1 + k) % 4) s.replies s.values ((s.packets + 1) % 16384) s.accepted s.refused

pub record SlotExact (s : State) (c : SlotArgs) : Type 0 where
  pub when : (answer_number (slot_call s c).answer ≡ 0) ↔ ((i : ℕ) × (i < 4) × (context_at s.places i ≢ Idle))
  pub done : answer_number (slot_call s c).answer ≡ 0 → SlotDone s c (slot_call s c)

-- THE DEMAND

pub record Demand2 : Type 0 where
  pub accepted_when : (s : State) (c : CommandArgs) → good_state s ≡ true → length c.image ≡ image_length s.regions s.count → 32 ≤ length c.reply
      → AcceptedWhen s c
  pub missed_when : (s : State) (c : CommandArgs) → good_state s ≡ true → length c.image ≡ image_length s.regions s.count → 32 ≤ length c.reply
      → ForThisBox s c.packet → Misses s c
  pub effects : (s : State) (c : CommandArgs) → IsAccepted s c → Effects s c
  pub slot : (s : State) (c : SlotArgs) → good_state s ≡ true → length c.image ≡ image_length s.regions s.count → 4092 ≤ length c.buffer
      → SlotExact s c
  -- what the blocks of a pool are, and the bits of a block's first word
  pub blocks_are : (pool : List ℕ) (bs : List Block) → Tiles pool bs ↔ BlocksAre pool bs
  pub block_bits : (w : ℕ) → w < 4294967296 → BlockBits w
  -- the tests of tables, pools, dumps and states hold exactly when the rules do
  pub region_when : (right : Region → Bool) (rs : List Region) (n : ℕ) (a : Range) → (in_one_region right rs n a ≡ true) ↔ ((i : ℕ) × LiesIn right rs n a i)
  pub start_when : (rs : List Region) (n : ℕ) (pools : List Range) (unit : ℕ) → (start_rules rs n pools unit ≡ true) ↔ GoodStart rs n pools unit
  pub good_when : (s : State) → (good_state s ≡ true) ↔ Good s
  -- a symbol table is one exactly when its rules hold, and each of its names resolves to one value
  pub table_when : (t : List ℕ) → (symbol_table t ≡ true) ↔ IsTable t
  pub resolves_when : (t name : List ℕ) (v : ℕ) → IsTable t → Named t name v ↔ ((has_name t name ≡ true) × (value_of t name ≡ v))
  -- a good state stays good under every call, and start-up answered 0 gives a good one
  pub command_good : (s : State) (c : CommandArgs) → AreBytes c.packet → good_state s ≡ true → good_state (command_call s c).state ≡ true
  pub slot_good : (s : State) (c : SlotArgs) → good_state s ≡ true → good_state (slot_call s c).state ≡ true
  pub start_good : (rs : List Region) (n : ℕ) (pools : List Range) (unit : ℕ) → verdict_number (start_up rs n pools unit).verdict ≡ 0
      → good_state (start_up rs n pools unit).state ≡ true
