-- Paper 01, "Regions and image": pools, start-up and the good state.
use Rattle.std.specs.Prelude.{Bool, true, false, ◌&&◌, not, cond, List, ◌++◌, ℕ, ◌-◌, ◌%◌, leb, ltb, eqb, length, get_or, take, replicate, Ok, Err}
use Rattle.lists.specs.Below.{all_below}
use Rattle.rules.specs.Regions.{start_of, aligned, no_range, no_region, table_rules, in_one_region, dump_right}
use Rattle.rules.specs.declared.Range.{Range}
use Rattle.rules.specs.declared.Region.{Region}
use Rattle.rules.specs.declared.ActiveDump.{ActiveDump}
use Rattle.rules.specs.declared.Place.{Place}
use Rattle.rules.specs.declared.Context.{Context}
use Rattle.rules.specs.declared.Context.TheVariants.{Idle, Busy}
use Rattle.rules.specs.declared.State.{State}
use Rattle.rules.specs.declared.Refusal.TheVariants.{BadTable}
use Rattle.rules.specs.declared.Started.{Started}

-- POOLS

abbrev pub pool_at : List Range → ℕ → Range
pool_at ps i = get_or ps i no_range

-- no pool (size 0, start 0), or aligned and whole in one region with dump right
abbrev pub pool_rules : List Region → ℕ → Range → Bool
pool_rules rs n p = cond (eqb p.words 0) (eqb (start_of p) 0) (aligned p && in_one_region dump_right rs n p)

-- START-UP

-- the rules that start-up tests: of the table, the pools and the unit
unfoldable pub start_rules : List Region → ℕ → List Range → ℕ → Bool
start_rules rs n ps unit = table_rules rs n && pool_rules rs n (pool_at ps 0) && pool_rules rs n (pool_at ps 1) && leb unit 15

abbrev pub idle_place : Place
idle_place = record { context = Idle }

-- the first n entries of a table, and zero entries up to sixteen
unfoldable pub entries_used : List Region → ℕ → List Region
entries_used rs n = take n rs ++ replicate (16 - n) no_region

-- four idle places, last place served 3, all counts 0
abbrev pub fresh_state : List Region → ℕ → List Range → ℕ → State
fresh_state rs n ps unit =
    record
    { regions = rs; count = n; pools = ps; unit = unit; places = replicate 4 idle_place; last = 3; replies = 0; values = 0; packets = 0; accepted = 0; refused = 0 }

-- the state that start-up gives with 17: zero regions, no pools, unit 0, the rest as if fresh
abbrev pub no_state : State
no_state = fresh_state (replicate 16 no_region) 0 (replicate 2 no_range) 0

-- what start-up answers, and the state that it gives
unfoldable pub start_up : List Region → ℕ → List Range → ℕ → Started
start_up rs n ps unit =
    cond (start_rules rs n ps unit)
    (record { verdict = (Ok tt); state = fresh_state (entries_used rs n) n ps unit })
    (record { verdict = Err BadTable; state = no_state })

-- THE GOOD STATE

-- the words in one packet of a dump, but for its last: 1,016 for every range
unfoldable pub piece_words : Range → ℕ
piece_words r = 1016

-- a busy dump by itself: transaction at most 4,095, 1 to 65,535 words, start a multiple of 4, whole in one region with dump right,
-- and words sent a multiple of 1,016 below the request
unfoldable pub dump_rules : List Region → ℕ → ActiveDump → Bool
dump_rules rs n d =
    leb d.transaction 4095 && leb 1 d.range.words && leb d.range.words 65535 && aligned d.range
    && in_one_region dump_right rs n d.range && eqb (d.sent % piece_words d.range) 0 && ltb d.sent d.range.words

-- what place i does; there is nothing past the last place
abbrev pub context_at : List Place → ℕ → Context
context_at ps i = (get_or ps i idle_place).context

abbrev pub context_rules : List Region → ℕ → Context → Bool
context_rules rs n Idle = true
context_rules rs n (Busy d) = dump_rules rs n d

-- busy with the transaction number t
abbrev pub busy_with : ℕ → Context → Bool
busy_with t Idle = false
busy_with t (Busy d) = eqb d.transaction t

-- the two are not busy with one transaction number
abbrev pub apart : Context → Context → Bool
apart Idle c = true
apart (Busy d) c = not (busy_with d.transaction c)

-- place i is by the rules, and shares its number with no place before it
abbrev pub place_rules : List Region → ℕ → List Place → ℕ → Bool
place_rules rs n ps i = context_rules rs n (context_at ps i) && all_below (λ j. apart (context_at ps i) (context_at ps j)) i

-- four places, each by the rules
unfoldable pub places_rules : List Region → ℕ → List Place → Bool
places_rules rs n ps = eqb (length ps) 4 && all_below (place_rules rs n ps) 4

-- the last place and the counts
unfoldable pub count_rules : State → Bool
count_rules s =
    leb s.last 3 && leb s.replies 16383 && leb s.values 16383 && leb s.packets 16383 && leb s.accepted 65535 && leb s.refused 65535

-- the paper's "good" state
unfoldable pub good_state : State → Bool
good_state s =
    start_rules s.regions s.count s.pools s.unit && count_rules s && places_rules s.regions s.count s.places
