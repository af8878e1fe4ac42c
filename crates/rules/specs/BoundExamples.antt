-- Examples at the bounds: start-up and the good state at each limit that paper 01 gives and one past it, the counts that go round, and the places in turn.
use Rattle.std.specs.Prelude.{◌≡◌, true, false, List, [], ◌∷◌, ◌++◌, map, ℕ, ◌*◌, length, take, drop, replicate}
use Rattle.rules.specs.Regions.{no_range}
use Rattle.rules.specs.States.{start_up}
use Rattle.rules.specs.Results.{verdict_number, answer_number}
use Rattle.rules.specs.Demand1.{state_with}
use Rattle.rules.specs.Slots.{slot_call}
use Rattle.rules.specs.Demand3.{Call, step}
use Rattle.rules.specs.Examples.{range, both, dump, send, slot_at, written, four, usual}
use Rattle.rules.specs.FurtherExamples.{region, cancel, pair, figures_of_pair}
use Rattle.rules.specs.SymbolExamples.{h1, symbols, value, send_with}
use Rattle.rules.specs.declared.Context.TheVariants.{Idle, Busy}
use Rattle.rules.specs.declared.Place.{Place}
use Rattle.rules.specs.declared.Range.{Range}
use Rattle.rules.specs.declared.Region.{Region}
use Rattle.rules.specs.declared.State.{State}

-- what start-up answers to these regions, pools 0 and 1, and unit
abbrev pub started : List Region → Range → Range → ℕ → ℕ
started rs pool0 pool1 unit = verdict_number (start_up rs (length rs) (pool0 ∷ pool1 ∷ []) unit).verdict

abbrev pub started_with : List Region → ℕ
started_with rs = started rs no_range no_range 0

abbrev pub fifteen : List Region
fifteen = map (λ i. both (0x1000 * i) 1024) (0 ∷ 1 ∷ 2 ∷ 3 ∷ 4 ∷ 5 ∷ 6 ∷ 7 ∷ 8 ∷ 9 ∷ 10 ∷ 11 ∷ 12 ∷ 13 ∷ 14 ∷ [])

-- regions of 70,000 words that touch: the first can be dumped, the second loaded, the third both
abbrev pub wide : List Region
wide = region 0x1000 70000 false true ∷ region 0x455C0 70000 true false ∷ both 0x89B80 70000 ∷ []

-- 2 to a good state, and 1 to any other: a slot that is lent no image
abbrev pub slot_on : State → ℕ
slot_on s = answer_number (slot_call s (record { tick = 0; image = []; buffer = [] })).answer

abbrev pub wide_box : State
wide_box = (start_up (wide ++ replicate 13 (both 0 0)) 3 (no_range ∷ no_range ∷ []) 2).state

abbrev pub idle : Place
idle = record { context = Idle }

-- a place busy with a dump: transaction, start, words, words sent
abbrev pub busy : ℕ → ℕ → ℕ → ℕ → Place
busy t a n sent = record { context = Busy (record { transaction = t; range = range a n; sent = sent }) }

abbrev pub with_places : List Place → ℕ
with_places ps = slot_on (state_with wide_box ps 0 0 0 0 0 0)

abbrev pub with_counts : ℕ → ℕ → ℕ → ℕ → ℕ → ℕ → ℕ
with_counts last replies values packets accepted refused = slot_on (state_with wide_box (replicate 4 idle) last replies values packets accepted refused)

-- place 3 alone
abbrev pub at_3 : Place → ℕ
at_3 p = with_places (idle ∷ idle ∷ idle ∷ p ∷ [])

-- unit and transaction of the packets that calls write
abbrev pub turns_of : List Call → List (List ℕ)
turns_of cs = map (λ b. take 2 (drop 6 b)) (written usual cs)

abbrev pub state_after : State → List Call → State
state_after s [] = s
state_after s (c ∷ cs) = state_after (step s c).state cs

-- the counts after pool statistics, a dump, a slot and a refused command, from counts as high as may be
abbrev pub wrapped : State
wrapped =
    state_after (state_with pair (replicate 4 idle) 3 16383 16383 16383 65535 65535)
    (figures_of_pair 2 9 ∷ send (2 ∷ 9 ∷ []) (dump 1 1 0x1000) ∷ slot_at (2 ∷ 9 ∷ []) 5 ∷ send (2 ∷ 9 ∷ []) (cancel 1) ∷ [])

pub record BoundExamples : Type 0 where
  -- four dumps in turn; and the lowest of two places that were freed, filled again
  pub round : drop 4 (turns_of
      (send four (dump 1 1 0x1000) ∷ send four (dump 2 1 0x1000) ∷ send four (dump 3 1 0x1000) ∷ send four (dump 4 1 0x1000)
      ∷ slot_at four 1 ∷ slot_at four 2 ∷ slot_at four 3 ∷ slot_at four 4 ∷ []))
      ≡ (0x20 ∷ 1 ∷ []) ∷ (0x20 ∷ 2 ∷ []) ∷ (0x20 ∷ 3 ∷ []) ∷ (0x20 ∷ 4 ∷ []) ∷ []
  pub lowest_place : drop 7 (turns_of
      (send four (dump 1 1 0x1000) ∷ send four (dump 2 1 0x1000) ∷ send four (dump 3 1 0x1000) ∷ send four (dump 4 1 0x1000)
      ∷ send four (cancel 3) ∷ send four (cancel 2) ∷ send four (dump 5 1 0x1000) ∷ slot_at four 1 ∷ slot_at four 2 ∷ slot_at four 3 ∷ []))
      ≡ (0x20 ∷ 1 ∷ []) ∷ (0x20 ∷ 5 ∷ []) ∷ (0x20 ∷ 4 ∷ []) ∷ []
  -- the counts of APID 785 and 788, accepted and refused; and that of APID 786 after a told value
  pub wraps : wrapped.replies ∷ wrapped.packets ∷ wrapped.accepted ∷ wrapped.refused ∷ [] ≡ 0 ∷ 0 ∷ 1 ∷ 0 ∷ []
  pub wraps_values : (state_after (state_with usual (replicate 4 idle) 3 0 16383 0 0 0) (send_with symbols (value 1 h1) ∷ [])).values ≡ 0
  -- one region: as many words as may be, one more, none; up to 2^32, and past it without a right; a start between words
  pub start_region : map started_with
      ((both 0x1000 1048576 ∷ []) ∷ (both 0x1000 1048577 ∷ []) ∷ (both 0x1000 0 ∷ []) ∷ (both 0xFFC00000 1048576 ∷ [])
      ∷ (region 0xFFC00004 1048576 false false ∷ []) ∷ (both 0x1002 1 ∷ []) ∷ [])
      ≡ 0 ∷ 17 ∷ 17 ∷ 0 ∷ 17 ∷ 17 ∷ []
  -- several: touching, one word over the next, out of order, the second empty; the sixteenth good, over the fifteenth, between words, empty; none, and seventeen
  pub start_regions : map started_with
      ((both 0x1000 2 ∷ both 0x1008 2 ∷ []) ∷ (both 0x1000 3 ∷ both 0x1008 2 ∷ []) ∷ (both 0x2000 1 ∷ both 0x1000 1 ∷ []) ∷ (both 0x1000 1 ∷ both 0x2000 0 ∷ [])
      ∷ (fifteen ++ both 0xF000 1048576 ∷ []) ∷ (fifteen ++ both 0xEFFC 1 ∷ []) ∷ (fifteen ++ both 0xF002 1 ∷ []) ∷ (fifteen ++ both 0xF000 0 ∷ [])
      ∷ [] ∷ (fifteen ++ both 0xF000 1 ∷ both 0x10000 1 ∷ []) ∷ [])
      ≡ 0 ∷ 17 ∷ 17 ∷ 17 ∷ 0 ∷ 17 ∷ 17 ∷ 17 ∷ 17 ∷ 17 ∷ []
  -- either pool: a whole region that can be dumped, one word more, a start between words, no words but a start; in the region that can't be dumped; over an edge
  pub start_pools : map (λ p. started wide p no_range 0 ∷ started wide no_range p 0 ∷ [])
      (range 0x1000 70000 ∷ range 0x89B80 70000 ∷ range 0x1000 70001 ∷ range 0x89B80 70001 ∷ range 0x1002 1 ∷ range 4 0 ∷ range 0x455C0 1 ∷ range 0x455BC 2 ∷ range 0x89B7C 69999 ∷ [])
      ≡ (0 ∷ 0 ∷ []) ∷ (0 ∷ 0 ∷ []) ∷ replicate 7 (17 ∷ 17 ∷ [])
  pub start_unit : map (started wide no_range no_range) (15 ∷ 16 ∷ []) ≡ 0 ∷ 17 ∷ []
  -- last place and counts: each as high as may be, and one more
  pub good_counts : with_counts 3 16383 16383 16383 65535 65535
      ∷ with_counts 4 0 0 0 0 0 ∷ with_counts 0 16384 0 0 0 0 ∷ with_counts 0 0 16384 0 0 0 ∷ with_counts 0 0 0 16384 0 0 ∷ with_counts 0 0 0 0 65536 0 ∷ with_counts 0 0 0 0 0 65536 ∷ []
      ≡ 2 ∷ 1 ∷ 1 ∷ 1 ∷ 1 ∷ 1 ∷ 1 ∷ []
  -- a dump: the most words with all but the last 511 sent, a region's last word, one word of the second packet
  pub good_dumps : map at_3 (busy 4095 0x1000 65535 65024 ∷ busy 0 0x455BC 1 0 ∷ busy 1 0x89B80 1017 1016 ∷ []) ≡ 2 ∷ 2 ∷ 2 ∷ []
  -- a number too wide, too many words, none, a start between words, past the region, no right, no whole packets sent, all sent
  pub bad_dumps : map at_3
      (busy 4096 0x1000 1 0 ∷ busy 1 0x1000 65536 0 ∷ busy 1 0x1000 0 0 ∷ busy 1 0x1002 1 0 ∷ busy 1 0x455BC 2 0 ∷ busy 1 0x455C0 1 0 ∷ busy 1 0x1000 65535 1015
      ∷ busy 1 0x1000 1016 1016 ∷ [])
      ≡ replicate 8 1
  -- four dumps with numbers of their own; every two places with one number
  pub good_numbers : with_places (busy 1 0x1000 1 0 ∷ busy 2 0x1000 1 0 ∷ busy 3 0x1000 1 0 ∷ busy 4 0x1000 1 0 ∷ []) ≡ 2
  pub shared_numbers : map with_places
      ((busy 1 0x1000 1 0 ∷ busy 1 0x1000 1 0 ∷ idle ∷ idle ∷ []) ∷ (busy 1 0x1000 1 0 ∷ idle ∷ busy 1 0x1000 1 0 ∷ idle ∷ [])
      ∷ (busy 1 0x1000 1 0 ∷ idle ∷ idle ∷ busy 1 0x1000 1 0 ∷ []) ∷ (idle ∷ busy 1 0x1000 1 0 ∷ busy 1 0x1000 1 0 ∷ idle ∷ [])
      ∷ (idle ∷ busy 1 0x1000 1 0 ∷ idle ∷ busy 1 0x1000 1 0 ∷ []) ∷ (idle ∷ idle ∷ busy 1 0x1000 1 0 ∷ busy 1 0x1000 1 0 ∷ []) ∷ [])
      ≡ replicate 6 1
