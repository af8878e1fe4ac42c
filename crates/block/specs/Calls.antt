-- What start-up, the command call and the slot call of the C interface (c/leatgarnet.h) leave: the number, each lent buffer, and the bytes written.
use Rattle.std.specs.Prelude.{◌&&◌, cond, List, ℕ, eqb, length, replicate}
use Rattle.rules.specs.Commands.{CommandArgs, Outcome, command_call}
use Rattle.rules.specs.Regions.{no_range, no_region, image_length}
use Rattle.rules.specs.Results.{verdict_number, answer_number, answer_length}
use Rattle.rules.specs.Slots.{slot_call}
use Rattle.rules.specs.States.{start_up, good_state}
use Rattle.rules.specs.declared.Range.{Range}
use Rattle.rules.specs.declared.Region.{Region}
use Rattle.rules.specs.declared.Started.{Started}
use Rattle.rules.specs.declared.State.{State}
use Rattle.block.specs.Blocks.{state_words, block_of, is_block, state_of, block_over, word, regions_in, pools_in, is_table}

-- START-UP

-- what start-up is given
pub record Table : Type 0 where
  pub unit : ℕ
  pub count : ℕ
  pub pools : List Range
  pub regions : List Region

-- unit, number of regions, two pools, sixteen regions; any other block is the table of no regions, which start-up refuses
unfoldable pub table_of : List ℕ → Table
table_of b =
    cond (is_table b)
    (record { unit = word b 0; count = word b 1; pools = pools_in b 2; regions = regions_in b 6 })
    (record { unit = 0; count = 0; pools = replicate 2 no_range; regions = replicate 16 no_region })

pub record StartLeft : Type 0 where
  pub number : ℕ
  pub state : List ℕ

abbrev pub start_left : Started → StartLeft
start_left r = record { number = verdict_number r.verdict; state = block_of r.state }

abbrev pub start_from : Table → Started
start_from t = start_up t.regions t.count t.pools t.unit

-- a state block of another length: 17, and nothing is written
unfoldable pub lg_start_up : List ℕ → List ℕ → StartLeft
lg_start_up table state =
    cond (eqb (length state) state_words) (start_left (start_from (table_of table)))
    (record { number = 17; state = state })

-- CALLS ON A STATE

-- the words of the image of a block that is a good state, which has at least one, and 0 for any other block
unfoldable pub good_words : List ℕ → ℕ
good_words b = cond (is_block b && good_state (state_of b)) (image_length (state_of b).regions (state_of b).count) 0

pub record CallLeft : Type 0 where
  pub number : ℕ
  pub bytes : ℕ
  pub state : List ℕ
  pub image : List ℕ
  pub buffer : List ℕ

-- the state's words are written over those of the block: those of entries not in use stay
abbrev pub call_left : List ℕ → Outcome → CallLeft
call_left b o =
    record {
      number = answer_number o.answer;
      bytes = answer_length o.answer;
      state = block_over b o.state;
      image = o.image;
      buffer = o.buffer;
    }

-- a block that is no state: 1, and all stays as it was
unfoldable pub on_state : List ℕ → List ℕ → List ℕ → (State → Outcome) → CallLeft
on_state state image buffer call =
    cond (is_block state) (call_left state (call (state_of state)))
    (record { number = 1; bytes = 0; state = state; image = image; buffer = buffer })

abbrev pub lg_slot : List ℕ → ℕ → List ℕ → List ℕ → CallLeft
lg_slot state tick image buffer = on_state state image buffer (λ s. slot_call s (record { tick = tick; image = image; buffer = buffer }))

abbrev pub lg_command : List ℕ → CommandArgs → CallLeft
lg_command state c = on_state state c.image c.reply (λ s. command_call s c)
