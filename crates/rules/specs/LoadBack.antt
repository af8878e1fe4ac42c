-- A LOAD COMES BACK: a load of n words, then a dump of the same range, and a slot on the image that the load left. The data of the slot's packet are
-- bytes 16 to 16 + 4 n of the load's packet. In bytes alone: neither region nor index nor word stands here.
use Rattle.std.specs.Prelude.{◌≡◌, List, ℕ, ◌+◌, ◌*◌, ◌%◌, ◌<◌}
use Rattle.wire.specs.Bytes.{AreBytes}
use Rattle.wire.specs.ByByte.{byte, two, four}
use Rattle.rules.specs.Results.{answer_number, answer_length}
use Rattle.rules.specs.Commands.{CommandArgs, Outcome, command_call}
use Rattle.rules.specs.Slots.{slot_call}
use Rattle.rules.specs.declared.State.{State}

-- the three calls, each handed the state that the one before left; the slot is lent the image that the load left
module _ (s : State) (load dump : CommandArgs) (tick : ℕ) (buffer : List ℕ) where
  abbrev pub loaded : Outcome
  loaded = command_call s load

  abbrev pub asked : Outcome
  asked = command_call loaded.state dump

  abbrev pub sent : Outcome
  sent = slot_call asked.state (record { tick = tick; image = loaded.image; buffer = buffer })

  pub record ThreeCalls : Type 0 where
    -- a load and a dump, by their function codes, of the same size and address, each answered 0
    pub load_bytes : AreBytes load.packet
    pub load_code : byte load.packet 6 ≡ 4
    pub load_done : answer_number loaded.answer ≡ 0
    pub dump_bytes : AreBytes dump.packet
    pub dump_code : byte dump.packet 6 ≡ 0
    pub dump_done : answer_number asked.answer ≡ 0
    pub same_size : two dump.packet 10 ≡ two load.packet 10
    pub same_address : four dump.packet 12 ≡ four load.packet 12
    -- the slot is answered 0, and its packet has the dump's transaction number
    pub slot_done : answer_number sent.answer ≡ 0
    pub same_number : byte sent.buffer 6 % 16 * 256 + byte sent.buffer 7 ≡ byte dump.packet 8 % 16 * 256 + byte dump.packet 9

  pub record ComesBack : Type 0 where
    pub reported : answer_length sent.answer ≡ 28 + 4 * two load.packet 10
    pub data_bytes : (k : ℕ) → k < 4 * two load.packet 10 → byte sent.buffer (28 + k) ≡ byte load.packet (16 + k)

abbrev pub LoadBack : Type 0
LoadBack = (s : State) (load dump : CommandArgs) (tick : ℕ) (buffer : List ℕ) → ThreeCalls s load dump tick buffer → ComesBack s load dump tick buffer
