-- The batch of the C interface (c/leatgarnet.h): the single calls of C, in order.
use Rattle.std.specs.Prelude.{List, ℕ}
use Rattle.rules.specs.Commands.{CommandArgs}
use Rattle.block.specs.Calls.{lg_command}
use Rattle.batches.specs.Batch.{BatchArgs, Single, Batch, batch}

-- the command call of C on a block
abbrev pub on_block : List ℕ → CommandArgs → Single (List ℕ)
on_block b c =
    record {
      number = (lg_command b c).number;
      length = (lg_command b c).bytes;
      state = (lg_command b c).state;
      image = (lg_command b c).image;
      reply = (lg_command b c).buffer;
    }

abbrev pub lg_commands : List ℕ → BatchArgs → ℕ → Batch (List ℕ)
lg_commands b a records = batch on_block b a records
