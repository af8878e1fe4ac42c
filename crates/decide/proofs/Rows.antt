-- The rows of the command call's table, cut where the decisions cut them.
-- Assumes nothing.
use Rattle.std.specs.Prelude.{Option}
use mathlib.Core.Path.{◌≡◌, refl}
use mathlib.Core.List.{List, [], ◌∷◌, ◌++◌}
use Rattle.rules.specs.Packets.{decode, command_transaction, name_in}
use Rattle.rules.specs.Pools.{reply_length}
use Rattle.rules.specs.Results.{Row, row, lowest, lent_rows}
use Rattle.rules.specs.Commands.{CommandArgs, task, no_table, wrong_field, unknown_name, wrong_range, outside, past_end, lacks_right, number_taken, no_place, no_such_dump, pool_damaged, command_rows}
use Rattle.rules.specs.declared.Refusal.TheVariants.{BadTable, BadField, UnknownSymbol, OutsideRegions, NoRight, TransactionBusy, PlacesBusy, NotBusy, PoolDamaged, RunsOut}
use Rattle.rules.specs.declared.State.{State}
use Rattle.rules.specs.declared.Task.{Task}
use Rattle.packet.specs.Frame.{frame_rows}
use Rattle.opening.proofs.Rows.{or_else, lowest_join}
use Rattle.rules.specs.declared.Command.{Command}

-- 17, 9, 18 and 9 again
unfoldable pub asked_rows : CommandArgs → Option Command → List Row
asked_rows c d =
    row BadTable (no_table c.symbols d)
    ∷ row BadField (wrong_field c.packet d)
    ∷ row UnknownSymbol (unknown_name c.symbols (name_in c.packet) d)
    ∷ row BadField (wrong_range c.symbols (name_in c.packet) d)
    ∷ []

-- 10, 19, and 11 to 15
unfoldable pub task_rows : State → CommandArgs → Task → List Row
task_rows s c k =
    row OutsideRegions (outside s k)
    ∷ row RunsOut (past_end s k)
    ∷ row NoRight (lacks_right s k)
    ∷ row TransactionBusy (number_taken s (command_transaction c.packet) k)
    ∷ row PlacesBusy (no_place s k)
    ∷ row NotBusy (no_such_dump s (command_transaction c.packet) k)
    ∷ row PoolDamaged (pool_damaged s c.image k)
    ∷ []

rows_cut : (s : State) (c : CommandArgs)
    → command_rows s c
    ≡ lent_rows s c.image reply_length c.reply
    ++ (frame_rows c.packet s.unit ++ (asked_rows c (decode c.packet) ++ task_rows s c (task c)))
unfolding command_rows lent_rows frame_rows asked_rows task_rows
rows_cut s c = refl

pub command_lowest : (s : State) (c : CommandArgs)
    → lowest (command_rows s c)
    ≡ or_else (lowest (lent_rows s c.image reply_length c.reply))
    (or_else (lowest (frame_rows c.packet s.unit)) (or_else (lowest (asked_rows c (decode c.packet))) (lowest (task_rows s c (task c)))))
command_lowest s c =
    rw (
      rows_cut s c,
      lowest_join
          (lent_rows s c.image reply_length c.reply)
          (frame_rows c.packet s.unit ++ (asked_rows c (decode c.packet) ++ task_rows s c (task c))),
      lowest_join (frame_rows c.packet s.unit) (asked_rows c (decode c.packet) ++ task_rows s c (task c)),
      lowest_join (asked_rows c (decode c.packet)) (task_rows s c (task c)),
    )
