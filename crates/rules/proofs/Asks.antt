-- What a command asks for, by its function code.
-- Assumes nothing.
use Rattle.std.specs.Prelude.{Option}
use mathlib.Core.Path.{◌≡◌, ap}
use mathlib.Core.Logic.{◌≢◌}
use Prim.Native.Nat.{ℕ}
use lib.Dec.{eqb}
use borrow.Author.Tests.{eqb-true, eqb-false}
use Rattle.lists.proofs.Tests.{either}
use Rattle.wire.specs.ByByte.{four}
use Rattle.wire.proofs.ByByte.{at_two, at_four}
use Rattle.symbols.specs.Table.{value_of}
use Rattle.symbols.proofs.Logic.{resolves_when}
use Rattle.rules.specs.Packets.{function_code_of, decode, name_in, command_transaction}
use Rattle.rules.specs.Values.{Reached}
use Rattle.rules.specs.Commands.{CommandArgs, task_of, task}
use Rattle.rules.specs.Cases.{range_from}
use Rattle.rules.specs.Demand3.{nothing, asked_by, asked, command, AskedIs}
use Rattle.rules.specs.declared.Task.TheVariants.{DumpRange}
use Rattle.rules.proofs.Allowed.{decode_dump, decode_cancel, decode_load, decode_pool, decode_value, decode_by_name, decode_other}
use Rattle.rules.proofs.Offsets.{reached_is}
use Rattle.rules.specs.declared.Command.{Command}

module _ (c : CommandArgs) where
  -- the task of what a packet is decoded to
  pub task_is : (d : Option Command) → decode c.packet ≡ d → task c ≡ task_of c.symbols (name_in c.packet) d
  unfolding task
  task_is d e = ap (task_of c.symbols (name_in c.packet)) e

  -- the range of a dump by name, from the address that it reaches
  pub range_reached : function_code_of c.packet ≡ 9 → (v a : ℕ) → value_of c.symbols (name_in c.packet) ≡ v
      → Reached v (four c.packet 60) a → task c ≡ DumpRange (range_from c.packet a)
  range_reached e v a w r =
      let t = task_is _ (decode_by_name c.packet e) in
      let q = reached_is r in
      rw (t, w, at_four c.packet 60, at_two c.packet 64, q)

  -- what a packet that is decoded so asks of the dump places
  pub asks : (d : Option Command) → decode c.packet ≡ d
      → asked (command c) ≡ asked_by (command_transaction c.packet) (task_of c.symbols (name_in c.packet) d)
  asks d e = ap (asked_by (command_transaction c.packet)) (task_is d e)

  no_place : function_code_of c.packet ≢ 0 → function_code_of c.packet ≢ 1 → function_code_of c.packet ≢ 9 → asked (command c) ≡ nothing
  no_place a b f =
      let p = c.packet in
      either (eqb (function_code_of p) 4) (λ e. asks _ (decode_load p (eqb-true _ _ e)))
      (λ e₄. either (eqb (function_code_of p) 7) (λ e. asks _ (decode_pool p (eqb-true _ _ e)))
      (λ e₇. either (eqb (function_code_of p) 8) (λ e. asks _ (decode_value p (eqb-true _ _ e)))
      (λ e₈. asks _ (decode_other p a b (eqb-false _ _ e₄) (eqb-false _ _ e₇) (eqb-false _ _ e₈) f))))

  pub asked_is : AskedIs c
  unfolding name_in
  asked_is =
      record {
        dumps = λ e. asks _ (decode_dump c.packet e);
        cancels = λ e. asks _ (decode_cancel c.packet e);
        by_name = λ e v a is n r. ap (asked_by (command_transaction c.packet)) (range_reached e v a ((resolves_when _ _ v is).0 n).1 r);
        other = no_place;
      }
