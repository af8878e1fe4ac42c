-- `command_writer::name_word` meets its contract.
-- Assumes nothing.
use mathlib.Core.Path.{sym, ◌∙◌}
use Prim.Native.Nat.{◌*◌, ◌-◌}
use native.Mathlib.Omega.{arith}
use lib.ListN.{get_or}
use Rattle.command_writer.proofs.Names.{all_kept, name_part, not_given, beyond_name}
use Rattle.command_writer.proofs.name_word.Goals as goal

pub returns-then-words-i : goal.returns-then-words-i
returns-then-words-i c = not_given c.args.n c.args.words.now c.args.i c.requires c.if-words-i.true

pub returns-then-i-size : goal.returns-then-i-size
returns-then-i-size c =
    let a = c.args in
    all_kept (get_or a.words.now a.i 0) (a.n - 4 * a.i) (omega (arith, c.if-i-size.true))
    ∙ sym (name_part a.n a.words.now a.i c.requires)

pub returns-then-size-i : goal.returns-then-size-i
returns-then-size-i c = beyond_name c.args.n c.args.words.now c.args.i c.requires c.if-size-i.true

pub returns : goal.returns
returns c = c.kept.ensures ∙ sym (name_part c.args.n c.args.words.now c.args.i c.requires)
