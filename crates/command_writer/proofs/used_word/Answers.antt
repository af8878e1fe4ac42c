-- `command_writer::used_word` meets its contract.
-- Assumes nothing.
use mathlib.Core.Path.{sym, ◌∙◌}
use lib.ListN.{get_or-eq_default}
use Rattle.rules.proofs.UsedWords.{used_word, unused_word}
use Rattle.command_writer.proofs.used_word.Goals as goal

pub returns-then-size-i : goal.returns-then-size-i
returns-then-size-i c = sym (unused_word _ _ _ c.if-size-i.true)

pub returns-then-words-i : goal.returns-then-words-i
returns-then-words-i c =
    let a = c.args in
    sym (used_word a.size a.words.now a.i c.if-size-i.false c.requires ∙ get_or-eq_default a.words.now 0 c.if-words-i.true)

pub returns : goal.returns
returns c =
    let a = c.args in
    sym (used_word a.size a.words.now a.i c.if-size-i.false c.requires)
