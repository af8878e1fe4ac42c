-- `wire::put_run` meets its contract.
-- Assumes nothing.
use mathlib.Core.Path.{sym}
use lib.Seq.{take_all}
use Rattle.lists.proofs.Runs.{splice_none}
use Rattle.wire.specs.Bytes.{word_bytes}
use Rattle.wire.proofs.WordRuns.{word_turn}
use borrow.Author.Rules.{rules}
use Rattle.wire.proofs.put_run.Goals as goal

pub loop-i-init : goal.loop-i-init
unfolding word_bytes
loop-i-init c = (sym (splice_none _ _), search rules)

pub loop-i-preserved : goal.loop-i-preserved
loop-i-preserved c = (
  word_turn c.args.b.now c.loop-i.b c.put_word.new.b c.args.words.now c.args.at c.loop-i.i c.loop-i-test.true c.requires c.loop-i.invariant.0 c.put_word.ensures,
  search rules,
)
