-- `bulk::store_run` meets its contract.
-- Assumes nothing.
use mathlib.Core.Path.{◌≡◌, sym, ◌∙◌}
use Prim.Native.Nat.{◌<◌}
use native.Mathlib.Omega.{arith}
use lib.ListN.{length, get_or}
use Rattle.lists.proofs.Runs.{splice_none, copy_turn}
use Rattle.wire.specs.Bytes.{words_at}
use Rattle.wire.proofs.Words.{words_at_length, words_at_word}
use Rattle.bulk.proofs.Words.{first_words}
use borrow.Author.Rules.{rules}
use Rattle.bulk.proofs.store_run.Goals as goal

pub loop-i-init : goal.loop-i-init
loop-i-init c = (sym (splice_none _ _), search rules)

pub loop-i-preserved : goal.loop-i-preserved
loop-i-preserved c =
    let a = c.args in
    let i = c.loop-i.i in
    let ws = words_at a.n a.packet.now a.at in
    let k : i < length ws = omega (arith, words_at_length a.n a.packet.now a.at) in
    let w : c.word_at.result ≡ get_or ws i 0 = c.word_at.ensures ∙ sym (words_at_word a.n _ _ i (omega arith)) in
    (rw w (copy_turn a.words.now c.loop-i.words ws a.from i k (omega arith) c.loop-i.invariant.0), search rules)

pub returns : goal.returns
returns c =
    let a = c.args in
    let n : c.loop-i.i ≡ a.n = omega arith in
    rw (n, first_words a.n a.n a.packet.now a.at (omega arith)) at c.loop-i.invariant.0
