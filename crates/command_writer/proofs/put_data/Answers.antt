-- `command_writer::put_data` meets its contract. The loop's invariant: the first `i` words stand, and `all` has their exclusive or.
-- Assumes nothing.
use Prim.Native.Nat.{ℕ, ◌+◌, ◌*◌, ◌<◌}
use borrow.Author.Rules.{rules}
use native.Mathlib.Omega.{arith}
use mathlib.Core.Path.{◌≡◌, refl, sym, ap, ◌∙◌}
use Prim.Native.Nat.{◌<◌}
use lib.ListN.{length, take, get_or}
use lib.Seq.{take_all}
use Rattle.lists.specs.Splice.{splice}
use Rattle.lists.proofs.Runs.{splice_none}
use Rattle.wire.specs.Bytes.{be, word_bytes}
use Rattle.wire.specs.Xor.{xor_all}
use Rattle.wire.proofs.WordRuns.{word_bytes_more, word_turn}
use Rattle.rules.specs.Packets.{used_words}
use Rattle.rules.proofs.Fits.{used_length}
use Rattle.command_writer.proofs.Steps.{both_words}
use Rattle.command_writer.proofs.put_data.Goals as goal

pub returns-then-b-lt60 : goal.returns-then-b-lt60
returns-then-b-lt60 c = absurd (omega (arith, c.requires))

pub loop-i-init : goal.loop-i-init
unfolding word_bytes xor_all
loop-i-init c = (omega arith, sym (splice_none _ _), refl, refl)

pub loop-i-preserved : goal.loop-i-preserved
unfolding word_bytes
loop-i-preserved c =
    let a = c.args in
    let i = c.loop-i.i in
    let u = used_words a.size a.words.now in
    let n = used_length a.size a.words.now in
    let k : i < length u = omega arith in
    let w = c.used_word-w.ensures in
    let e = c.put_words.ensures.0 (omega arith) ∙ ap (λ (x : ℕ). splice c.loop-i.b (16 + 4 * i) (be 4 x)) w in
    let turn = word_turn a.b.now c.loop-i.b c.put_words.new.b u 16 i k (omega (arith, c.requires)) c.loop-i.invariant.1 e in
    let x = both_words c.loop-i.all c.used_word-w.result (word_bytes (take i u)) (be 4 (get_or u i 0)) c.loop-i.invariant.3 (ap (λ (x : ℕ). xor_all (be 4 x)) w) in
    (omega arith, turn, search rules, x ∙ ap xor_all (sym (word_bytes_more u i k)))

pub returns : goal.returns
returns c =
    let a = c.args in
    let u = used_words a.size a.words.now in
    let n = used_length a.size a.words.now in
    let all : take c.loop-i.i u ≡ u = take_all c.loop-i.i u (omega arith) in
    (rw all at c.loop-i.invariant.1, rw all at c.loop-i.invariant.3)
