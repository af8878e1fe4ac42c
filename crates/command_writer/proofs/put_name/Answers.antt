-- `command_writer::put_name` meets its contract. The loop's invariant: the first `i` words of the name stand, and `all` has the exclusive or of what is written.
-- Assumes nothing.
use mathlib.Core.Path.{◌≡◌, refl, sym, ap, ◌∙◌}
use mathlib.Core.List.{List}
use Prim.Native.Nat.{ℕ, ◌+◌, ◌*◌}
use native.Mathlib.Omega.{arith}
use lib.ListN.{take}
use lib.Seq.{take_all}
use Rattle.lists.specs.Splice.{splice}
use Rattle.lists.proofs.Runs.{splice_none, splice_splice}
use Rattle.wire.specs.Bytes.{be, word_bytes}
use Rattle.wire.specs.Xor.{xor_all}
use Rattle.rules.specs.Packets.{name_bytes}
use Rattle.rules.proofs.Fits.{name_length}
use Rattle.command_writer.proofs.Names.{name_turn, third_word}
use borrow.Author.Rules.{rules}
use Rattle.command_writer.proofs.put_name.Goals as goal

pub returns-then-b-lt60 : goal.returns-then-b-lt60
returns-then-b-lt60 c = absurd (omega (arith, c.requires))

pub loop-i-init : goal.loop-i-init
unfolding xor_all
loop-i-init c = (omega arith, sym (splice_none _ _), refl, refl)

pub loop-i-preserved : goal.loop-i-preserved
unfolding word_bytes
loop-i-preserved c =
    let a = c.args in
    let name = name_bytes a.n a.words.now in
    let third = a.id * 65536 + c.from.result * 256 in
    let turn =
    name_turn c.put_words.new.b c.loop-i.b c.put_words-in-loop-i.new.b name (be 4 third) 12 c.loop-i.i c.name_word-w.result c.loop-i.all c.loop-i-test.true
    (name_length a.n a.words.now)
    (omega (arith, c.requires.1))
    c.name_word-w.ensures
    c.loop-i.invariant.1
    (c.put_words-in-loop-i.ensures.0 (omega arith))
    c.loop-i.invariant.3
    in
    (omega arith, turn.0, search rules, turn.1)

pub returns : goal.returns
unfolding word_bytes
returns c =
    let a = c.args in
    let name = name_bytes a.n a.words.now in
    let n = name_length a.n a.words.now in
    let all : take (4 * c.loop-i.i) name ≡ name = take_all (4 * c.loop-i.i) name (omega arith) in
    let third = third_word a.id a.n c.from.result c.from.ensures (omega arith) name in
    let front = be 4 (a.id * 65536 + c.from.result * 256) in (
      rw all at c.loop-i.invariant.1
          ∙ ap (λ (b : List ℕ). splice b 12 name) (c.put_words.ensures.0 (omega arith))
          ∙ splice_splice a.b.now front name 8 12 refl (omega arith)
          ∙ ap (splice a.b.now 8) third,
      rw all at c.loop-i.invariant.3 ∙ ap xor_all third,
    )
