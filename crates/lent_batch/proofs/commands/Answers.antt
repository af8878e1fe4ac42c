-- `lent_batch::commands` meets its contract: a block of 80 words is a store, and one of another length is no state.
-- Assumes nothing.
use mathlib.Core.Path.{refl, sym, ◌∙◌}
use Prim.Native.Nat.{min}
use lib.ListN.{length}
use Rattle.batches.specs.Batch.{lends}
use Rattle.batches.proofs.NoState.{refused_numbers, refused_lengths}
use Rattle.batches.proofs.Whole.{verdict_is}
use Rattle.lent_batch.specs.Batches.{on_block}
use Rattle.lent_batch.proofs.OnBlock.{words_stay, batch_is, left_is}
use Rattle.lent_batch.proofs.commands.Goals as goal

pub numbered-requires : goal.numbered-requires
numbered-requires c = words_stay

pub returns-in-Some : goal.returns-in-Some
returns-in-Some c =
    let a = c.args in
    let whole = c.in-Some.ensures.cases in
    rw (whole.same, batch_is a.b.now (lends a.bytes.now a.starts.now a.lengths.now a.symbols.now a.image.now a.replies.now) _ whole.long (c.slice_known-1.given 0).fits) at c.numbered.ensures

pub returns-in-None : goal.returns-in-None
returns-in-None c =
    let a = c.args in
    let lent = lends a.bytes.now a.starts.now a.lengths.now a.symbols.now a.image.now a.replies.now in
    let n = c.refuse_each.ensures in
    let e = left_is a.b.now c.in-None.ensures.cases lent (min (length a.numbers.now) (length a.sizes.now)) in
    (n.0 ∙ sym (verdict_is on_block a.b.now lent _), rw e (refl, refl, refl), rw (e, refused_numbers _) n.1, rw (e, refused_lengths _) n.2)
