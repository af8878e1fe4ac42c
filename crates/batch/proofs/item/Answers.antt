-- `batch::item` meets its contract: what `call` says of the item's part of the reply buffer, a number and a length that fit a byte, and a store that the
-- good test answers the same of.
-- Assumes nothing.
use mathlib.Core.Path.{◌≡◌, sym, ap, ◌∙◌}
use Prim.Native.Nat.{◌+◌, ◌*◌, ◌-◌}
use native.Mathlib.Omega.{arith}
use lib.ListN.{take, drop}
use Rattle.rules.specs.Commands.{CommandArgs}
use Rattle.batches.proofs.Items.{item_done}
use Rattle.batch.specs.OnStore.{single_in, words_in}
use Rattle.batch.proofs.Items.{within, called}
use Rattle.batch.proofs.item.Goals as goal

pub returns : goal.returns
returns g c =
    let a = c.args in
    let n : 32 * a.i + 32 - 32 * a.i ≡ 32 = omega arith in
    let lent : CommandArgs = record { packet = a.packet.now; symbols = a.symbols.now.bytes.now; image = a.image.now; reply = take 32 (drop (32 * a.i) a.replies.now) } in
    let d =
    item_done (single_in g.S.Store.is_good g.S.Store.state g.S.Store.changes) a.s.now a.packet.now a.symbols.now.bytes.now a.image.now a.replies.now a.i
    (within g.S.Store.is_good g.S.Store.state g.S.Store.changes a.s.now lent) a.numbers.now a.sizes.now
    c.requires.1 n
    (called g.S.Store.is_good g.S.Store.state g.S.Store.changes a.s.now (record { packet = a.packet.now; symbols = a.symbols.now.bytes.now; image = a.image.now; reply = _ }) c.call-answer.ensures c.number_of.ensures
    c.answer_length.ensures) in
    let kept = c.requires.4 a.s.now lent (λ j. (c.type_inv.packet j).fits) in
    (d.0, d.1, d.2, d.3, d.4, c.requires.0 ∙ sym (ap (words_in g.S.Store.is_good g.S.Store.state g.S.Store.changes) d.0 ∙ kept))
