-- `tasks::resolved` meets its contract.
-- Assumes nothing.
use Rattle.std.proofs.Common.{Result, Err, ℕ, ap, ◌∙◌}
use Rattle.symbols.specs.declared.Unresolved.{Unresolved}
use Rattle.rules.specs.Packets.{name_in}
use Rattle.tasks.proofs.Steps.{answered_as}
use Rattle.tasks.proofs.resolved.Goals as goal

abbrev failed : Unresolved → Result ℕ Unresolved
failed e = Err e

pub returns-in-Err-NoTable : goal.returns-in-Err-NoTable
returns-in-Err-NoTable c =
    let a = c.args in
    let f = rw c.in-Err-NoTable.is at c.in-Err-NoTable.field-0-is in
    answered_as a.symbols.now.bytes.now (name_in a.p.now) a.right c.name_in.ensures c.resolve-symbol.ensures (c.in-Err-NoTable.is ∙ ap failed f)

pub returns-in-Err-Unknown : goal.returns-in-Err-Unknown
returns-in-Err-Unknown c =
    let a = c.args in
    let f = rw c.in-Err-Unknown.is at c.in-Err-Unknown.field-0-is in
    rw c.named_if.ensures
    (answered_as a.symbols.now.bytes.now (name_in a.p.now) a.right c.name_in.ensures c.resolve-symbol.ensures (c.in-Err-Unknown.is ∙ ap failed f))

pub returns-in-Ok : goal.returns-in-Ok
returns-in-Ok c =
    let a = c.args in
    rw c.named_if-in-Ok.ensures
    (answered_as a.symbols.now.bytes.now (name_in a.p.now) a.right c.name_in.ensures c.resolve-symbol.ensures c.in-Ok.is)
