-- `regions::find_region` meets its contract.
-- Assumes nothing.
use Rattle.regions.proofs.Answers.{found_exactly}
use Rattle.regions.proofs.Steps.{found_none, found_short, found_at}
use Rattle.regions.proofs.find_region.Goals as goal

pub returns-then-min-k : goal.returns-then-min-k
returns-then-min-k g c =
    let a = c.args in
    let rs = g.T.Table.entries a.rs.now in
    let k = rw c.first_word.ensures at c.region_of-k.ensures.0 in
    let f = found_none rs _ a.a _ k (rw c.min.ensures at c.if-min-k.true) in
    (f, found_exactly rs a.n a.a f)

pub returns-then-end_of : goal.returns-then-end_of
returns-then-end_of g c =
    let a = c.args in
    let rs = g.T.Table.entries a.rs.now in
    let k = rw c.first_word.ensures at c.region_of-k.ensures.0 in
    let short = rw (c.end_of.ensures, c.entry-r.ensures, c.end_of-2.ensures) at c.if-end_of.true in
    let f = found_short rs _ a.a _ k (rw c.min.ensures at c.if-min-k.false) short in
    (f, found_exactly rs a.n a.a f)

pub returns : goal.returns
returns g c =
    let a = c.args in
    let rs = g.T.Table.entries a.rs.now in
    let k = rw c.first_word.ensures at c.region_of-k.ensures.0 in
    let whole = rw (c.end_of.ensures, c.entry-r.ensures, c.end_of-2.ensures) at c.if-end_of.false in
    let f = found_at rs _ a.a _ k (rw c.min.ensures at c.if-min-k.false) whole in
    rw c.entry-r.ensures (f, found_exactly rs a.n a.a f)
