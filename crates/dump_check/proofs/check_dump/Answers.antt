-- `dump_check::check_dump` meets its contract.
-- Assumes nothing.
use mathlib.Core.Path.{◌≡◌, refl, sym, ap, ◌∙◌}
use mathlib.Core.Bool.{false}
use Prim.Native.Nat.{◌+◌, ◌/◌, ◌≤◌, ◌<◌}
use lib.ListN.{length}
use borrow.Author.Rules.{rules}
use Rattle.wire.specs.Bytes.{be_at}
use Rattle.whole_dump.specs.Check.{packet_count, unfit, check_dump}
use Rattle.dump_check.proofs.Number.{number_unfit, packets_few, number_none, number_bad, bytes_long, due_marked, number_marked}
use Rattle.dump_check.proofs.check_dump.Goals as goal
use Rattle.dump_check.proofs.check_dump.Goals.{After-first_unmarked-k, After-read32, Else-i-n, Else-is_unfit}

fit : (c : Else-is_unfit) → unfit c.args.bytes.now c.args.lengths.now ≡ false
fit c = sym c.is_unfit.ensures ∙ c.if-is_unfit.false

few_packets : (c : Else-is_unfit) → packet_count c.args.lengths.now ≤ 65
few_packets c = packets_few c.args.bytes.now c.args.lengths.now (fit c)

-- every packet is sound, and the first has its header
long : (c : Else-i-n) → 28 ≤ length c.args.bytes.now
long c =
    let a = c.args in
    bytes_long a.bytes.now a.lengths.now (sym c.is_unfit.ensures ∙ c.if-is_unfit.false) _ c.sound_packets-i.ensures.0 c.if-n-eq0.false c.if-i-n.false

-- the pieces due
due : (c : After-read32)
    → (c.read32.result + 1015) / 1016 ≡ (be_at 4 c.args.bytes.now 16 + 1015) / 1016
due c = ap (λ x. (x + 1015) / 1016) c.read32.ensures

-- the number, by the lowest piece that is not marked
number : (c : After-first_unmarked-k)
    → let a = c.args in
    let m = (c.read32.result + 1015) / 1016 in
    let k = c.first_unmarked-k.result in
    (k < m → 131072 + k ≡ check_dump a.bytes.now a.lengths.now) × (m ≤ k → 0 ≡ check_dump a.bytes.now a.lengths.now)
number c =
    let a = c.args in
    number_marked a.bytes.now a.lengths.now (sym c.is_unfit.ensures ∙ c.if-is_unfit.false) _ c.sound_packets-i.ensures.0 c.if-n-eq0.false c.if-i-n.false
    _ (ap (λ x. (x + 1015) / 1016) c.read32.ensures) c.sound_packets-i.new.seen c.sound_packets-i.ensures.1 _ c.first_unmarked-k.ensures

pub returns-then-is_unfit : goal.returns-then-is_unfit
returns-then-is_unfit c =
    let a = c.args in
    number_unfit a.bytes.now a.lengths.now (sym c.is_unfit.ensures ∙ c.if-is_unfit.true)

pub returns-then-n-eq0 : goal.returns-then-n-eq0
returns-then-n-eq0 c =
    let a = c.args in
    number_none a.bytes.now a.lengths.now (fit (goal.at.returns-then-n-eq0 c).Else-is_unfit) c.if-n-eq0.true

pub sound_packets-i-requires : goal.sound_packets-i-requires
sound_packets-i-requires c = (few_packets (goal.at.sound_packets-i-requires c).Else-is_unfit, refl)

pub overflow_cast-result : goal.overflow_cast-result
overflow_cast-result c = let f = few_packets (goal.at.overflow_cast-result c).Else-is_unfit in search rules

pub overflow_add-result : goal.overflow_add-result
overflow_add-result c = let f = few_packets (goal.at.overflow_add-result c).Else-is_unfit in search rules

pub returns-then-i-n : goal.returns-then-i-n
returns-then-i-n c =
    let a = c.args in
    number_bad a.bytes.now a.lengths.now (fit (goal.at.returns-then-i-n c).Else-is_unfit) _ c.sound_packets-i.ensures.0 c.if-i-n.true

pub read32-requires : goal.read32-requires
read32-requires c = let l = long (goal.at.read32-requires c).Else-i-n in search rules

pub first_unmarked-k-requires : goal.first_unmarked-k-requires
first_unmarked-k-requires c =
    let a = c.args in
    let d =
    due_marked a.bytes.now a.lengths.now (fit (goal.at.first_unmarked-k-requires c).Else-is_unfit) _ c.sound_packets-i.ensures.0 c.if-n-eq0.false c.if-i-n.false
    _ (due (goal.at.first_unmarked-k-requires c).After-read32) in
    rw c.sound_packets-i.ensures.1.0 d

pub returns-then-k-m : goal.returns-then-k-m
returns-then-k-m c = (number (goal.at.returns-then-k-m c).After-first_unmarked-k).0 c.if-k-m.true

pub returns : goal.returns
returns c = (number (goal.at.returns c).After-first_unmarked-k).1 c.if-k-m.false
