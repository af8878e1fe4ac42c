-- `dump_check::piece_in` meets its contract.
-- Assumes nothing.
use mathlib.Core.Path.{sym, ap₂, ◌∙◌}
use Prim.Native.Nat.{◌-◌, ◌/◌, ◌≤◌}
use native.Mathlib.Omega.{arith}
use lib.ListN.{length}
use borrow.Author.Rules.{rules}
use Rattle.packet_reader.proofs.Steps.{accepted_long}
use Rattle.dump_check.proofs.Pieces.{data_after, refused_piece, accepted_read, low_piece, own_piece}
use Rattle.dump_check.proofs.piece_in.Goals as goal
use Rattle.dump_check.proofs.piece_in.Goals.{In-Ok}

-- an accepted packet has its header
long : (c : In-Ok) → 28 ≤ length c.args.p.now
long c = accepted_long _ _ c.packet_verdict.ensures c.in-Ok.is

pub agreeing-requires : goal.agreeing-requires
agreeing-requires c = let l = long (goal.at.agreeing-requires c).In-Ok in search rules

pub read32-requires : goal.read32-requires
read32-requires c = let l = long (goal.at.read32-requires c).In-Ok in search rules

pub read32-requires-in-Ok : goal.read32-requires-in-Ok
read32-requires-in-Ok c = let l = long (goal.at.read32-requires-in-Ok c).In-Ok in search rules

pub overflow_sub-result : goal.overflow_sub-result
overflow_sub-result c =
    let p = c.args.p.now in
    let h = data_after p (accepted_read p _ c.packet_verdict.ensures c.in-Ok.is) in
    omega arith

pub returns-in-Ok : goal.returns-in-Ok
returns-in-Ok c =
    let a = c.args in
    let k = ap₂ (λ x y. (x - y) / 4 / 1016) c.read32.ensures c.read32-in-Ok.ensures in (
      rw k (low_piece a.p.now _ c.packet_verdict.ensures c.in-Ok.is),
      k ∙ own_piece a.p.now _ c.packet_verdict.ensures a.first.now c.in-Ok.is (sym c.agreeing.ensures ∙ c.if-agreeing.true),
    )

pub returns-in_default-2 : goal.returns-in_default-2
returns-in_default-2 c = let a = c.args in refused_piece a.p.now _ c.packet_verdict.ensures a.first.now _ c.in_default.is
