-- `dump_check::sound_packets` meets its contract. The loop's invariant: packets 0 to i - 1 are not bad, they end at `at`, and their pieces are marked.
-- Assumes nothing.
use mathlib.Core.Path.{◌≡◌, refl, sym, ap, ap₂, ◌∙◌}
use mathlib.Core.Bool.{true, false}
use Prim.Native.Nat.{◌+◌, ◌≤◌}
use native.Mathlib.Omega.{arith}
use lib.ListN.{length, length-take, length-drop}
use borrow.Author.Rules.{rules}
use Rattle.lists.specs.Below.{any_below}
use Rattle.lists.proofs.Below.{first_none, none_more, sum_more}
use Rattle.whole_dump.specs.Check.{packet_count, length_at, bytes_before, packet_at, is_bad, first_bad}
use Rattle.dump_check.specs.Marks.{piece_in, Marked}
use Rattle.dump_check.proofs.Walk.{packet_is, bad_end, bad_past, bad_no_piece, bad_marked, sound_unmarked, marked_more, marked_none}
use Rattle.dump_check.proofs.sound_packets.Goals as goal
use Rattle.dump_check.proofs.sound_packets.Goals.{In-Some, At-loop-i, Else-bytes-at, In-loop-i}

-- a bad packet ends the walk
ended : (c : In-loop-i)
    → let b = c.args.bytes.now in
    let ls = c.args.lengths.now in
    is_bad b ls c.loop-i.i ≡ true → (c.loop-i.i ≡ first_bad b ls) × Marked b ls c.loop-i.i c.loop-i.seen
ended c bad =
    let a = c.args in
    (bad_end a.bytes.now a.lengths.now c.loop-i.i c.loop-i.invariant.2 c.loop-i-test.true bad, c.loop-i.invariant.3)

-- packet i is within the bytes
inside : (c : Else-bytes-at)
    → let a = c.args in
    bytes_before a.lengths.now c.loop-i.i + length_at a.lengths.now c.loop-i.i ≤ length a.bytes.now
inside c = let e = (c.from-length.ensures ∙ c.read16.ensures) in omega arith

-- its piece
piece : (c : In-Some)
    → let a = c.args in
    c.in-Some.k ≡ piece_in a.bytes.now (packet_at a.bytes.now a.lengths.now c.loop-i.i)
piece c =
    let a = c.args in
    c.in-Some.ensures.1
    ∙ ap (piece_in a.bytes.now) (packet_is a.bytes.now a.lengths.now c.loop-i.i _ _ c.loop-i.invariant.0 (c.from-length.ensures ∙ c.read16.ensures))

pub loop-i-init : goal.loop-i-init
unfolding bytes_before
loop-i-init c = (refl, search rules, refl, rw c.requires.1 (marked_none c.args.bytes.now c.args.lengths.now))

pub returns-then-bytes-at : goal.returns-then-bytes-at
returns-then-bytes-at c =
    let a = c.args in
    let e = (c.from-length.ensures ∙ c.read16.ensures) in
    ended (goal.at.returns-then-bytes-at c).In-loop-i (bad_past a.bytes.now a.lengths.now c.loop-i.i (omega arith))

pub returns-in_default : goal.returns-in_default
returns-in_default c =
    let a = c.args in
    let e = packet_is a.bytes.now a.lengths.now c.loop-i.i _ _ c.loop-i.invariant.0 (c.from-length.ensures ∙ c.read16.ensures) in
    ended (goal.at.returns-in_default c).In-loop-i (bad_no_piece a.bytes.now a.lengths.now c.loop-i.i c.loop-i.invariant.2 (let q = c.in_default.ensures ∙ ap (piece_in a.bytes.now) e in omega arith))

pub returns-then-seen-k-ne0 : goal.returns-then-seen-k-ne0
returns-then-seen-k-ne0 c =
    let a = c.args in
    ended (goal.at.returns-then-seen-k-ne0 c).In-loop-i
    (bad_marked a.bytes.now a.lengths.now c.loop-i.i c.loop-i.invariant.2 _ (piece (goal.at.returns-then-seen-k-ne0 c).In-Some) c.in-Some.ensures.0 c.loop-i.seen c.loop-i.invariant.3
    c.if-seen-k-ne0.true)

pub loop-i-preserved : goal.loop-i-preserved
unfolding bytes_before
loop-i-preserved c =
    let a = c.args in
    let b = a.bytes.now in
    let ls = a.lengths.now in
    let i = c.loop-i.i in
    let p = piece (goal.at.loop-i-preserved c).In-Some in
    let sound =
    sound_unmarked b ls i c.loop-i.invariant.2 _ p c.in-Some.ensures.0 c.loop-i.seen c.loop-i.invariant.3 (inside (goal.at.loop-i-preserved c).Else-bytes-at) c.if-seen-k-ne0.false in (
      ap₂ (λ x y. x + y) c.loop-i.invariant.0 (c.from-length.ensures ∙ c.read16.ensures) ∙ sym (sum_more (length_at ls) i),
      search rules,
      none_more (is_bad b ls) i c.loop-i.invariant.2 sound,
      marked_more b ls i c.loop-i.invariant.2 _ p c.in-Some.ensures.0 c.loop-i.seen c.loop-i.invariant.3,
    )
