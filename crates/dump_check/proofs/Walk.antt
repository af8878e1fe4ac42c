-- The walk over the packets: which packet is bad by the piece that it has and the marks of those before it, and what one more mark says.
-- Assumes nothing.
use mathlib.Core.Path.{◌≡◌, refl, sym, ap, ◌∙◌}
use mathlib.Core.Logic.{◌≢◌}
use mathlib.Core.Bool.{Bool, true, false, ◌&&◌, ◌||◌, not, cond, or-true, or-false}
use mathlib.Core.List.{List}
use Prim.Native.Nat.{ℕ, ◌+◌, ◌-◌, ◌≤◌, ◌<◌}
use native.Mathlib.Numerals.{add-one}
use native.Mathlib.Omega.{arith}
use lib.Dec.{eqb}
use lib.ListN.{length, get_or, take, drop, set, replicate, take-append-drop, length-set, get_or-replicate}
use lib.Seq.{get_or-set_same, get_or-set_other}
use borrow.Author.Tests.{lt-ltb, le-ltb, eqb-true, eqb-false}
use Rattle.lists.specs.Below.{any_below}
use Rattle.lists.proofs.Tests.{either, contra, and_left, and_right, by_lt}
use Rattle.lists.proofs.Below.{none_at, first_is}
use Rattle.wire.specs.Bytes.{be_at}
use Rattle.wire.proofs.Numbers.{be_at_within}
use Rattle.rules.specs.Ground.{packet_fields, read_packet}
use Rattle.rules.specs.declared.DumpPacket.{DumpPacket}
use Rattle.whole_dump.specs.Check.{packet_count, length_at, bytes_before, packet_at, is_read, agree, piece_of, has, is_past, repeats, is_bad, first_bad}
use Rattle.whole_dump.proofs.Tests.{read_when, sound_when}
use Rattle.dump_check.specs.Marks.{piece_in, held, Marked}
use Rattle.dump_check.proofs.Pieces.{read_long, piece_low}

-- a packet that is refused or does not agree is bad
bad_of : (past r a again : Bool) → (r && a) ≡ false → (past || not r || not a || again) ≡ true
bad_of true r a again h = refl
bad_of false false a again h = refl
bad_of false true false again h = refl
bad_of false true true again h = absurd (contra refl h)

module _ (bytes lengths : List ℕ) where
  abbrev pub reads : ℕ → Bool
  reads i = is_read (read_packet (packet_at bytes lengths i)).reading

  abbrev fields_at : ℕ → DumpPacket
  fields_at i = packet_fields (packet_at bytes lengths i)

  pub packet_is : (i at n : ℕ) → at ≡ bytes_before lengths i → n ≡ length_at lengths i → take (at + n - at) (drop at bytes) ≡ packet_at bytes lengths i
  unfolding packet_at
  packet_is i at n ea en = let e : at + n - at ≡ n = omega arith in rw (e, ea, en)

  -- the first packet stands at the start of the bytes
  pub first_number : 28 ≤ length (packet_at bytes lengths 0) → (n at : ℕ) → at + n ≤ 28 → be_at n bytes at ≡ be_at n (packet_at bytes lengths 0) at
  unfolding packet_at bytes_before
  first_number l n at h =
      let m = length_at lengths 0 in
      ap (λ (q : List ℕ). be_at n q at) (sym (take-append-drop m bytes)) ∙ be_at_within n (take m bytes) (drop m bytes) at (omega arith)

  first_agrees : 28 ≤ length (packet_at bytes lengths 0) → (f : DumpPacket) → agree (packet_fields bytes) f ≡ agree (fields_at 0) f
  unfolding agree
  first_agrees l f = rw (first_number l 2 6 (omega arith), first_number l 4 12 (omega arith), first_number l 4 16 (omega arith))

  pub bad_end : (i : ℕ) → any_below (is_bad bytes lengths) i ≡ false → i < packet_count lengths → is_bad bytes lengths i ≡ true
      → i ≡ first_bad bytes lengths
  bad_end i none l b = sym (first_is (is_bad bytes lengths) (packet_count lengths) l b (λ j h. none_at (is_bad bytes lengths) i none h))

  pub bad_past : (i : ℕ) → length bytes < bytes_before lengths i + length_at lengths i → is_bad bytes lengths i ≡ true
  unfolding is_bad
  bad_past i h = rw (lt-ltb _ _ h)

  module _ (i : ℕ) (none : any_below (is_bad bytes lengths) i ≡ false) where
    pub sound_read : (j : ℕ) → j < i → reads j ≡ true
    sound_read j l = (read_when (packet_at bytes lengths j)).1 ((sound_when bytes lengths j).0 (none_at (is_bad bytes lengths) i none l)).is_read_lem

    first_read : reads i ≡ true → reads 0 ≡ true
    first_read r = by_lt 0 i (sound_read 0) (λ l. let e : i ≡ 0 = omega arith in rw e at r)

    piece_is : piece_in bytes (packet_at bytes lengths i) ≡ cond (reads i && agree (fields_at 0) (fields_at i)) (piece_of (fields_at i)) 65
    piece_is = either (reads i) (λ r. rw (r, first_agrees (read_long _ (first_read r)) (fields_at i))) (λ r. rw r)

    pub bad_no_piece : 65 ≤ piece_in bytes (packet_at bytes lengths i) → is_bad bytes lengths i ≡ true
    unfolding is_bad
    bad_no_piece h =
        let a = agree (fields_at 0) (fields_at i) in
        either (reads i && a)
        (λ e. let q : piece_in bytes (packet_at bytes lengths i) ≡ piece_of (fields_at i) = rw e at piece_is in
        let l = piece_low (packet_at bytes lengths i) (and_left (reads i) a e) in absurd (omega arith))
        (λ e. bad_of (is_past bytes lengths i) (reads i) a (repeats bytes lengths i) e)

    module _ (k : ℕ) (ek : k ≡ piece_in bytes (packet_at bytes lengths i)) (low : k < 65) where
      has_piece : (reads i ≡ true) × (agree (fields_at 0) (fields_at i) ≡ true) × (k ≡ piece_of (fields_at i))
      has_piece =
          let a = agree (fields_at 0) (fields_at i) in
          either (reads i && a)
          (λ e. (and_left (reads i) a e, and_right (reads i) a e, ek ∙ (rw e at piece_is)))
          (λ e. let q : piece_in bytes (packet_at bytes lengths i) ≡ 65 = rw e at piece_is in absurd (omega arith))

      has_is : (j : ℕ) → has j (packet_at bytes lengths i) ≡ eqb k j
      unfolding has
      has_is j = rw (has_piece.0, ← has_piece.2)

      module _ (seen : List ℕ) (marked : Marked bytes lengths i seen) where
        mark_is : get_or seen k 0 ≡ cond (repeats bytes lengths i) 1 0
        mark_is = marked.1 k low ∙ ap (λ (q : ℕ). cond (held bytes lengths i q) 1 0) has_piece.2

        pub bad_marked : get_or seen k 0 ≢ 0 → is_bad bytes lengths i ≡ true
        unfolding is_bad
        bad_marked h =
            either (repeats bytes lengths i)
            (λ e. rw (e, or-true _))
            (λ e. absurd (h (rw e at mark_is)))

        pub sound_unmarked : bytes_before lengths i + length_at lengths i ≤ length bytes → get_or seen k 0 ≡ 0 → is_bad bytes lengths i ≡ false
        unfolding is_bad
        sound_unmarked inside h =
            either (repeats bytes lengths i)
            (λ e. let q : get_or seen k 0 ≡ 1 = rw e at mark_is in absurd (omega arith))
            (λ e. rw (le-ltb _ _ inside, has_piece.0, has_piece.1, e))

        pub marked_more : Marked bytes lengths (i + 1) (set seen k 1)
        marked_more = (
          length-set seen k 1 ∙ marked.0,
          λ j l.
              let earlier = held bytes lengths i j in
              rw (add-one, has_is j)
              (either (eqb k j)
              (λ e. let q = eqb-true k j e in rw (e, or-true earlier, ← q) (get_or-set_same seen k 1 0 (rw marked.0 low)))
              (λ e. rw (e, or-false earlier, get_or-set_other seen k j 1 0 (λ q. eqb-false k j e (sym q))) (marked.1 j l))),
        )

  pub marked_none : Marked bytes lengths 0 (replicate 65 0)
  marked_none = (refl, λ k l. get_or-replicate {A = ℕ} 65 k 0 0 l)
