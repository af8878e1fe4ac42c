-- The number, by what the walk and the marks gave.
-- Assumes nothing.
use mathlib.Core.Path.{◌≡◌, ap, ◌∙◌}
use mathlib.Core.Logic.{◌≢◌}
use mathlib.Core.Bool.{true, false}
use mathlib.Core.List.{List}
use Prim.Native.Nat.{ℕ, ◌+◌, ◌/◌, ◌≤◌, ◌<◌}
use native.Mathlib.Omega.{arith}
use lib.Dec.{eqb}
use lib.ListN.{length, get_or, length-take}
use borrow.Author.Tests.{lt-ltb, le-ltb, ne_eqb}
use Rattle.lists.specs.Below.{any_below, first_below}
use Rattle.lists.proofs.Tests.{either}
use Rattle.lists.proofs.Below.{any_first, first_same, first_none}
use Rattle.wire.specs.Bytes.{be_at}
use Rattle.rules.specs.States.{piece_words}
use Rattle.rules.specs.Demand3.{pieces}
use Rattle.whole_dump.specs.Check.{packet_count, bytes_before, packet_at, unfit, is_bad, pieces_due, is_missing, first_bad, first_missing, check_dump}
use Rattle.whole_dump.proofs.Tests.{fits_when}
use Rattle.dump_check.specs.Marks.{held, Marked}
use Rattle.dump_check.proofs.Pieces.{read_long, due_few}
use Rattle.dump_check.proofs.Walk.{reads, first_number, sound_read}

module _ (bytes lengths : List ℕ) where
  pub number_unfit : unfit bytes lengths ≡ true → 3 ≡ check_dump bytes lengths
  unfolding check_dump
  number_unfit h = rw h

  missing_first : packet_count lengths ≡ 0 → is_missing bytes lengths 0 ≡ true
  unfolding is_missing
  missing_first z = rw z

  module _ (fit : unfit bytes lengths ≡ false) where
    pub packets_few : packet_count lengths ≤ 65
    packets_few = let f = (fits_when bytes lengths).0 fit in let t = f.two_each in let w = f.few in omega arith

    pub number_none : packet_count lengths ≡ 0 → 131072 ≡ check_dump bytes lengths
    unfolding check_dump pieces_due
    number_none z = rw (fit, z, missing_first z)

    module _ (i : ℕ) (ei : i ≡ first_bad bytes lengths) where
      pub number_bad : i < packet_count lengths → 65536 + i ≡ check_dump bytes lengths
      unfolding check_dump
      number_bad l = rw (fit, ← ei, lt-ltb i (packet_count lengths) l)

      module _ (some : packet_count lengths ≢ 0) (end : packet_count lengths ≤ i) where
        all_sound : any_below (is_bad bytes lengths) (packet_count lengths) ≡ false
        all_sound = any_first (is_bad bytes lengths) (packet_count lengths) ∙ le-ltb (first_bad bytes lengths) (packet_count lengths) (omega arith)

        all_walked : i ≡ packet_count lengths
        all_walked = ei ∙ first_none (is_bad bytes lengths) (packet_count lengths) all_sound

        first_read : reads bytes lengths 0 ≡ true
        first_read = sound_read bytes lengths (packet_count lengths) all_sound 0 (omega arith)

        pub bytes_long : 28 ≤ length bytes
        unfolding packet_at bytes_before
        bytes_long = let l = read_long (packet_at bytes lengths 0) first_read in omega (arith, simp length-take at l)

        module _ (m : ℕ) (em : m ≡ (be_at 4 bytes 16 + 1015) / 1016) where
          due_is : m ≡ pieces_due bytes lengths
          unfolding pieces_due pieces piece_words
          due_is =
              em ∙ rw (ne_eqb (packet_count lengths) 0 some, first_number bytes lengths (read_long (packet_at bytes lengths 0) first_read) 4 16 (omega arith))

          -- each piece due has a mark
          pub due_marked : m ≤ 65
          unfolding pieces_due
          due_marked =
              let e : m ≡ _ = rw (ne_eqb (packet_count lengths) 0 some) at due_is in
              rw e (due_few (packet_at bytes lengths 0) first_read)

          module _ (seen : List ℕ) (marked : Marked bytes lengths i seen) where
            unmarked_is : (j : ℕ) → j < m → eqb (get_or seen j 0) 0 ≡ is_missing bytes lengths j
            unfolding is_missing
            unmarked_is j l =
                let e = rw all_walked at (marked.1 j (omega (arith, due_marked))) in
                rw e (either (held bytes lengths (packet_count lengths) j) (λ h. rw h) (λ h. rw h))

            module _ (k : ℕ) (ek : k ≡ first_below (λ j. eqb (get_or seen j 0) 0) m) where
              missing_is : k ≡ first_missing bytes lengths
              missing_is =
                  ek ∙ first_same (λ j. eqb (get_or seen j 0) 0) (is_missing bytes lengths) m unmarked_is ∙ ap (first_below (is_missing bytes lengths)) due_is

              pub number_marked : (k < m → 131072 + k ≡ check_dump bytes lengths) × (m ≤ k → 0 ≡ check_dump bytes lengths)
              unfolding check_dump
              number_marked =
                  rw (fit, ← ei, le-ltb i (packet_count lengths) end, ← missing_is, ← due_is) (λ l. rw (lt-ltb k m l), λ l. rw (le-ltb k m l))
