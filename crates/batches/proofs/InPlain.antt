-- When a batch is refused, and what an item's packet is, in plain words.
-- Assumes nothing.
use mathlib.Core.Path.{◌≡◌}
use mathlib.Core.Bool.{false, not, ◌||◌}
use mathlib.Core.List.{List, []}
use Prim.Native.Nat.{ℕ, ◌+◌, ◌*◌, ◌≤◌, ◌<◌}
use native.Mathlib.Omega.{arith}
use lib.Dec.{ltb, eqb}
use lib.ListN.{length, take, drop, length-drop}
use lib.Seq.{length-take-le, get_or-take, get_or-drop}
use borrow.Author.Tests.{ltb-false, le-ltb, le-leb, lt-leb, eqb-true, eq-eqb, not-false}
use Rattle.lists.proofs.Tests.{or_left, or_right}
use Rattle.batches.specs.Batch.{BatchArgs, items_of, bytes_from, unfit}
use Rattle.batches.specs.InOrder.{Fits, InPlain}

module _ (a : BatchArgs) (records : ℕ) where
  pub fits_out : unfit a records ≡ false → Fits a records
  unfolding unfit
  fits_out h =
      let few = ltb 64 (items_of a) in
      let unequal = not (eqb (length a.lengths) (items_of a)) in
      let room = ltb records (items_of a) in
      let three = or_left (few || unequal || room) (ltb (length a.replies) (32 * items_of a)) h in
      let two = or_left (few || unequal) room three in
      record {
        few = ltb-false 64 (items_of a) (or_left few unequal two);
        equal = eqb-true _ _ (not-false _ (or_right few unequal two));
        room = ltb-false records (items_of a) (or_right (few || unequal) room three);
        bytes = ltb-false _ _ (or_right (few || unequal || room) (ltb (length a.replies) (32 * items_of a)) h);
      }

  pub fits_in : Fits a records → unfit a records ≡ false
  unfolding unfit
  fits_in f =
      rw (le-ltb 64 (items_of a) f.few, eq-eqb (length a.lengths) (items_of a) f.equal, le-ltb records (items_of a) f.room, le-ltb (length a.replies) (32 * items_of a) f.bytes)

module _ (bytes : List ℕ) (start n : ℕ) where
  pub packet_inside : start + n ≤ length bytes → bytes_from bytes start n ≡ take n (drop start bytes)
  unfolding bytes_from
  packet_inside h = rw le-leb

  pub packet_outside : length bytes < start + n → bytes_from bytes start n ≡ []
  unfolding bytes_from
  packet_outside h = rw lt-leb

  packet_length_lem : start + n ≤ length bytes → length (take n (drop start bytes)) ≡ n
  packet_length_lem h = length-take-le n (drop start bytes) (simp length-drop (omega arith))

pub in_plain : InPlain
in_plain =
    record {
      fits = λ a records. (fits_out a records, fits_in a records);
      inside = λ bytes start n h. rw (packet_inside bytes start n h) (packet_length_lem bytes start n h, λ k l. rw (get_or-take n (drop start bytes) k 0 l, get_or-drop));
      outside = packet_outside;
    }
