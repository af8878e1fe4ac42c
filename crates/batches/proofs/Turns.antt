-- The items of a batch, one turn of a loop after the other, with their numbers and lengths in two lists: for every single call.
-- Assumes nothing.
use mathlib.Core.Path.{◌≡◌, refl, ◌∙◌}
use mathlib.Core.Bool.{false}
use mathlib.Core.List.{List}
use Prim.Native.Nat.{ℕ, zero, suc, ◌+◌, ◌*◌, ◌≤◌, ◌<◌, min}
use native.Mathlib.Numerals.{add-one}
use native.Mathlib.Omega.{arith}
use lib.ListN.{length, set, take, drop}
use Rattle.lists.specs.Splice.{splice}
use Rattle.rules.specs.Commands.{CommandArgs}
use Rattle.batches.specs.Batch.{BatchArgs, Single, items_of, packet_of, unfit_by, unfit, item_args, Left, left_by, batch, filled, numbers_of, lengths_of}
use Rattle.batches.specs.InOrder.{Fits}
use Rattle.batches.proofs.InPlain.{fits_out}
use Rattle.batches.proofs.Records.{answers_length, numbers_more, lengths_more}

pub fits : (a : BatchArgs) (records : ℕ) → unfit_by (items_of a) (length a.lengths) records (length a.replies) ≡ false → Fits a records
unfolding unfit
fits a records h = fits_out a records h

-- what item i is lent
abbrev lent : (packet symbols image replies : List ℕ) (i : ℕ) → CommandArgs
lent packet symbols image replies i = record { packet = packet; symbols = symbols; image = image; reply = take 32 (drop (32 * i) replies) }

module _ {S : Type 0} (call : S → CommandArgs → Single S) (a : BatchArgs) (numbers sizes : List ℕ) (s : S) where
  abbrev left : ℕ → Left S
  left i = left_by call a s i

  -- what the items before i left
  pub record Upto (i : ℕ) (state : S) (image replies ns ls : List ℕ) : Type 0 where
    pub inside : i ≤ items_of a
    pub state_is : state ≡ (left i).state
    pub image_is : image ≡ (left i).image
    pub replies_is : replies ≡ (left i).replies
    pub numbers_is : ns ≡ filled numbers (numbers_of (left i).answers)
    pub sizes_is : ls ≡ filled sizes (lengths_of (left i).answers)
    pub image_long : length image ≡ length a.image
    pub replies_long : length replies ≡ length a.replies
    pub numbers_long : length ns ≡ length numbers
    pub sizes_long : length ls ≡ length sizes

  pub starts : Upto 0 s a.image a.replies numbers sizes
  unfolding left_by
  starts =
      record {
        inside = omega arith;
        state_is = refl;
        image_is = refl;
        replies_is = refl;
        numbers_is = refl;
        sizes_is = refl;
        image_long = refl;
        replies_long = refl;
        numbers_long = refl;
        sizes_long = refl;
      }

  module _ {i : ℕ} {state : S} {image replies ns ls packet : List ℕ} where
    pub turn : Upto i state image replies ns ls → Fits a (min (length numbers) (length sizes)) → i < items_of a → packet ≡ packet_of a i
        → {state₁ : S} {image₁ replies₁ ns₁ ls₁ : List ℕ}
        → (state₁ ≡ (call state (lent packet a.symbols image replies i)).state)
        × (image₁ ≡ (call state (lent packet a.symbols image replies i)).image)
        × (replies₁ ≡ splice replies (32 * i) (call state (lent packet a.symbols image replies i)).reply)
        × (ns₁ ≡ set ns i (call state (lent packet a.symbols image replies i)).number)
        × (ls₁ ≡ set ls i (call state (lent packet a.symbols image replies i)).length)
        → length image₁ ≡ length image → length replies₁ ≡ length replies → length ns₁ ≡ length ns → length ls₁ ≡ length ls
        → Upto (i + 1) state₁ image₁ replies₁ ns₁ ls₁
    unfolding left_by
    turn u f h p said m₀ m₁ m₂ m₃ =
        let e = rw (p, u.state_is, u.image_is, u.replies_is, u.numbers_is, u.sizes_is) at said in
        let long : length (left i).answers ≡ i = answers_length call a s i in
        rw (add-one i)
        record {
          inside = omega arith;
          state_is = e.0;
          image_is = e.1;
          replies_is = e.2;
          numbers_is = e.3 ∙ numbers_more numbers (left i).answers _ i long (omega (arith, f.room));
          sizes_is = e.4 ∙ lengths_more sizes (left i).answers _ i long (omega (arith, f.room));
          image_long = m₀ ∙ u.image_long;
          replies_long = m₁ ∙ u.replies_long;
          numbers_long = m₂ ∙ u.numbers_long;
          sizes_long = m₃ ∙ u.sizes_long;
        }

  pub all : {i : ℕ} {state : S} {image replies ns ls : List ℕ} → Upto i state image replies ns ls → i ≡ items_of a
      → (state ≡ (left (items_of a)).state)
      × (image ≡ (left (items_of a)).image)
      × (replies ≡ (left (items_of a)).replies)
      × (ns ≡ filled numbers (numbers_of (left (items_of a)).answers))
      × (ls ≡ filled sizes (lengths_of (left (items_of a)).answers))
  all {i} {state} {image} {replies} {ns} {ls} u e =
      let v : Upto (items_of a) state image replies ns ls = rw e at u in
      (v.state_is, v.image_is, v.replies_is, v.numbers_is, v.sizes_is)

-- TWO SINGLE CALLS that agree on what either leaves, from a state that `Kind` holds of: they leave the same

module _ {S : Type 0} (f g : S → CommandArgs → Single S) (Kind : S → Type 0) (agree : (s : S) (c : CommandArgs) → Kind s → (f s c ≡ g s c) × Kind (f s c).state) (a : BatchArgs) (s : S) (kind : Kind s) where
  both_left : (k : ℕ) → (left_by f a s k ≡ left_by g a s k) × Kind (left_by f a s k).state
  unfolding left_by
  both_left zero = (refl, kind)
  both_left (suc k) =
      let h = both_left k in
      let e = agree (left_by f a s k).state (item_args f a (left_by f a s k) k) h.1 in
      (rw (e.0, h.0), e.1)

  pub same_left : (k : ℕ) → left_by f a s k ≡ left_by g a s k
  same_left k = (both_left k).0

  pub same_batch : (records : ℕ) → batch f s a records ≡ batch g s a records
  unfolding batch
  same_batch records = rw (same_left 0, same_left (items_of a))
