-- One item of a batch, from what the single call says of the item's part of the reply buffer: for every single call.
-- Assumes nothing.
use mathlib.Core.Path.{◌≡◌, ◌∙◌}
use mathlib.Core.List.{List}
use Prim.Native.Nat.{ℕ, ◌+◌, ◌*◌, ◌%◌, ◌≤◌, ◌<◌}
use native.Mathlib.Nat.{mod-eq_of_lt}
use native.Mathlib.Omega.{arith}
use lib.ListN.{length, set, take, drop, length-drop}
use lib.Seq.{length-take-le, drop-drop}
use borrow.Rule.Slice.PartMut.{put_mid}
use Rattle.lists.specs.Splice.{splice}
use Rattle.rules.specs.Commands.{CommandArgs}
use Rattle.batches.specs.Batch.{Single}

-- a call that leaves its reply buffer as long as it was, and whose number and reply length fit a byte
pub record Within {S : Type 0} (c : CommandArgs) (o : Single S) : Type 0 where
  pub reply_long : length o.reply ≡ length c.reply
  pub number_low : o.number < 256
  pub length_low : o.length < 256

module _ {S : Type 0} (call : S → CommandArgs → Single S) (s : S) (packet symbols image replies : List ℕ) (i : ℕ) where
  -- n bytes of the reply buffer
  abbrev lent : ℕ → CommandArgs
  lent n = record { packet = packet; symbols = symbols; image = image; reply = take n (drop (32 * i) replies) }

  abbrev Called : ℕ → S → (image part : List ℕ) (number size : ℕ) → Type 0
  Called n state image part number size =
      (state ≡ (call s (lent n)).state)
      × (image ≡ (call s (lent n)).image)
      × (part ≡ (call s (lent n)).reply)
      × (number ≡ (call s (lent n)).number)
      × (size ≡ (call s (lent n)).length)

  pub item_done : Within (lent 32) (call s (lent 32)) → (numbers sizes : List ℕ) → 32 * i + 32 ≤ length replies → {n : ℕ} → n ≡ 32
      → {state : S} {image₁ part : List ℕ} {number size : ℕ} → Called n state image₁ part number size
      → (state ≡ (call s (lent 32)).state)
      × (image₁ ≡ (call s (lent 32)).image)
      × (put_mid (32 * i) n replies part ≡ splice replies (32 * i) (call s (lent 32)).reply)
      × (set numbers i (number % 256) ≡ set numbers i (call s (lent 32)).number)
      × (set sizes i (size % 256) ≡ set sizes i (call s (lent 32)).length)
  unfolding splice
  item_done w numbers sizes h {n} n-is {state} {image₁} {part} {number} {size} said =
      let told : Called 32 state image₁ part number size = rw n-is at said in
      let long : length (call s (lent 32)).reply ≡ 32 = w.reply_long ∙ length-take-le 32 (drop (32 * i) replies) (simp length-drop (omega arith)) in (
        told.0,
        told.1,
        rw (told.2, long, n-is, drop-drop),
        rw (told.3, mod-eq_of_lt w.number_low),
        rw (told.4, mod-eq_of_lt w.length_low),
      )
