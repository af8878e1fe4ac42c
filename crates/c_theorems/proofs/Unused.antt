-- A call on the block of a state with any words in the entries not in use is the call on the state, and those words stay.
-- Assumes nothing.
use mathlib.Core.Path.{◌≡◌, refl, sym, ap, ◌∙◌}
use mathlib.Core.Bool.{true}
use mathlib.Core.List.{List, [], ◌∷◌, ◌++◌}
use Prim.Native.Nat.{ℕ, ◌+◌, ◌*◌, ◌-◌, ◌≤◌, ◌<◌, min}
use native.Mathlib.Omega.{arith}
use lib.Dec.{leb}
use lib.ListN.{length, take, drop, length-take}
use lib.Seq.{drop-append_seam}
use Rattle.lists.specs.Splice.{splice}
use Rattle.lists.proofs.Below.{all_of}
use Rattle.lists.proofs.Splice.{splice_length, splice_below, splice_above}
use Rattle.rules.specs.PoolsApart.{with_regions}
use Rattle.rules.specs.Commands.{CommandArgs, Outcome, command_call}
use Rattle.rules.specs.Regions.{no_region, region_at}
use Rattle.rules.specs.Slots.{SlotArgs, slot_call}
use Rattle.rules.specs.declared.Region.{Region}
use Rattle.rules.specs.declared.State.{State}
use Rattle.batches.proofs.Kept.{command_kept}
use Rattle.block.specs.Blocks.{region_words, block_of, word, region_in, regions_in, regions_bounds, unused_from, block_over}
use Rattle.block.specs.Calls.{on_state, lg_command, lg_slot}
use Rattle.block.specs.RoundTrip.{Fits}
use Rattle.block.proofs.Back.{rights_low, region_back, count_same, Says, said_back, said_block}
use Rattle.block.proofs.Lengths.{block_length}
use Rattle.block.proofs.Over.{rest_words, rest_word, unused_written}
use Rattle.block.proofs.Runs.{runs_length, runs_same, list_at}
use Rattle.block.proofs.Words.{region_word}
use Rattle.block.proofs.Writes.{front_written}
use Rattle.c_theorems.specs.FromC.{with_unused, leaves_with}
use Rattle.c_theorems.proofs.Used.{on_regions, command_same, slot_same, slot_kept}

-- all that comes after the regions is as with other regions
rest_same : (s : State) (qs : List Region) (k : ℕ) → 49 ≤ k → word (block_of s) k ≡ word (block_of (with_regions s qs)) k
rest_same s qs k l =
    let e : k ≡ 49 + (k - 49) = omega arith in
    rw e (rest_word s (k - 49) ∙ sym (rest_word (with_regions s qs) (k - 49)))

module _ (s : State) (f : Fits s) (v : List ℕ) (few : s.count ≤ 16) (lv : length v ≡ 48 - 3 * s.count) where
  abbrev from : ℕ
  from = 1 + 3 * s.count

  abbrev b : List ℕ
  b = with_unused s v

  abbrev qs : List Region
  qs = regions_in b 1

  room : from + length v ≡ 49
  room = omega arith

  inside : from + length v ≤ length (block_of s)
  inside = let n = block_length s in let r = room in omega arith

  -- WHAT THE BLOCK SAYS: the state with other regions past those in use

  used_word : (k : ℕ) → k < from → word b k ≡ word (block_of s) k
  used_word k l = splice_below (block_of s) from v inside k l

  count_is : word b 0 ≡ s.count
  count_is = used_word 0 (omega arith) ∙ count_same s f

  pub same : (i : ℕ) → i < s.count → region_at qs i ≡ region_at s.regions i
  same i l =
      list_at no_region (λ j. region_in b (1 + 3 * j)) 16 i (omega arith)
      ∙ region_back b (1 + 3 * i) (region_at s.regions i) (λ k m. used_word (1 + 3 * i + k) (omega arith) ∙ region_word s i k (omega arith) m)

  rights_are : regions_bounds b 1 (word b 0) ≡ true
  unfolding regions_bounds
  rights_are =
      let c = count_is in
      all_of (λ i. leb (word b (1 + 3 * i + 2)) 3) (min (word b 0) 16)
      (λ i l. rw (used_word (1 + 3 * i + 2) (omega arith), region_word s i 2 (omega arith) (omega arith))
      (rights_low (region_at s.regions i).load (region_at s.regions i).dump))

  says : Says b (with_regions s qs)
  says =
      let r = room in
      record {
        words = splice_length (block_of s) from v inside ∙ block_length s;
        count = count_is;
        regions = refl;
        rights = rights_are;
        rest = λ k l. splice_above (block_of s) from v inside k (omega arith) ∙ rest_same s qs k l;
      }

  fits : Fits (with_regions s qs)
  fits =
      record {
        regions = runs_length (λ i. region_in b (1 + 3 * i) ∷ []) 1 (λ i. refl) 16;
        count = f.count;
        pools = f.pools;
        unit = f.unit;
        places = f.places;
        contexts = f.contexts;
        last = f.last;
        replies = f.replies;
        values = f.values;
        packets = f.packets;
        accepted = f.accepted;
        refused = f.refused;
      }

  -- WHAT IS LEFT

  own_unused : drop from (take 49 b) ≡ v
  own_unused =
      let n = block_length s in
      let r = room in
      let a = take from (take 49 (block_of s)) in
      let la : length a ≡ from = simp length-take (omega arith) in
      ap (drop from) (front_written (block_of s) from v 49 room (omega arith))
      ∙ ap (λ (k : ℕ). drop k (a ++ v)) (sym la)
      ∙ drop-append_seam a v

  over_is : (t : State) → t.regions ≡ s.regions → t.count ≡ s.count → block_over b (with_regions t qs) ≡ with_unused t v
  unfolding block_over
  over_is t r c =
      let n = count_is in
      let e : unused_from b ≡ from = omega arith in
      let agree : (i : ℕ) → i < s.count → region_at qs i ≡ region_at t.regions i =
      λ i l. same i l ∙ ap (λ (rs : List Region). region_at rs i) (sym r) in
      let k : 1 + 3 * s.count ≡ 1 + 3 * t.count = omega arith in
      ap (λ (x : ℕ). splice (block_of (with_regions t qs)) x (drop x (take 49 b))) e
      ∙ ap (splice (block_of (with_regions t qs)) from) own_unused
      ∙ unused_written (with_regions t qs) s.count v few room
      ∙ ap (λ (u : List ℕ). ((min 4294967295 t.count ∷ []) ++ u ++ v) ++ rest_words t)
      (runs_same (λ i. region_words (region_at t.regions i)) (λ i. region_words (region_at qs i)) s.count (λ i l. ap region_words (agree i l)))
      ∙ sym (unused_written t s.count v few room)
      ∙ ap (λ (x : ℕ). splice (block_of t) x v) k

  left_with : (image buffer : List ℕ) (call : State → Outcome) → call (with_regions s qs) ≡ on_regions qs (call s) → (call s).state.regions ≡ s.regions
      → (call s).state.count ≡ s.count → on_state b image buffer call ≡ leaves_with v (call s)
  unfolding on_state
  left_with image buffer call e r c =
      rw (said_block (with_regions s qs) fits b says, said_back (with_regions s qs) fits b says, e, over_is (call s).state r c)

  pub command_with : (c : CommandArgs) → lg_command b c ≡ leaves_with v (command_call s c)
  command_with c =
      let k = command_kept s c in
      left_with c.image c.reply (λ s. command_call s c) (command_same s qs same c) k.regions k.count

  pub slot_with : (c : SlotArgs) → lg_slot b c.tick c.image c.buffer ≡ leaves_with v (slot_call s c)
  slot_with c =
      let k = slot_kept s c in
      left_with c.image c.buffer (λ s. slot_call s c) (slot_same s qs same c) k.0 k.1
