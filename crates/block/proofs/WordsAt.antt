-- What each word of the state block is.
-- Assumes nothing.
use mathlib.Core.Path.{◌≡◌, refl, ap, ◌∙◌}
use mathlib.Core.Bool.{Bool, true, false, cond}
use Prim.Native.Nat.{ℕ, ◌+◌, ◌*◌, ◌<◌}
use native.Mathlib.Omega.{arith}
use lib.ListN.{get_or-replicate}
use Rattle.rules.specs.Regions.{region_at}
use Rattle.rules.specs.States.{context_at}
use Rattle.rules.specs.declared.ActiveDump.{ActiveDump}
use Rattle.rules.specs.declared.Context.{Context}
use Rattle.rules.specs.declared.Context.TheVariants.{Idle, Busy}
use Rattle.rules.specs.declared.State.{State}
use Rattle.block.specs.Blocks.{rights_word, region_words, context_words, word}
use Rattle.block.specs.Layout.{at, Layout}
use Rattle.block.proofs.Lengths.{block_length}
use Rattle.block.proofs.Words.{count_word, region_word, pool_word, place_word, tail_word}

rights_sum : (l d : Bool) → rights_word l d ≡ cond l 1 0 + cond d 2 0
rights_sum true true = refl
rights_sum true false = refl
rights_sum false true = refl
rights_sum false false = refl

module _ (s : State) where
  moved : (i j : ℕ) {x : ℕ} → i ≡ j → at s j ≡ x → at s i ≡ x
  moved i j e h = ap (at s) e ∙ h

  of_region : (i k : ℕ) → i < 16 → k < 3 → at s (1 + k + 3 * i) ≡ word (region_words (region_at s.regions i)) k
  of_region i k l m = moved (1 + k + 3 * i) (1 + 3 * i + k) (omega arith) (region_word s i k l m)

  of_place : (i k : ℕ) (c : Context) → i < 4 → k < 5 → context_at s.places i ≡ c → at s (54 + 5 * i + k) ≡ word (context_words c) k
  of_place i k c l m e = place_word s i k l m ∙ ap (λ (c : Context). word (context_words c) k) e

  of_dump : (i k : ℕ) (d : ActiveDump) → i < 4 → k < 5 → context_at s.places i ≡ Busy d → at s (54 + k + 5 * i) ≡ word (context_words (Busy d)) k
  of_dump i k d l m e = moved (54 + k + 5 * i) (54 + 5 * i + k) (omega arith) (of_place i k (Busy d) l m e)

  pub layout : Layout s
  layout =
      record {
        words = block_length s;
        count = λ h. let e = count_word s in omega arith;
        region_start = λ i l. of_region i 0 l (omega arith);
        region_size = λ i l. of_region i 1 l (omega arith);
        region_rights = λ i l. of_region i 2 l (omega arith) ∙ rights_sum (region_at s.regions i).load (region_at s.regions i).dump;
        pool_0 = (pool_word s 0 (omega arith), pool_word s 1 (omega arith));
        pool_1 = (pool_word s 2 (omega arith), pool_word s 3 (omega arith));
        unit = pool_word s 4 (omega arith);
        idle = λ i k l m e. of_place i k Idle l m e ∙ get_or-replicate 5 k 0 0 m;
        busy = λ i d l e. (of_dump i 0 d l (omega arith) e, of_dump i 1 d l (omega arith) e, of_dump i 2 d l (omega arith) e, of_dump i 3 d l (omega arith) e, of_dump i 4 d l (omega arith) e);
        last = tail_word s 0;
        replies = tail_word s 1;
        packets = tail_word s 2;
        accepted = tail_word s 3;
        refused = tail_word s 4;
        values = tail_word s 5;
      }
