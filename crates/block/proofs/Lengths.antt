-- Lengths of a state's words.
-- Assumes nothing.
use mathlib.Core.Path.{◌≡◌, refl}
use mathlib.Core.List.{List}
use native.Mathlib.Omega.{arith}
use lib.ListN.{length, length-append}
use Rattle.rules.specs.Regions.{region_at}
use Rattle.rules.specs.States.{context_at}
use Rattle.rules.specs.declared.Context.{Context}
use Rattle.rules.specs.declared.Context.TheVariants.{Idle, Busy}
use Rattle.rules.specs.declared.Place.{Place}
use Rattle.rules.specs.declared.Region.{Region}
use Rattle.rules.specs.declared.State.{State}
use Rattle.block.specs.Blocks.{region_words, context_words, regions_words, places_words, block_of}
use Rattle.block.proofs.Runs.{runs_length}

pub context_words_length : (c : Context) → length (context_words c) ≡ 5
context_words_length Idle = refl
context_words_length (Busy d) = refl

pub regions_words_length : (rs : List Region) → length (regions_words rs) ≡ 48
regions_words_length rs = runs_length (λ i. region_words (region_at rs i)) 3 (λ i. refl) 16

pub places_words_length : (ps : List Place) → length (places_words ps) ≡ 20
places_words_length ps = runs_length (λ i. context_words (context_at ps i)) 5 (λ i. context_words_length (context_at ps i)) 4

pub block_length : (s : State) → length (block_of s) ≡ 80
unfolding block_of
block_length s =
    let r = regions_words_length s.regions in
    let p = places_words_length s.places in
    simp length-append (omega arith)
