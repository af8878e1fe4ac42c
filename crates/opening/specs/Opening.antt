-- Numbers 1 to 9, 17 and 18 of a call, or what it is asked; and the facts that both calls ask for.
use Rattle.std.specs.Prelude.{cond, List, ℕ, ◌+◌, leb, ltb, eqb, length, take, drop, Result, Ok, Err}
use Rattle.rules.specs.Regions.{image_length}
use Rattle.rules.specs.States.{good_state}
use Rattle.rules.specs.declared.Range.{Range}
use Rattle.rules.specs.declared.Refusal.TheVariants.{BadState, ImageLength, BufferLength}
use Rattle.rules.specs.declared.State.{State}
use Rattle.rules.specs.declared.WordIndex.{WordIndex}
use Rattle.tasks.specs.Asked.{if_passed, sought_in}
use Rattle.regions.specs.Lookup.{find_region, found_index}
use Rattle.rules.specs.declared.Refusal.{Refusal}
use Rattle.rules.specs.declared.Task.{Task}
use Rattle.regions.specs.declared.Spot.{Spot}
use Rattle.regions.specs.declared.Miss.{Miss}

-- NUMBERS 1 TO 9, 17 AND 18

-- 1 to 3, where a good state's image has `words` words and `words` is 0 of a state that is not good
abbrev pub lent_by : ℕ → ℕ → ℕ → ℕ → Result (Unit {0}) Refusal
lent_by words image size buffer =
    cond (eqb words 0) (Err BadState)
    (cond (eqb image words) (cond (ltb buffer size) (Err BufferLength) (Ok tt)) (Err ImageLength))

-- 1 to 9, 17 and 18, or the task
abbrev pub opened_as : Result (Unit {0}) Refusal → List ℕ → List ℕ → ℕ → Result Task Refusal
opened_as v p symbols unit = if_passed v (sought_in p unit symbols)

abbrev pub opened_by : ℕ → ℕ → ℕ → List ℕ → List ℕ → ℕ → Result Task Refusal
opened_by words image reply p symbols unit = opened_as (lent_by words image 32 reply) p symbols unit

-- THE FACTS that both calls ask for

-- the words of a good state's image, which has at least one; else 0
unfoldable pub good_words : State → ℕ
good_words s = cond (good_state s) (image_length s.regions s.count) 0

abbrev pub find : State → Range → Result Spot Miss
find s a = find_region s.regions s.count a

-- where a range that is found begins in the image
abbrev pub index : State → Range → WordIndex
index s a = found_index s.regions a (find s a)

-- the words of the image from an index on, and none where they are not all there
abbrev pub words_from : List ℕ → ℕ → ℕ → List ℕ
words_from image at n = cond (leb (at + n) (length image)) (take n (drop at image)) (take 0 image)
