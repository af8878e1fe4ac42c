-- What the words that start-up's test and the good state's test answer say to a caller.
-- Assumes nothing.
use mathlib.Core.Path.{◌≡◌}
use mathlib.Core.Logic.{◌≢◌}
use mathlib.Core.Bool.{true, false, cond}
use mathlib.Core.List.{List}
use Prim.Native.Nat.{ℕ, ◌≤◌}
use Rattle.rules.specs.Regions.{table_rules, image_length}
use Rattle.rules.specs.States.{start_rules, good_state}
use Rattle.rules.proofs.Table.{table_count}
use Rattle.rules.specs.declared.Range.{Range}
use Rattle.rules.specs.declared.Region.{Region}
use Rattle.rules.specs.declared.State.{State}
use Rattle.regions.proofs.Answers.{words_none, words_some}
use Rattle.state.proofs.Steps.{start_table, good_start}

module _ (rs : List Region) (n : ℕ) (ps : List Range) (unit : ℕ) (w : ℕ) (e : w ≡ cond (start_rules rs n ps unit) (image_length rs n) 0) where
  pub start_words_none : w ≡ 0 → start_rules rs n ps unit ≡ false
  start_words_none = words_none rs n (start_rules rs n ps unit) (start_table rs n ps unit) w e

  pub start_words_some : w ≢ 0 → (start_rules rs n ps unit ≡ true) × (w ≡ image_length rs n)
  start_words_some = words_some rs n (start_rules rs n ps unit) (start_table rs n ps unit) w e

  pub start_words_count : w ≢ 0 → n ≤ 16
  start_words_count h = (table_count rs n (start_table rs n ps unit (start_words_some h).0)).1

module _ (s : State) (w : ℕ) (e : w ≡ cond (good_state s) (image_length s.regions s.count) 0) where
  good_table : good_state s ≡ true → table_rules s.regions s.count ≡ true
  good_table h = start_table s.regions s.count s.pools s.unit (good_start s h)

  pub good_words_none : w ≡ 0 → good_state s ≡ false
  good_words_none = words_none s.regions s.count (good_state s) good_table w e

  pub good_words_some : w ≢ 0 → (good_state s ≡ true) × (w ≡ image_length s.regions s.count)
  good_words_some = words_some s.regions s.count (good_state s) good_table w e
