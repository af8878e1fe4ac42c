-- Searches over the indices, as the definitions count, and the round.
-- Assumes nothing.
use mathlib.Core.Path.{◌≡◌, refl, sym, ap, ◌∙◌}
use mathlib.Core.Bool.{Bool, true, false}
use mathlib.Core.List.{List}
use Prim.Native.Nat.{ℕ, ◌≤◌, ◌<◌}
use native.Mathlib.Omega.{arith}
use Rattle.std.specs.Prelude.{Option, None, Some, unwrap_or, MatchOption}
use Rattle.lists.specs.Below.{any_below, first_below}
use Rattle.lists.proofs.Below.{none_at, none_of, first_is, first_none}
use Rattle.lists.proofs.Tests.{contra}
use Rattle.rules.specs.States.{context_at}
use Rattle.rules.specs.Slots.{is_busy, place_after, next_place}
use Rattle.rules.specs.declared.ActiveDump.{ActiveDump}
use Rattle.rules.specs.declared.Context.{Context}
use Rattle.rules.specs.declared.Context.TheVariants.{Idle, Busy}
use Rattle.rules.specs.declared.Place.{Place}
use Rattle.places.specs.Turns.{turn_of, next_turn}

-- the answer of a search over the indices below n, and n where there is none
pub first_found_is : (p : ℕ → Bool) (n : ℕ) (r : Option ℕ)
    → MatchOption r ((k : ℕ) → 0 ≤ k → k < n → p k ≡ false) (λ i. (0 ≤ i) × (i < n) × (p i ≡ true) × ((k : ℕ) → 0 ≤ k → k < i → p k ≡ false))
    → unwrap_or r n ≡ first_below p n
first_found_is p n None h = sym (first_none p n (none_of p n (λ i l. h i (omega arith) l)))
first_found_is p n (Some i) h = sym (first_is p n h.1 h.2 (λ j k. h.3 j (omega arith) k))

-- THE ROUND: no place before the k-th after the one served last is busy
module _ (ps : List Place) (last k : ℕ) (none : any_below (λ j. is_busy (context_at ps (place_after last j))) k ≡ false) where
  abbrev busy : ℕ → Bool
  busy j = is_busy (context_at ps (place_after last j))

  pub next_here : k < 4 → (d : ActiveDump) → context_at ps (place_after last k) ≡ Busy d
      → Some (record { place = place_after last k; dump = d }) ≡ next_turn ps last
  unfolding next_turn next_place
  next_here l d e =
      let k_is : first_below busy 4 ≡ k = first_is busy 4 l (ap is_busy e) (λ j h. none_at busy k none h) in
      sym (ap (λ j. turn_of (place_after last j) (context_at ps (place_after last j))) k_is ∙ ap (turn_of (place_after last k)) e)

  pub nobody_next : 4 ≤ k → None ≡ next_turn ps last
  unfolding next_turn next_place
  nobody_next l =
      let k_is : first_below busy 4 ≡ 4 = first_none busy 4 (none_of busy 4 (λ j h. none_at busy k none (omega arith))) in
      let round : place_after last 4 ≡ place_after last 0 = omega arith in
      let e : context_at ps (place_after last 0) ≡ Idle = idle_is (context_at ps (place_after last 0)) (none_at busy k none (omega arith)) in
      sym (ap (λ j. turn_of (place_after last j) (context_at ps (place_after last j))) k_is ∙ ap (λ j. turn_of j (context_at ps j)) round ∙ ap (turn_of (place_after last 0)) e)
    where
      idle_is : (a : Context) → is_busy a ≡ false → a ≡ Idle
      idle_is Idle h = refl
      idle_is (Busy d) h = absurd (contra refl h)
