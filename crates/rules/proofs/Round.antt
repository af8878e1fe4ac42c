-- The round: which place is served, and that the round comes to each.
-- Assumes nothing.
use mathlib.Core.Path.{◌≡◌, refl, ap, ◌∙◌}
use mathlib.Core.Logic.{◌≢◌}
use mathlib.Core.Bool.{Bool, true, false}
use mathlib.Core.List.{List}
use Prim.Native.Nat.{ℕ, ◌+◌, ◌-◌, ◌%◌, ◌<◌, ◌≤◌}
use native.Mathlib.Nat.{mod-lt}
use native.Mathlib.Omega.{arith}
use Rattle.lists.specs.Below.{first_below}
use Rattle.lists.proofs.Tests.{contra}
use Rattle.lists.proofs.Below.{any_of, any_at, first_found, first_before}
use Rattle.rules.specs.States.{context_at}
use Rattle.rules.specs.Slots.{is_busy, any_busy, place_after, next_place}
use Rattle.rules.specs.declared.ActiveDump.{ActiveDump}
use Rattle.rules.specs.declared.Context.{Context}
use Rattle.rules.specs.declared.Context.TheVariants.{Idle, Busy}
use Rattle.rules.specs.declared.Place.{Place}

-- BUSY PLACES

pub busy_is : (a : Context) → is_busy a ≡ true → (d : ActiveDump) × (a ≡ Busy d)
busy_is Idle h = absurd (contra h refl)
busy_is (Busy d) h = (d, refl)

idle_is : (a : Context) → is_busy a ≡ false → a ≡ Idle
idle_is Idle h = refl
idle_is (Busy d) h = absurd (contra refl h)

not_idle : (a : Context) → a ≢ Idle → is_busy a ≡ true
not_idle Idle h = absurd (h refl)
not_idle (Busy d) h = refl

busy_not_idle : (a : Context) → is_busy a ≡ true → a ≢ Idle
busy_not_idle a h e = contra h (ap is_busy e)

module _ (ps : List Place) where
  pub any_busy_out : any_busy ps ≡ true → (i : ℕ) × (i < 4) × (context_at ps i ≢ Idle)
  unfolding any_busy
  any_busy_out h =
      let r = any_at (λ (i : ℕ). is_busy (context_at ps i)) 4 h in
      (r.0, r.1, busy_not_idle (context_at ps r.0) r.2)

  pub any_busy_in : (i : ℕ) → i < 4 → context_at ps i ≢ Idle → any_busy ps ≡ true
  unfolding any_busy
  any_busy_in i l h = any_of (λ (k : ℕ). is_busy (context_at ps k)) 4 l (not_idle (context_at ps i) h)

-- THE ROUND

pub next_in_four : (ps : List Place) (last : ℕ) → next_place ps last < 4
unfolding next_place
next_in_four ps last = omega arith

-- the round comes to each place
round_reaches : (last i : ℕ) → last ≤ 3 → i < 4 → place_after last ((i + 3 - last) % 4) ≡ i
round_reaches last i l k = omega arith

-- the place that the round stops at, k places on
pub record Stops (ps : List Place) (last : ℕ) : Type 0 where
  pub k : ℕ
  pub near : k < 4
  pub place : next_place ps last ≡ place_after last k
  pub dump : ActiveDump
  pub busy : context_at ps (place_after last k) ≡ Busy dump
  pub passed : (j : ℕ) → j < k → context_at ps (place_after last j) ≡ Idle

pub round_stops : (ps : List Place) (last : ℕ) → last ≤ 3 → any_busy ps ≡ true → Stops ps last
unfolding next_place
round_stops ps last l h =
    let b = any_busy_out ps h in
    let at : ℕ → Bool = λ k. is_busy (context_at ps (place_after last k)) in
    let e = round_reaches last b.0 l b.1 in
    let q : at ((b.0 + 3 - last) % 4) ≡ true = ap (λ (i : ℕ). is_busy (context_at ps i)) e ∙ not_idle (context_at ps b.0) b.2 in
    let r = first_found at 4 (any_of at 4 (mod-lt (b.0 + 3 - last) (omega arith)) q) in
    let d = busy_is (context_at ps (place_after last (first_below at 4))) r.1 in
    record {
      k = first_below at 4;
      near = r.0;
      place = refl;
      dump = d.0;
      busy = d.1;
      passed = λ j k. idle_is (context_at ps (place_after last j)) (first_before at 4 k);
    }

-- with a busy place among the four, the place that is served is busy
pub next_busy : (ps : List Place) (last : ℕ) → last ≤ 3 → any_busy ps ≡ true → is_busy (context_at ps (next_place ps last)) ≡ true
next_busy ps last l h = let st = round_stops ps last l h in rw (st.place, st.busy)
