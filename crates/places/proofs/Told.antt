-- Each number of whose turn it is, exactly in its case.
-- Assumes nothing.
use mathlib.Core.Path.{◌≡◌, refl, sym, ap, ◌∙◌}
use mathlib.Core.Bool.{false}
use mathlib.Core.List.{List}
use Rattle.std.specs.Prelude.{None, Some}
use Prim.Native.Nat.{ℕ, ◌≤◌, ◌<◌}
use native.Mathlib.Omega.{arith}
use Rattle.lists.proofs.Tests.{either, contra}
use Rattle.rules.specs.States.{context_at}
use Rattle.rules.specs.Slots.{any_busy, next_place}
use Rattle.rules.proofs.Round.{any_busy_out, any_busy_in, round_stops, next_in_four}
use Rattle.rules.specs.declared.ActiveDump.{ActiveDump}
use Rattle.rules.specs.declared.Context.{Context}
use Rattle.rules.specs.declared.Context.TheVariants.{Idle, Busy}
use Rattle.rules.specs.declared.Place.{Place}
use Rattle.places.specs.Turns.{turn_of, next_turn, TurnNumbers}
use Rattle.places.specs.declared.Seat.{Seat}

module _ (ps : List Place) (last : ℕ) (low : last ≤ 3) where
  all_idle : any_busy ps ≡ false → (i : ℕ) → i < 4 → context_at ps i ≡ Idle
  all_idle h i l = by_context (context_at ps i) refl
    where
      by_context : (a : Context) → context_at ps i ≡ a → context_at ps i ≡ Idle
      by_context Idle e = e
      by_context (Busy d) e = absurd (contra (any_busy_in ps i l (λ z. let q : Idle ≡ Busy d = sym z ∙ e in let z : ◌≡◌ {A = ℕ} 0 1 = cc in omega arith)) h)

  nobody_next : any_busy ps ≡ false → next_turn ps last ≡ None
  unfolding next_turn
  nobody_next h = ap (turn_of (next_place ps last)) (all_idle h (next_place ps last) (next_in_four ps last))

  somebody_next : (d : ActiveDump) → context_at ps (next_place ps last) ≡ Busy d → next_turn ps last ≡ Some (record { place = next_place ps last; dump = d })
  unfolding next_turn
  somebody_next d e = ap (turn_of (next_place ps last)) e

  same_seat : {x y : Seat} → Some x ≡ Some y → x ≡ y
  same_seat e = cc

  not_nobody : {x : Seat} → None ≡ Some x → ⊥
  not_nobody e = let z : ◌≡◌ {A = ℕ} 0 1 = cc in omega arith

  pub turn_numbers : TurnNumbers ps last (next_turn ps last)
  turn_numbers =
      either (any_busy ps)
      (λ h.
      let r = round_stops ps last low h in
      let busy : context_at ps (next_place ps last) ≡ Busy r.dump = ap (context_at ps) r.place ∙ r.busy in
      let t = somebody_next r.dump busy in
      rw t
      (record {
        nobody = (λ z. absurd (omega arith), λ n. let o = any_busy_out ps h in absurd (o.2 (n o.0 o.1)));
        next = λ x e. let s = same_seat e in (r.k, r.near, rw (← s) r.place, rw (← s) busy, r.passed);
      }))
      (λ h.
      rw (nobody_next h)
      (record { nobody = (λ z. all_idle h, λ n. refl); next = λ x e. absurd (not_nobody e) }))
