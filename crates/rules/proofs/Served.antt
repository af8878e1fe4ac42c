-- What a chain of lawful calls does for an accepted dump is what demand 3 promises of it.
-- Assumes nothing.
use mathlib.Core.Path.{◌≡◌, ◌∙◌, refl, ap, sym}
use mathlib.Core.Bool.{true, false}
use mathlib.Core.List.{List, [], ◌∷◌, ◌++◌, append_assoc, append-nil}
use Prim.Native.Nat.{ℕ, ◌+◌, ◌-◌, ◌%◌, ◌≤◌, ◌<◌, zero-le}
use native.Mathlib.Omega.{arith}
use native.Mathlib.Nat.{zero-add, mul-zero}
use lib.ListN.{length}
use borrow.Author.Tests.{eq-eqb}
use Rattle.lists.proofs.Tests.{contra, by_order}
use Rattle.rules.specs.declared.Place.{Place}
use Rattle.rules.specs.declared.ActiveDump.{ActiveDump}
use Rattle.rules.specs.declared.Range.{Range}
use Rattle.rules.specs.declared.Context.{Context}
use Rattle.rules.specs.States.{busy_with, piece_words}
use Rattle.rules.specs.Commands.{new_dump}
use Rattle.rules.specs.Demand3.{Event, Accepted, accepts, packets, packets_due, Shows, Uncancelled, Served}
use Rattle.rules.proofs.Cover.{due_before}
use Rattle.rules.proofs.Watch.{Watch, bound, pace, soon, shows}
use Rattle.rules.proofs.Laws.{kept, accepted, cancelled, served, Chain, next, Mine, Near, UncancelledFrom, puts_at, watch}
use Rattle.rules.proofs.AfterPacket.{piece_some}

accepts_it : (t : ℕ) (r : Range) (e : Event) → Accepted t r e → accepts t e ≡ true
unfolding accepts
accepts_it t r e a = rw (a.answered, a.command, eq-eqb t t refl)

module _ (t : ℕ) (r : Range) where
  -- what the watch over the events after the acceptance says
  watch_served : (after : List Event) → Watch t (packets_due r) (Shows r) 0 0 after → 0 < packets_due r → Served t r after
  watch_served after v h =
      record {
        most = most after [] (sym (append-nil after));
        soon = λ xs ys zs x u s. soon xs ys zs (over (x ∙ append_assoc xs ys zs)) zero-le (omega arith) s;
        all = λ xs ys x s.
            by_order (length (packets t xs)) (packets_due r)
            (λ o. absurd (omega (arith, pace xs ys (over x) zero-le (omega arith))))
            (λ o. absurd (omega (arith, most xs ys x)))
            (λ o. o);
        shows = λ ps qs e x. rw zero-add at (shows v ps qs e x);
      }
    where
      over : {es : List Event} → after ≡ es → Watch t (packets_due r) (Shows r) 0 0 es
      over x = rw x at v

      most : (xs ys : List Event) → after ≡ xs ++ ys → length (packets t xs) ≤ packets_due r
      most xs ys x = omega (arith, bound xs ys (over x) h)

  -- at the acceptance: the dump has words, and is served
  began : {ps : List Place} {l : ℕ} {e : Event} {after : List Event} → Chain ps l (e ∷ after) → Accepted t r e
      → Uncancelled t (packets_due r) after → (0 < r.words) × Served t r after
  began {e = e} (next ps' l' (kept x y se id) c) a un = absurd (contra (accepts_it t r e a) (se.accept t))
  began {l = l} {after = after} (next ps' l' (accepted p d pl ll hp fr x y po ask se co) c) a un =
      let k : d ≡ new_dump t r = ask t r a in
      let kr : d.range ≡ r = ap (λ (z : ActiveDump). z.range) k in
      let kt : d.transaction ≡ t = ap (λ (z : ActiveDump). z.transaction) k in
      let some : 0 < r.words = rw kr at po in
      let m : Mine t r 0 p ps' =
      record {
        d = d;
        here = x.here;
        number = kt;
        range = kr;
        sent = ap (λ (z : ActiveDump). z.sent) k ∙ sym (mul-zero (piece_words r));
        due = rw mul-zero some;
        alone = λ q qp. puts_at (λ (z : Context). busy_with t z ≡ false) x q (λ e'. absurd (qp e')) (λ _. rw kt at (fr q));
      }
      in
      let nr : Near p l' ((p + 3 - l) % 4 + 1) 0 = omega arith in
      let un' : UncancelledFrom t (packets_due r) 0 after = record { all = λ xs ys e' q h. omega (arith, un.all xs ys e' q h) } in
      let due = due_before (piece_words r) (piece_some r) 0 r.words m.due in
      (some, watch_served after (watch t r 0 p ((p + 3 - l) % 4 + 1) 0 c m nr un') due)
  began {e = e} (next ps' l' (cancelled p d hp x y se co) c) a un = absurd (contra (accepts_it t r e a) (se.accept t))
  began {e = e} (next ps' l' (served k d kl hp before x y se co sh) c) a un = absurd (contra (accepts_it t r e a) (se.accept t))

  pub chain_served : {ps : List Place} {l : ℕ} (before : List Event) {e : Event} {after : List Event} → Chain ps l (before ++ e ∷ after)
      → Accepted t r e → Uncancelled t (packets_due r) after → (0 < r.words) × Served t r after
  chain_served [] c a un = began c a un
  chain_served (b ∷ bs) (next ps' l' law c) a un = chain_served bs c a un
