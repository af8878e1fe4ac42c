-- The events after an acceptance as one sees them who waits for the dump's packets, and what that says of counts.
-- Assumes nothing.
use mathlib.Core.Path.{◌≡◌, ◌∙◌, refl, ap, sym, subst}
use mathlib.Core.Bool.{true, false}
use mathlib.Core.List.{List, [], ◌∷◌, ◌++◌, append-nil}
use Prim.Native.Nat.{ℕ, suc, ◌+◌, ◌*◌, ◌≤◌, ◌<◌, zero-le}
use native.Mathlib.Omega.{arith}
use native.Mathlib.Nat.{add-zero}
use lib.ListN.{length, length-append}
use Rattle.lists.proofs.Tests.{by_lt}
use Rattle.rules.specs.Demand3.{Event, accepts, writes, counts, packets, slots}

-- no packet of transaction t before the next accepted dump with that number
pub data Quiet (t : ℕ) : List Event → Type 0 where
  quiet : Quiet t []
  again : {e : Event} {es : List Event} → accepts t e ≡ true → Quiet t (e ∷ es)
  skip : {e : Event} {es : List Event} → accepts t e ≡ false → writes t e ≡ false → Quiet t es → Quiet t (e ∷ es)

-- j packets were written, and w slots counted since the last of them; m are due, and the packet after j others is right if Right j says so
pub data Watch (t m : ℕ) (Right : ℕ → Event → Type 0) : ℕ → ℕ → List Event → Type 0 where
  ended : {j w : ℕ} → Watch t m Right j w []
  other : {j w : ℕ} {e : Event} {es : List Event} → accepts t e ≡ false → writes t e ≡ false → counts e ≡ false
      → Watch t m Right j w es → Watch t m Right j w (e ∷ es)
  passed : {j w : ℕ} {e : Event} {es : List Event} → accepts t e ≡ false → writes t e ≡ false → counts e ≡ true
      → w < 3 → Watch t m Right j (suc w) es → Watch t m Right j w (e ∷ es)
  packet : {j w : ℕ} {e : Event} {es : List Event} → accepts t e ≡ false → writes t e ≡ true → counts e ≡ true
      → Right j e → suc j < m → Watch t m Right (suc j) 0 es → Watch t m Right j w (e ∷ es)
  final : {j w : ℕ} {e : Event} {es : List Event} → accepts t e ≡ false → writes t e ≡ true → counts e ≡ true
      → Right j e → suc j ≡ m → Quiet t es → Watch t m Right j w (e ∷ es)

quiet_none : {t : ℕ} (xs ys : List Event) → Quiet t (xs ++ ys) → packets t xs ≡ []
quiet_none [] ys q = refl
quiet_none (x ∷ xs) ys (again a) = rw a
quiet_none (x ∷ xs) ys (skip a b q) = rw (a, b) (quiet_none xs ys q)

quiet_all : {t : ℕ} (es : List Event) → Quiet t es → packets t es ≡ []
quiet_all es q = quiet_none es [] (rw append-nil q)

pub head_eq : {x y : Event} {xs ys : List Event} → x ∷ xs ≡ y ∷ ys → x ≡ y
head_eq e = cc

pub tail_eq : {x y : Event} {xs ys : List Event} → x ∷ xs ≡ y ∷ ys → xs ≡ ys
tail_eq e = cc

-- an empty list has no element to split at
pub nothing_in : {A : Type 0} (xs ys : List Event) (e : Event) → [] ≡ xs ++ e ∷ ys → A
nothing_in xs ys e x = absurd (omega (arith, simp length-append at (ap length x)))

at_once : (Right : ℕ → Event → Type 0) (j : ℕ) {e e' : Event} → counts e ≡ true → Right j e → e ≡ e' → (counts e' ≡ true) × Right (j + 0) e'
at_once Right j c r q = subst (λ (z : Event). (counts z ≡ true) × Right (j + 0) z) q (c, rw add-zero r)

module _ {t m : ℕ} {Right : ℕ → Event → Type 0} where
  -- at most the packets that are due are written
  pub bound : {j w : ℕ} (xs ys : List Event) → Watch t m Right j w (xs ++ ys) → j < m → j + length (packets t xs) ≤ m
  bound [] ys v h = omega arith
  bound (x ∷ xs) ys (other a b c v) h = rw (a, b) (bound xs ys v h)
  bound (x ∷ xs) ys (passed a b c l v) h = rw (a, b) (bound xs ys v h)
  bound (x ∷ xs) ys (packet a b c r l v) h = rw (a, b) (omega (arith, bound xs ys v l))
  bound (x ∷ xs) ys (final a b c r l q) h = rw (a, b, quiet_none xs ys q) (omega arith)

  -- while a packet is due, at most three slots more counted than four for each packet
  pub pace : {j w : ℕ} (xs ys : List Event) → Watch t m Right j w (xs ++ ys) → w ≤ 3 → j + length (packets t xs) < m
      → w + length (slots xs) ≤ 4 * length (packets t xs) + 3
  pace [] ys v h l = omega arith
  pace (x ∷ xs) ys (other a b c v) h l = rw (a, b, c) (pace xs ys v h (rw (a, b) at l))
  pace (x ∷ xs) ys (passed a b c i v) h l = rw (a, b, c) (omega (arith, pace xs ys v i (rw (a, b) at l)))
  pace {j} (x ∷ xs) ys (packet a b c r i v) h l =
      let l' : suc j + length (packets t xs) < m = omega (arith, rw (a, b) at l) in
      rw (a, b, c) (omega (arith, pace xs ys v zero-le l'))
  pace {j} (x ∷ xs) ys (final a b c r i q) h l =
      let l' : j + 1 < m = rw (a, b, quiet_none xs ys q) at l in
      absurd (omega arith)

  -- so four slots that count bring one
  pub soon : {j w : ℕ} (xs ys zs : List Event) → Watch t m Right j w (xs ++ (ys ++ zs)) → w ≤ 3 → j + length (packets t xs) < m
      → 4 ≤ length (slots ys) → length (packets t xs) < length (packets t (xs ++ ys))
  soon {j} {w} [] ys zs v h u s =
      by_lt 0 (length (packets t ys)) (λ l. l) (λ l. absurd (omega (arith, pace ys zs v h (omega arith))))
  soon (x ∷ xs) ys zs (other a b c v) h u s = rw (a, b) (soon xs ys zs v h (rw (a, b) at u) s)
  soon (x ∷ xs) ys zs (passed a b c i v) h u s = rw (a, b) (soon xs ys zs v i (rw (a, b) at u) s)
  soon {j} (x ∷ xs) ys zs (packet a b c r i v) h u s =
      let u' : suc j + length (packets t xs) < m = omega (arith, rw (a, b) at u) in
      rw (a, b) (omega (arith, soon xs ys zs v zero-le u' s))
  soon {j} (x ∷ xs) ys zs (final a b c r i q) h u s =
      let u' : j + 1 < m = rw (a, b, quiet_none xs (ys ++ zs) q) at u in
      absurd (omega arith)

  -- the packet after j others is right
  pub shows : {j w : ℕ} {es : List Event} → Watch t m Right j w es → (ps qs : List Event) (e : Event)
      → packets t es ≡ ps ++ e ∷ qs → (counts e ≡ true) × Right (j + length ps) e
  shows ended ps qs e x = nothing_in ps qs e x
  shows (other a b c v) ps qs e x = shows v ps qs e (rw (a, b) at x)
  shows (passed a b c i v) ps qs e x = shows v ps qs e (rw (a, b) at x)
  shows (packet {j = j} a b c r i v) [] qs e x = at_once Right j c r (head_eq (rw (a, b) at x))
  shows (packet {j = j} a b c r i v) (p ∷ ps) qs e x =
      let k : j + suc (length ps) ≡ suc j + length ps = omega arith in
      rw k (shows v ps qs e (tail_eq (rw (a, b) at x)))
  shows (final {j = j} a b c r i q) [] qs e x = at_once Right j c r (head_eq (rw (a, b) at x))
  shows (final {es = es} a b c r i q) (p ∷ ps) qs e x =
      nothing_in ps qs e (sym (quiet_all es q) ∙ tail_eq (rw (a, b) at x))
