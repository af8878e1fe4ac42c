-- What one call may do to the four places, and what a chain of such calls does for one dump.
-- Assumes nothing.
use mathlib.Core.Path.{◌≡◌, ◌∙◌, refl, ap, sym, subst}
use mathlib.Core.Logic.{◌≢◌}
use mathlib.Core.Bool.{Bool, true, false}
use mathlib.Core.List.{List, [], ◌∷◌, ◌++◌}
use Prim.Native.Nat.{ℕ, suc, ◌+◌, ◌*◌, ◌-◌, ◌/◌, ◌%◌, ◌≤◌, ◌<◌}
use native.Mathlib.Omega.{arith}
use native.Mathlib.Nat.{mod-add-mod, mul-div_cancel_left}
use native.Mathlib.Decide.{ℕ_discrete}
use lib.Dec.{eqb}
use lib.ListN.{length}
use borrow.Author.Tests.{eqb-false, ne_eqb, eq-eqb}
use Rattle.lists.proofs.Tests.{either, by_lt, by_order}
use Rattle.rules.specs.declared.Place.{Place}
use Rattle.rules.specs.declared.ActiveDump.{ActiveDump}
use Rattle.rules.specs.declared.Range.{Range}
use Rattle.rules.specs.declared.Context.{Context}
use Rattle.rules.specs.declared.Context.TheVariants.{Idle, Busy}
use Rattle.rules.specs.States.{context_at, busy_with, piece_words}
use Rattle.rules.specs.Commands.{new_dump}
use Rattle.rules.specs.Slots.{place_after, after_packet}
use Rattle.rules.specs.Demand3.{Event, Accepted, accepts, cancels, writes, counts, packets, packets_due, Shows}
use Rattle.rules.proofs.Cover.{due_before, due_last}
use Rattle.rules.proofs.AfterPacket.{piece_some, moved, after_more, after_last}
use Rattle.rules.proofs.Watch.{Quiet, quiet, again, skip, Watch, ended, other, passed, packet, final}

-- THE FOUR LAWS: what a call may do to the places and to the last place served, and how that is seen from outside

-- place p does a, and every other place what it did
pub record Puts (ps : List Place) (p : ℕ) (a : Context) (ps' : List Place) : Type 0 where
  pub here : context_at ps' p ≡ a
  pub others : (q : ℕ) → q ≢ p → context_at ps' q ≡ context_at ps q

-- the numbers that a call accepts a dump with, cancels one with, and writes a packet with
pub record Seen (e : Event) (a c w : ℕ → Bool) : Type 0 where
  pub accept : (t : ℕ) → accepts t e ≡ a t
  pub cancel : (t : ℕ) → cancels t e ≡ c t
  pub write : (t : ℕ) → writes t e ≡ w t

abbrev pub never : ℕ → Bool
never t = false

abbrev pub its : ActiveDump → ℕ → Bool
its d t = eqb d.transaction t

-- no place is busy with the number t
abbrev pub NoneWith : ℕ → List Place → Type 0
NoneWith t ps = (q : ℕ) → busy_with t (context_at ps q) ≡ false

pub data Law (ps : List Place) (l : ℕ) (e : Event) (ps' : List Place) (l' : ℕ) : Type 0 where
  -- nothing; where a slot counts, that is because all places are idle
  kept : ps' ≡ ps → l' ≡ l → Seen e never never never → (counts e ≡ true → (q : ℕ) → context_at ps q ≡ Idle) → Law ps l e ps' l'
  -- a dump whose number no place has comes into an idle place
  accepted : (p : ℕ) (d : ActiveDump) → p < 4 → l < 4 → context_at ps p ≡ Idle → NoneWith d.transaction ps
      → Puts ps p (Busy d) ps' → l' ≡ l → 0 < d.range.words
      → ((t : ℕ) (r : Range) → Accepted t r e → d ≡ new_dump t r)
      → Seen e (its d) never never → counts e ≡ false
      → Law ps l e ps' l'
  -- the place of a dump becomes idle
  cancelled : (p : ℕ) (d : ActiveDump) → context_at ps p ≡ Busy d → Puts ps p Idle ps' → l' ≡ l
      → Seen e never (its d) never → counts e ≡ false
      → Law ps l e ps' l'
  -- the first busy place after the last is served
  served : (k : ℕ) (d : ActiveDump) → k < 4 → context_at ps (place_after l k) ≡ Busy d
      → ((i : ℕ) → i < k → context_at ps (place_after l i) ≡ Idle)
      → Puts ps (place_after l k) (after_packet d) ps' → l' ≡ place_after l k
      → Seen e never never (its d) → counts e ≡ true
      → Shows d.range (d.sent / piece_words d.range) e
      → Law ps l e ps' l'

-- lawful calls, each handed the places that the one before it left
pub data Chain : List Place → ℕ → List Event → Type 0 where
  done : {ps : List Place} {l : ℕ} → Chain ps l []
  next : {ps : List Place} {l : ℕ} {e : Event} {es : List Event} (ps' : List Place) (l' : ℕ)
      → Law ps l e ps' l' → Chain ps' l' es → Chain ps l (e ∷ es)

-- PLACES

-- what holds of what a place does after a change
pub puts_at : (P : Context → Type 0) {ps ps' : List Place} {p : ℕ} {a : Context} → Puts ps p a ps' → (q : ℕ)
    → (q ≡ p → P a) → (q ≢ p → P (context_at ps q)) → P (context_at ps' q)
puts_at P {ps} {ps'} {p} {a} x q f g =
    elim (ℕ_discrete q p) [ yes e ↦ rw (e, x.here) (f e) | no e ↦ rw (x.others q e) (g e) ]

none_puts : (t : ℕ) {ps ps' : List Place} {p : ℕ} {a : Context} → NoneWith t ps → busy_with t a ≡ false → Puts ps p a ps' → NoneWith t ps'
none_puts t n b x q = puts_at (λ (y : Context). busy_with t y ≡ false) x q (λ _. b) (λ _. n q)

idle_busy : {a : Context} {d : ActiveDump} → a ≡ Busy d → a ≡ Idle → ⊥
idle_busy p q = let z : ◌≡◌ {A = ℕ} 0 1 = cc in omega arith

same_busy : {a : Context} {d d' : ActiveDump} → a ≡ Busy d → a ≡ Busy d' → d ≡ d'
same_busy p q = cc

-- THE DUMP AFTER ITS PACKET

after_other : (t : ℕ) (d : ActiveDump) → eqb d.transaction t ≡ false → busy_with t (after_packet d) ≡ false
after_other t d h =
    by_lt (d.sent + piece_words d.range) d.range.words (λ o. rw (after_more d o) h) (λ o. rw (after_last d o))

-- ONE DUMP

-- once no place has the number, no packet has it before a dump with that number is accepted again
pub none_quiet : (t : ℕ) {ps : List Place} {l : ℕ} {es : List Event} → Chain ps l es → NoneWith t ps → Quiet t es
none_quiet t done n = quiet
none_quiet t (next ps' l' (kept x y se id) c) n = skip (se.accept t) (se.write t) (none_quiet t c (rw x n))
none_quiet t (next ps' l' (accepted p d pl ll hp fr x y po ask se co) c) n =
    either (its d t)
    (λ h. again (se.accept t ∙ h))
    (λ h. skip (se.accept t ∙ h) (se.write t) (none_quiet t c (none_puts t n h x)))
none_quiet t (next ps' l' (cancelled p d hp x y se co) c) n =
    skip (se.accept t) (se.write t) (none_quiet t c (none_puts t n refl x))
none_quiet t (next {l = l} ps' l' (served k d kl hp before x y se co sh) c) n =
    let h : its d t ≡ false = rw hp at (n (place_after l k)) in
    skip (se.accept t) (se.write t ∙ h) (none_quiet t c (none_puts t n (after_other t d h) x))

-- Place p has the dump of the range r with number t, j packets of which were written, and no other place has its number.
pub record Mine (t : ℕ) (r : Range) (j p : ℕ) (ps : List Place) : Type 0 where
  pub d : ActiveDump
  pub here : context_at ps p ≡ Busy d
  pub number : d.transaction ≡ t
  pub range : d.range ≡ r
  pub sent : d.sent ≡ piece_words r * j
  pub due : piece_words r * j < r.words
  pub alone : (q : ℕ) → q ≢ p → busy_with t (context_at ps q) ≡ false

-- It is v places after the last one served, going round, and w slots counted since its last packet.
pub record Near (p l v w : ℕ) : Type 0 where
  pub from_last : p ≡ (l + v) % 4
  pub ahead : 0 < v
  pub in_time : v + w ≤ 4

-- when the place after k others was served, and p comes later, p is that much nearer
near_next : (p l v w k : ℕ) → Near p l v w → suc k < v → Near p (place_after l k) (v - suc k) (suc w)
near_next p l v w k nr o =
    let sum : l + 1 + k + (v - suc k) ≡ l + v = omega arith in
    record {
      from_last = nr.from_last ∙ ap (λ (z : ℕ). z % 4) (sym sum) ∙ sym (mod-add-mod (l + 1 + k) 4 (v - suc k));
      ahead = omega arith;
      in_time = omega arith;
    }

-- j packets were written before, and no cancel with its number is accepted before the m that are due
pub record UncancelledFrom (t m j : ℕ) (es : List Event) : Type 0 where
  pub all : (xs ys : List Event) (e : Event) → es ≡ xs ++ e ∷ ys → cancels t e ≡ true → m ≤ j + length (packets t xs)

module _ {t m j : ℕ} {e : Event} {es : List Event} where
  uncancelled_skip : accepts t e ≡ false → writes t e ≡ false → UncancelledFrom t m j (e ∷ es) → UncancelledFrom t m j es
  uncancelled_skip a b un =
      record { all = λ xs ys e' q h. rw (a, b) at (un.all (e ∷ xs) ys e' (ap (λ (z : List Event). e ∷ z) q) h) }

  uncancelled_packet : accepts t e ≡ false → writes t e ≡ true → UncancelledFrom t m j (e ∷ es) → UncancelledFrom t m (suc j) es
  uncancelled_packet a b un =
      record { all = λ xs ys e' q h. omega (arith, rw (a, b) at (un.all (e ∷ xs) ys e' (ap (λ (z : List Event). e ∷ z) q) h)) }

  uncancelled_now : UncancelledFrom t m j (e ∷ es) → cancels t e ≡ true → m ≤ j
  uncancelled_now un h = omega (arith, un.all [] es e refl h)

module _ (t : ℕ) (r : Range) where
  module _ {j p : ℕ} {ps : List Place} (m : Mine t r j p ps) where
    -- another place changes, to what has another number
    mine_other : {ps' : List Place} (p' : ℕ) {a : Context} → p ≢ p' → busy_with t a ≡ false → Puts ps p' a ps' → Mine t r j p ps'
    mine_other p' ne b x =
        record {
          d = m.d;
          here = x.others p ne ∙ m.here;
          number = m.number;
          range = m.range;
          sent = m.sent;
          due = m.due;
          alone = λ q qp. puts_at (λ (y : Context). busy_with t y ≡ false) x q (λ _. b) (λ _. m.alone q qp);
        }

    -- after its packet, where another is due
    mine_next : {ps' : List Place} → Puts ps p (after_packet m.d) ps' → piece_words r * suc j < r.words → Mine t r (suc j) p ps'
    mine_next x more =
        let more' : m.d.sent + piece_words m.d.range < m.d.range.words = rw m.range (omega arith) in
        record {
          d = moved m.d;
          here = x.here ∙ after_more m.d more';
          number = m.number;
          range = m.range;
          sent = rw m.range (omega arith);
          due = more;
          alone = λ q qp. puts_at (λ (y : Context). busy_with t y ≡ false) x q (λ e. absurd (qp e)) (λ _. m.alone q qp);
        }

    -- and after its last
    mine_over : {ps' : List Place} → Puts ps p (after_packet m.d) ps' → r.words ≤ piece_words r * suc j → NoneWith t ps'
    mine_over x less q =
        let less' : m.d.range.words ≤ m.d.sent + piece_words m.d.range = rw m.range (omega arith) in
        puts_at (λ (y : Context). busy_with t y ≡ false) x q (λ _. rw (after_last m.d less')) (λ ne. m.alone q ne)

    -- what its packet shows
    mine_shows : (e : Event) → Shows m.d.range (m.d.sent / piece_words m.d.range) e → Shows r j e
    mine_shows e sh = simp (m.range, m.sent, mul-div_cancel_left j (piece_some r)) at sh

  pub watch : {ps : List Place} {l : ℕ} {es : List Event} (j p v w : ℕ) → Chain ps l es → Mine t r j p ps → Near p l v w
      → UncancelledFrom t (packets_due r) j es → Watch t (packets_due r) (Shows r) j w es
  watch j p v w done m nr un = ended
  watch j p v w (next {e = e} ps' l' (kept x y se id) c) m nr un =
      either (counts e)
      (λ h. absurd (idle_busy m.here (id h p)))
      (λ h. other (se.accept t) (se.write t) h (watch j p v w c (rw x m) (rw y nr) (uncancelled_skip (se.accept t) (se.write t) un)))
  watch j p v w (next ps' l' (accepted p' d pl ll hp fr x y po ask se co) c) m nr un =
      let f : eqb m.d.transaction d.transaction ≡ false = rw m.here at (fr p) in
      let h : its d t ≡ false = ne_eqb _ _ (λ q. eqb-false _ _ f (m.number ∙ sym q)) in
      let ne : p ≢ p' = λ q. idle_busy m.here (rw q hp) in
      other (se.accept t ∙ h) (se.write t) co
      (watch j p v w c (mine_other m p' ne h x) (rw y nr) (uncancelled_skip (se.accept t ∙ h) (se.write t) un))
  watch j p v w (next {ps = ps} ps' l' (cancelled p' d hp x y se co) c) m nr un =
      either (its d t)
      (λ h. absurd (omega (arith, uncancelled_now un (se.cancel t ∙ h), due_before (piece_words r) (piece_some r) j r.words m.due)))
      (λ h.
      let ne : p ≢ p' = λ q.
      let k : d ≡ m.d = same_busy hp (ap (context_at ps) (sym q) ∙ m.here) in
      eqb-false _ _ h (ap (λ (z : ActiveDump). z.transaction) k ∙ m.number)
      in
      other (se.accept t) (se.write t) co
      (watch j p v w c (mine_other m p' ne refl x) (rw y nr) (uncancelled_skip (se.accept t) (se.write t) un)))
  watch j p v w (next {ps = ps} {l = l} {e = e} ps' l' (served k d kl hp before x y se co sh) c) m nr un =
      by_order (suc k) v
      (λ o.
      let ne : p ≢ place_after l k = omega arith in
      let h : its d t ≡ false = rw hp at (m.alone (place_after l k) (λ q. ne (sym q))) in
      let nr' : Near p l' (v - suc k) (suc w) = rw y (near_next p l v w k nr o) in
      passed (se.accept t) (se.write t ∙ h) co (omega arith)
      (watch j p (v - suc k) (suc w) c (mine_other m (place_after l k) ne (after_other t d h) x) nr'
      (uncancelled_skip (se.accept t) (se.write t ∙ h) un)))
      (λ o.
      let q : place_after l (v - 1) ≡ p = omega arith in
      absurd (idle_busy m.here (rw (← q) (before (v - 1) (omega arith)))))
      (λ o.
      let q : place_after l k ≡ p = omega arith in
      let i : d ≡ m.d = same_busy hp (ap (context_at ps) q ∙ m.here) in
      let h : its d t ≡ true = eq-eqb _ _ (ap (λ (z : ActiveDump). z.transaction) i ∙ m.number) in
      let x' : Puts ps p (after_packet m.d) ps' = rw (← q, ← i) x in
      let sh' : Shows r j e = mine_shows m e (subst (λ (z : ActiveDump). Shows z.range (z.sent / piece_words z.range) e) i sh) in
      by_lt (piece_words r * suc j) r.words
      (λ more.
      let nr' : Near p l' 4 0 = omega arith in
      packet (se.accept t) (se.write t ∙ h) co sh' (due_before (piece_words r) (piece_some r) (suc j) r.words more)
      (watch (suc j) p 4 0 c (mine_next m x' more) nr' (uncancelled_packet (se.accept t) (se.write t ∙ h) un)))
      (λ less.
      final (se.accept t) (se.write t ∙ h) co sh'
      (due_last (piece_words r) (piece_some r) j r.words m.due (omega arith))
      (none_quiet t c (mine_over m x' less))))
