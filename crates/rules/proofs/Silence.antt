-- After a cancel answered 0 no slot writes a packet with its number until a dump with that number is accepted again, from demand 2.
-- Assumes nothing.
use mathlib.Core.Path.{◌≡◌, ◌∙◌, refl, ap, sym, subst}
use mathlib.Core.Logic.{◌≢◌}
use mathlib.Core.Bool.{true, false, ◌&&◌}
use mathlib.Core.List.{List, [], ◌∷◌, ◌++◌}
use Prim.Native.Nat.{ℕ, ◌%◌, ◌≤◌}
use native.Mathlib.Omega.{arith}
use native.Mathlib.Decide.{ℕ_discrete}
use lib.Dec.{eqb}
use lib.ListN.{drop, take-append-drop}
use borrow.Author.Tests.{eqb-true, eq-eqb}
use Rattle.lists.proofs.Tests.{either, contra, and_left, and_right, by_lt}
use Rattle.wire.specs.Bytes.{AreBytes}
use Rattle.rules.specs.States.{start_up, context_at, busy_with, good_state}
use Rattle.rules.specs.Packets.{function_code_of, command_transaction, transaction_at}
use Rattle.rules.specs.Results.{answer_number, answer_length}
use Rattle.rules.specs.Commands.{CommandArgs, command_call}
use Rattle.rules.specs.Slots.{SlotArgs, next_words, packet_bytes, slot_call}
use Rattle.rules.specs.Demand2.{Demand2, IsAccepted, SlotDone}
use Rattle.rules.specs.Demand3.{Call, command, slot, LendsBytes, step, Event, events, dump, cancel, asked, is_dump, accepts, cancels, writes}
use Rattle.rules.specs.Silence.{number_at, Told, Wrote, NoneAccepted, Silence}
use Rattle.rules.specs.declared.ActiveDump.{ActiveDump}
use Rattle.rules.specs.declared.Context.{Context}
use Rattle.rules.specs.declared.Place.{Place}
use Rattle.rules.specs.declared.Range.{Range}
use Rattle.rules.specs.declared.State.{State}
use Rattle.rules.proofs.Good.{DumpIs, GoodIs, good_out, context_past}
use Rattle.rules.proofs.Passed.{passed_out}
use Rattle.rules.proofs.Allowed.{formed_out, decode_by_name}
use Rattle.rules.proofs.Asks.{asks, asked_is}
use Rattle.rules.proofs.ExactEffect.{demand_2}
use Rattle.rules.proofs.Shown.{served_dump, served_number}
use Rattle.rules.proofs.Watch.{Quiet, again, skip, head_eq, tail_eq, nothing_in}
use Rattle.rules.proofs.Laws.{NoneWith, Law, kept, accepted, cancelled, served, puts_at, none_quiet}
use Rattle.rules.proofs.Lawful.{made, Lawful, lawful, slot_lent, lends_rest, chain}
use Rattle.rules.proofs.PlainBytes.{plain_bytes}

-- THE CANCEL

-- in a good state no other place is busy with a busy place's number
good_alone : (s : State) → good_state s ≡ true → (t p q : ℕ) → q ≢ p → busy_with t (context_at s.places p) ≡ true
    → busy_with t (context_at s.places q) ≡ false
good_alone s good t p q ne h =
    let g : GoodIs s = good_out s good in
    let four = g.places.four in
    by_lt p 4
    (λ pl. by_lt q 4
    (λ ql. g.places.alone p q pl ql (λ e. ne (sym e)) t h)
    (λ l. rw (context_past s.places q (omega arith))))
    (λ l. absurd (contra h (rw (context_past s.places p (omega arith)))))

-- after a cancel no place is busy with its number
cancelled_none : (s : State) → good_state s ≡ true → (t : ℕ) {e : Event} {ps : List Place} {l : ℕ} → Law s.places s.last e ps l
    → cancels t e ≡ true → NoneWith t ps
cancelled_none s good t (kept x y se id) h = absurd (contra h (se.cancel t))
cancelled_none s good t (accepted p d pl ll hp fr x y po ask se co) h = absurd (contra h (se.cancel t))
cancelled_none s good t (cancelled p d hp x y se co) h =
    λ q. puts_at (λ (z : Context). busy_with t z ≡ false) x q
    (λ _. refl)
    (λ ne. good_alone s good t p q ne (rw hp (sym (se.cancel t) ∙ h)))
cancelled_none s good t (served k d kl hp before x y se co sh) h = absurd (contra h (se.cancel t))

-- WHAT THE BYTES SAY OF A CALL

-- a cancel told in bytes is seen as one
told_cancels : (t : ℕ) (e : Event) (cs : List Call) → LendsBytes (e.call ∷ cs) → Told 1 t e → cancels t e ≡ true
unfolding cancels
told_cancels t e cs b x =
    let p = x.args.packet in
    let bytes : AreBytes p = (subst (λ (c : Call). LendsBytes (c ∷ cs)) x.call b).0 in
    let a : asked e.call ≡ cancel (command_transaction p) =
    ap asked x.call ∙ (asked_is x.args).cancels (ap (λ (n : ℕ). n % 128) x.code_byte) in
    let n : command_transaction p ≡ t = (plain_bytes.command_fields p bytes).transaction ∙ x.number in
    rw (x.answered, a, n, eq-eqb t t refl)

module _ (s : State) (c : CommandArgs) (bytes : AreBytes c.packet) (t : ℕ) (h : IsAccepted s c) where
  -- an accepted command that asks for a dump with the number t is told so in bytes
  told_dump : (code : ℕ) (r : Range) → function_code_of c.packet ≡ code → asked (command c) ≡ dump (command_transaction c.packet) r
      → is_dump t (asked (command c)) ≡ true → Told code t (made s (command c))
  told_dump code r k a d =
      let f = formed_out c.packet (passed_out s c h).shape in
      let n : command_transaction c.packet ≡ t = eqb-true _ _ (rw a at d) in
      record {
        args = c;
        call = refl;
        code_byte = omega arith;
        number = sym (plain_bytes.command_fields c.packet bytes).transaction ∙ n;
        answered = h;
      }

  -- where it is not told so, it does not ask for one
  none_told : (Told 0 t (made s (command c)) → ⊥) × (Told 9 t (made s (command c)) → ⊥) → is_dump t (asked (command c)) ≡ true → ⊥
  none_told n d =
      let p = c.packet in
      elim (ℕ_discrete (function_code_of p) 0) [
        | yes k ↦ n.0 (told_dump 0 _ k ((asked_is c).dumps k) d)
        | no not-dump ↦ elim (ℕ_discrete (function_code_of p) 9) [
          | yes k ↦ n.1 (told_dump 9 _ k (asks c _ (decode_by_name p k)) d)
          | no not_named ↦ elim (ℕ_discrete (function_code_of p) 1) [
            | yes k ↦ contra d (rw ((asked_is c).cancels k))
            | no not-cancel ↦ contra d (rw ((asked_is c).other not-dump not-cancel not_named))
          ]
        ]
      ]

-- a call that is not told to be an accepted dump is not seen as one
none_accepts : (s : State) (c : Call) (cs : List Call) → LendsBytes (c ∷ cs) → (t : ℕ)
    → (Told 0 t (made s c) → ⊥) × (Told 9 t (made s c) → ⊥) → accepts t (made s c) ≡ false
unfolding accepts
none_accepts s (command c) cs b t n =
    let a = eqb (answer_number (command_call s c).answer) 0 in
    either (a && is_dump t (asked (command c)))
    (λ h. absurd (none_told s c b.0 t (eqb-true _ _ (and_left a _ h)) n (and_right a _ h)))
    (λ h. h)
none_accepts s (slot c) cs b t n = either (eqb (answer_number (slot_call s c).answer) 0) (λ h. rw h) (λ h. rw h)

-- the number in bytes 6 and 7 of a packet is its dump's
packet_number_at : (s : State) (tick : ℕ) (d : ActiveDump) (ws rest : List ℕ) → d.transaction ≤ 4095
    → number_at (packet_bytes s tick d ws ++ rest) 6 ≡ d.transaction
unfolding packet_bytes
packet_number_at s tick d ws rest h = omega arith

-- and so is that in the buffer that a slot leaves
served_number_at : (s : State) (c : SlotArgs) (x : SlotDone s c (slot_call s c)) → good_state s ≡ true
    → number_at (slot_call s c).buffer 6 ≡ x.dump.transaction
served_number_at s c x good =
    let d : DumpIs s.regions s.count x.dump = served_dump s c (slot_call s c) x good in
    let q = answer_length (slot_call s c).answer in
    rw (← take-append-drop q (slot_call s c).buffer, x.packet)
    (packet_number_at s c.tick x.dump (next_words s c.image x.dump) (drop q (slot_call s c).buffer) d.number)

-- a slot that wrote the number t in bytes is seen as one that writes it
wrote_writes : Demand2 → (s : State) → good_state s ≡ true → (t : ℕ) (c : Call) → Wrote t (made s c) → writes t (made s c) ≡ true
unfolding writes
wrote_writes D s good t (command c) w = let e = w.call in let z : ◌≡◌ {A = ℕ} 0 1 = cc in absurd (omega arith)
wrote_writes D s good t (slot c) w =
    let fit = slot_lent s c good w.answered in
    let x : SlotDone s c (slot_call s c) = (D.slot s c good fit.0 fit.1).done w.answered in
    let e : transaction_at (slot_call s c).buffer 6 ≡ t =
    served_number s c (slot_call s c) x good ∙ sym (served_number_at s c x good) ∙ w.number in
    rw (w.answered, e, eq-eqb t t refl)

-- a slot that wrote is not seen as an accepted dump
wrote_accepts_none : (t : ℕ) (e : Event) → Wrote t e → accepts t e ≡ false
unfolding accepts
wrote_accepts_none t e w = rw (w.answered, w.call)

-- THE CALLS AFTER IT

-- while quiet, a call that accepts no dump with the number writes none with it, and all stays quiet
quiet_now : {t : ℕ} {e : Event} {es : List Event} → Quiet t (e ∷ es) → accepts t e ≡ false → (writes t e ≡ false) × Quiet t es
quiet_now (again a) n = absurd (contra a n)
quiet_now (skip a b q) n = (b, q)

module _ (D : Demand2) (t : ℕ) where
  -- while quiet, no slot writes the number before a dump with it is accepted
  quiet_silent : (s : State) (cs : List Call) → good_state s ≡ true → LendsBytes cs → (between after : List Event) (f : Event)
      → events s cs ≡ between ++ f ∷ after → Quiet t (events s cs) → NoneAccepted t between → Wrote t f → ⊥
  quiet_silent s [] good b between after f x q n w = nothing_in between after f x
  quiet_silent s (c ∷ cs) good b [] after f x q n w =
      let wrote : Wrote t (made s c) = subst (Wrote t) (sym (head_eq x)) w in
      contra (wrote_writes D s good t c wrote) (quiet_now q (wrote_accepts_none t (made s c) wrote)).0
  quiet_silent s (c ∷ cs) good b (g ∷ gs) after f x q n w =
      let told : (Told 0 t (made s c) → ⊥) × (Told 9 t (made s c) → ⊥) = rw (head_eq x) (n [] gs g refl) in
      quiet_silent (step s c).state cs (lawful D s good c cs b).good (lends_rest c cs b) gs after f (tail_eq x)
      (quiet_now q (none_accepts s c cs b t told)).1
      (λ xs ys e y. n (g ∷ xs) ys e (ap (λ (z : List Event). g ∷ z) y)) w

  -- nor after a cancel with it
  cancel_silent : (s : State) (cs : List Call) → good_state s ≡ true → LendsBytes cs → (before between after : List Event) (e f : Event)
      → events s cs ≡ before ++ e ∷ (between ++ f ∷ after) → Told 1 t e → NoneAccepted t between → Wrote t f → ⊥
  cancel_silent s [] good b before between after e f x told n w = nothing_in before (between ++ f ∷ after) e x
  cancel_silent s (c ∷ cs) good b [] between after e f x told n w =
      let l : Lawful s c = lawful D s good c cs b in
      let h = told_cancels t (made s c) cs b (subst (Told 1 t) (sym (head_eq x)) told) in
      let rest = lends_rest c cs b in
      quiet_silent (step s c).state cs l.good rest between after f (tail_eq x)
      (none_quiet t (chain D (step s c).state cs l.good rest) (cancelled_none s good t l.law h)) n w
  cancel_silent s (c ∷ cs) good b (g ∷ gs) between after e f x told n w =
      cancel_silent (step s c).state cs (lawful D s good c cs b).good (lends_rest c cs b) gs between after e f (tail_eq x) told n w

-- over every list of calls from a fresh start
pub silence : Silence
silence rs n pools unit h calls bytes before between after e f t x told none wrote =
    cancel_silent demand_2 t (start_up rs n pools unit).state calls (demand_2.start_good rs n pools unit h) bytes before between after e f x told none wrote
