-- The packets of a dump from any list of calls are a whole dump, and so pass in any order.
-- Assumes nothing.
use mathlib.Core.Path.{◌≡◌, ◌∙◌, refl, ap, sym, subst, subst⁻¹}
use mathlib.Core.Bool.{true, ◌&&◌}
use mathlib.Core.List.Permᴰ
use mathlib.Core.List.{List, [], ◌∷◌, ◌++◌, map, append_assoc}
use Prim.Native.Nat.{ℕ, suc, ◌+◌, ◌/◌, ◌%◌}
use native.Mathlib.Nat.{zero-add, add-zero}
use native.Mathlib.Omega.{arith}
use lib.Dec.{eqb}
use lib.ListN.{length, length-map}
use borrow.Author.Tests.{eqb-true}
use Rattle.lists.proofs.Tests.{either, contra, and_left, and_right}
use Rattle.wire.proofs.ByByte.{at_two, in_four}
use Rattle.rules.specs.Regions.{start_of}
use Rattle.rules.specs.States.{start_up, piece_words, good_state}
use Rattle.rules.specs.Packets.{transaction_at}
use Rattle.rules.specs.Results.{answer_number}
use Rattle.rules.specs.Slots.{slot_call}
use Rattle.rules.specs.Ground.{PacketRead, packet_number}
use Rattle.rules.specs.Demand3.{Call, command, slot, Event, accepts, writes, counts, packets, packet_in, Shows}
use Rattle.rules.specs.ReadBack.{packet_of}
use Rattle.rules.specs.declared.Range.{Range}
use Rattle.rules.specs.declared.State.{State}
use Rattle.rules.proofs.ExactEffect.{demand_2}
use Rattle.rules.proofs.Lawful.{made, counts_out, chain, Handed, handed}
use Rattle.rules.proofs.PacketTests.{packet_in_lem}
use Rattle.rules.proofs.Served.{chain_served}
use Rattle.rules.proofs.SlotRead.{slot_readable}
use Rattle.rules.proofs.Watch.{head_eq, tail_eq, nothing_in}
use Rattle.batches.proofs.Lists.{along}
use Rattle.whole_dump.specs.Check.{check_dump}
use Rattle.whole_dump.specs.Whole.{back_to_back, lengths_of, IsPiece, InOrder, WholeDump}
use Rattle.whole_dump.specs.FromCalls.{PassesInAnyOrder, OwnDumpsPass, OwnDumpsPassWithBatches}

-- THE DUMP'S PACKETS ARE CALLS

-- what holds of the first event, and of each of the others, holds of each
first_or_later : (P : Event → Type 0) {y e : Event} {es qs : List Event} → P y → ((ps : List Event) → es ≡ ps ++ e ∷ qs → P e)
    → (ps : List Event) → y ∷ es ≡ ps ++ e ∷ qs → P e
first_or_later P f g [] x = subst P (head_eq x) f
first_or_later P f g (p ∷ ps) x = g ps (tail_eq x)

-- a packet of the dump is one of the calls, with what holds of each, and writes the number t
packet_call : (P : Event → Type 0) (t : ℕ) (es : List Event) → ((xs ys : List Event) (e : Event) → es ≡ xs ++ e ∷ ys → P e)
    → (ps qs : List Event) (e : Event) → packets t es ≡ ps ++ e ∷ qs → P e × (writes t e ≡ true)
packet_call P t [] f ps qs e x = nothing_in ps qs e x
packet_call P t (y ∷ es) f ps qs e x =
    let later : (ps : List Event) → packets t es ≡ ps ++ e ∷ qs → P e × (writes t e ≡ true) = λ ps.
    packet_call P t es (λ xs ys e z. f (y ∷ xs) ys e (ap (λ (l : List Event). y ∷ l) z)) ps qs e
    in
    either (accepts t y)
    (λ a. nothing_in ps qs e (rw a at x))
    (λ a.
    either (writes t y)
    (λ w. first_or_later (λ (z : Event). P z × (writes t z ≡ true)) (f [] es y refl, w) later ps (rw (a, w) at x))
    (λ w. later ps (rw (a, w) at x)))

-- EACH IS A PIECE

module _ (t : ℕ) (r : Range) where
  made_piece : (s : State) (c : Call) (j : ℕ) → good_state s ≡ true → writes t (made s c) ≡ true → counts (made s c) ≡ true → Shows r j (made s c)
      → IsPiece s.unit t r j (packet_in (made s c))
  unfolding writes counts piece_words
  made_piece s (command c) j good w k sh = absurd (contra k refl)
  made_piece s (slot c) j good w k sh =
      let fit = counts_out s c k in
      let done = eqb (answer_number (slot_call s c).answer) 0 in
      let number = eqb (transaction_at (slot_call s c).buffer 6) t in
      let p = packet_of s c in
      let x = slot_readable s c good fit.0 fit.1 (eqb-true _ _ (and_left done true (and_left (done && true) number w))) in
      record {
        is_read_lem = ap (λ (z : PacketRead). packet_number z.reading) (packet_in_lem p x.packet);
        unit_is = ap (λ (n : ℕ). n / 4096) (sym (at_two p 6)) ∙ x.unit;
        transaction_is = ap (λ (n : ℕ). n % 4096) (sym (at_two p 6)) ∙ x.number ∙ eqb-true _ _ (and_right (done && true) number w);
        address = in_four p 12 _ (ap start_of sh.request);
        words = in_four p 16 _ (ap (λ (z : Range). z.words) sh.request);
        here = in_four p 20 _ sh.address;
      }

  is_piece : (s : State) (e : Event) (j : ℕ) → Handed s e → writes t e ≡ true → counts e ≡ true → Shows r j e
      → IsPiece s.unit t r j (packet_in e)
  is_piece s e j h =
      let q : e ≡ made e.given e.call = λ i. record { given = e.given; call = e.call; out = h.out i } in
      subst⁻¹ (λ (z : Event). writes t z ≡ true → counts z ≡ true → Shows r j z → IsPiece s.unit t r j (packet_in z)) q
      (rw (← h.unit) (made_piece e.given e.call j h.good))

  in_order_lem : (unit : ℕ) (es : List Event) (j : ℕ)
      → ((ps qs : List Event) (e : Event) → es ≡ ps ++ e ∷ qs → IsPiece unit t r (j + length ps) (packet_in e))
      → InOrder unit t r j (map packet_in es)
  in_order_lem unit [] j f = tt
  in_order_lem unit (e ∷ es) j f = (
    rw add-zero at (f [] es e refl),
    in_order_lem unit es (suc j)
        (λ ps qs e' x.
        let k : suc j + length ps ≡ j + suc (length ps) = omega arith in
        rw k (f (e ∷ ps) qs e' (ap (λ (l : List Event). e ∷ l) x))),
  )

pub own_dumps_pass : ((ps : List (List ℕ)) → WholeDump ps → check_dump (back_to_back ps) (lengths_of ps) ≡ 0) → OwnDumpsPass
own_dumps_pass whole rs n pools unit h calls bytes before after e t r x a un all ps order =
    let s = (start_up rs n pools unit).state in
    let good = demand_2.start_good rs n pools unit h in
    let served = chain_served t r before (rw x at (chain demand_2 s calls good bytes)) a un in
    let most = served.1.most in
    let call : (xs ys : List Event) (y : Event) → after ≡ xs ++ y ∷ ys → Handed s y = λ xs ys y q.
    handed demand_2 s calls good bytes (before ++ e ∷ xs) ys y
    (x ∙ ap (λ (l : List Event). before ++ e ∷ l) q ∙ sym (append_assoc before (e ∷ xs) (y ∷ ys)))
    in
    let piece : (qs zs : List Event) (y : Event) → packets t after ≡ qs ++ y ∷ zs → IsPiece s.unit t r (0 + length qs) (packet_in y) =
    λ qs zs y z.
    let c = packet_call (Handed s) t after call qs zs y z in
    let k = served.1.shows qs zs y z in
    rw zero-add (is_piece t r s y (length qs) c.0 c.1 k.0 k.1)
    in
    whole ps
    (record {
      unit = s.unit;
      transaction = t;
      range = r;
      some = served.0;
      ordered = map packet_in (packets t after);
      order = Permᴰ.symm order;
      each = in_order_lem t r s.unit (packets t after) 0 piece;
      all = length-map (packets t after) packet_in ∙ omega arith;
    })

-- the events of a list with batches are those of a list of single calls
pub with_batches : OwnDumpsPass → OwnDumpsPassWithBatches
with_batches O rs n pools unit h xs bytes =
    let t = along (start_up rs n pools unit).state xs bytes in
    subst⁻¹ PassesInAnyOrder t.are (O rs n pools unit h t.calls t.bytes)
