-- Every call of a good state is lawful and leaves a good state with its table and unit, by demand 2; the value of a symbol by what its call leaves.
-- Assumes nothing.
use Rattle.std.specs.Prelude.{Some, Result, Ok, Err}
use mathlib.Core.Path.{◌≡◌, ◌∙◌, refl, ap, ap₂, sym}
use mathlib.Core.Logic.{◌≢◌}
use mathlib.Core.Bool.{true, false}
use mathlib.Core.List.{List, [], ◌∷◌, ◌++◌}
use Prim.Native.Nat.{ℕ, ◌≤◌, ◌<◌}
use native.Mathlib.Omega.{arith}
use native.Mathlib.Decide.{ℕ_discrete}
use lib.Dec.{leb, ltb, eqb}
use lib.ListN.{length}
use borrow.Author.Tests.{leb-true, le-leb, ltb-false, eqb-true, eq-eqb, ne_eqb}
use Rattle.lists.proofs.Tests.{either, contra, and_left, and_right, and_both, by_lt}
use Rattle.wire.specs.Bytes.{AreBytes}
use Rattle.rules.specs.Regions.{image_length}
use Rattle.rules.specs.States.{context_at, busy_with, good_state}
use Rattle.rules.specs.Packets.{function_code_of, decode, request_of, name_size_of, symbol_request_of, command_transaction, transaction_at}
use Rattle.rules.specs.Pools.{Walk, damaged, whole, blocks_of}
use Rattle.rules.specs.Results.{counted, answer_number, lowest, lent_rows}
use Rattle.rules.specs.Commands.{CommandArgs, Outcome, task, command_rows, changed, refused_more, refused_command, new_dump, pool_words, replied, carry_out, conclude, command_call}
use Rattle.rules.specs.Slots.{SlotArgs, longest_packet, slot_rows, next_place, serve, conclude_slot, slot_call}
use Rattle.rules.specs.Demand2.{Demand2, IsAccepted, AcceptedWhen, OnePlace, after_command, DumpDone, CancelDone, SlotDone}
use Rattle.rules.specs.Cases.{range_of, range_from, pool_of, NumberFree}
use Rattle.rules.specs.Demand3.{Call, command, slot, LendsBytes, step, Event, events, Asked, nothing, dump, cancel, asked, is_dump, is_cancel, accepts, cancels, writes, counts}
use Rattle.rules.specs.declared.ActiveDump.{ActiveDump}
use Rattle.rules.specs.declared.Place.{Place}
use Rattle.rules.specs.declared.Range.{Range}
use Rattle.rules.specs.declared.Context.{Context}
use Rattle.rules.specs.declared.Context.TheVariants.{Idle, Busy}
use Rattle.rules.specs.declared.State.{State}
use Rattle.rules.specs.declared.Command.TheVariants.{Dump, Cancel, Load, PoolStatistics, SymbolValue, DumpSymbol}
use Rattle.rules.specs.declared.Task.{Task}
use Rattle.rules.specs.declared.Task.TheVariants.{Nothing, DumpRange, CancelDump, LoadRange, CountPool, TellValue}
use Rattle.rules.specs.declared.Refusal.{Refusal}
use Rattle.rules.specs.declared.Refusal.TheVariants.{UnknownCode, PoolDamaged}
use Rattle.rules.proofs.Good.{GoodIs, good_out, busy_dump, context_past}
use Rattle.rules.proofs.Passed.{passed_out}
use Rattle.rules.proofs.Asks.{asks}
use Rattle.rules.proofs.Allowed.{range_named}
use Rattle.rules.proofs.Effects.{call_is}
use Rattle.rules.proofs.Watch.{head_eq, tail_eq, nothing_in}
use Rattle.rules.proofs.Laws.{Puts, Seen, never, its, Law, kept, accepted, cancelled, served, Chain, done, next}
use Rattle.rules.proofs.Shown.{served_number, served_shows}

-- a call of the state s, as it is made
abbrev pub made : State → Call → Event
made s c = record { given = s; call = c; out = step s c }

pub record Lawful (s : State) (c : Call) : Type 0 where
  pub law : Law s.places s.last (made s c) (step s c).state.places (step s c).state.last
  pub regions : (step s c).state.regions ≡ s.regions
  pub count : (step s c).state.count ≡ s.count
  pub unit : (step s c).state.unit ≡ s.unit
  pub good : good_state (step s c).state ≡ true

-- a call whose number is not 0 is seen as nothing
seen_refused : (e : Event) → answer_number e.out.answer ≢ 0 → Seen e never never never
unfolding accepts cancels writes
seen_refused e n =
    let f : eqb (answer_number e.out.answer) 0 ≡ false = ne_eqb _ _ n in
    record { accept = λ t. rw f; cancel = λ t. rw f; write = λ t. rw f }

-- COMMANDS

-- a command whose number is 0 is seen as what it asks
seen_command : (s : State) (c : CommandArgs) (a : Asked) → IsAccepted s c → asked (command c) ≡ a
    → Seen (made s (command c)) (λ t. is_dump t a) (λ t. is_cancel t a) never
unfolding accepts cancels writes
seen_command s c a h e =
    let f : eqb (answer_number (command_call s c).answer) 0 ≡ true = eq-eqb _ _ h in
    record { accept = λ t. rw (f, e); cancel = λ t. rw (f, e); write = λ t. rw f }

same_asked : {t u : ℕ} {r r' : Range} → dump t r ≡ dump u r' → new_dump t r ≡ new_dump u r'
same_asked {t} {u} {r} {r'} e =
    let x : t ≡ u = cc in
    let y : r ≡ r' = cc in
    ap₂ new_dump x y

-- what each function code is decoded to
by_code : {C : Type 0} (p : List ℕ)
    → (function_code_of p ≡ 0 → decode p ≡ Some (Dump (request_of p)) → C)
    → (function_code_of p ≡ 1 → decode p ≡ Some Cancel → C)
    → (function_code_of p ≡ 4 → decode p ≡ Some (Load (request_of p)) → C)
    → (function_code_of p ≡ 7 → decode p ≡ Some (PoolStatistics (pool_of p)) → C)
    → (decode p ≡ Some (SymbolValue (name_size_of p)) → C)
    → (function_code_of p ≡ 9 → decode p ≡ Some (DumpSymbol (symbol_request_of p)) → C)
    → (function_code_of p ≢ 0 → function_code_of p ≢ 1 → function_code_of p ≢ 4 → function_code_of p ≢ 7
    → function_code_of p ≢ 8 → function_code_of p ≢ 9 → C)
    → C
unfolding decode
by_code p dumps cancels loads pools values by_names others =
    let k = function_code_of p in
    elim (ℕ_discrete k 0) [
      | yes e ↦ dumps e (rw e)
      | no n0 ↦ elim (ℕ_discrete k 1) [
        | yes e ↦ cancels e (rw e)
        | no n1 ↦ elim (ℕ_discrete k 4) [
          | yes e ↦ loads e (rw e)
          | no n4 ↦ elim (ℕ_discrete k 7) [
            | yes e ↦ pools e (rw e)
            | no n7 ↦ elim (ℕ_discrete k 8) [
              | yes e ↦ values (rw e)
              | no n8 ↦ elim (ℕ_discrete k 9) [
                | yes e ↦ by_names e (rw e)
                | no n9 ↦ others n0 n1 n4 n7 n8 n9
              ]
            ]
          ]
        ]
      ]
    ]

-- the last place served, the table and the unit stay under every command
record Stays (s s' : State) : Type 0 where
  last : s'.last ≡ s.last
  regions : s'.regions ≡ s.regions
  count : s'.count ≡ s.count
  unit : s'.unit ≡ s.unit

-- under an accepted one
after_stays : (s : State) {s' : State} {ps : List Place} {replies values : ℕ} → s' ≡ after_command s ps replies values → Stays s s'
after_stays s e =
    record {
      last = ap (λ (z : State). z.last) e;
      regions = ap (λ (z : State). z.regions) e;
      count = ap (λ (z : State). z.count) e;
      unit = ap (λ (z : State). z.unit) e;
    }

-- and under a refused one, with the places
abbrev AllStays : State → State → Type 0
AllStays s s' = Stays s s' × (s'.places ≡ s.places)

changed_stays : (s : State) (w x y z : ℕ) → AllStays s (changed s s.places w x y z)
changed_stays s w x y z = (record { last = refl; regions = refl; count = refl; unit = refl }, refl)

refused_stays : (s : State) (c : CommandArgs) → answer_number (command_call s c).answer ≢ 0 → AllStays s (command_call s c).state
unfolding command_call
refused_stays s c = concluded (lowest (command_rows s c))
  where
    refusal : (r : Refusal) → AllStays s (refused_command s c r).state
    refusal r =
        either (counted r)
        (λ e. rw e (changed_stays s s.replies s.values s.accepted (refused_more s)))
        (λ e. rw e (changed_stays s s.replies s.values s.accepted s.refused))

    pool : (i : ℕ) (w : Walk) → answer_number (replied s c i w).answer ≢ 0 → AllStays s (replied s c i w).state
    pool i damaged n = refusal PoolDamaged
    pool i (whole bs) n = absurd (n refl)

    carried : (k : Task) → answer_number (carry_out s c k).answer ≢ 0 → AllStays s (carry_out s c k).state
    carried Nothing n = refusal UnknownCode
    carried (DumpRange r) n = absurd (n refl)
    carried CancelDump n = absurd (n refl)
    carried (LoadRange r) n = absurd (n refl)
    carried (CountPool i) n = pool i (blocks_of (pool_words s i c.image)) n
    carried (TellValue v) n = absurd (n refl)

    concluded : (v : Result (Unit {0}) Refusal) → answer_number (conclude s c v).answer ≢ 0 → AllStays s (conclude s c v).state
    concluded (Err r) n = refusal r
    concluded (Ok tt) n = carried (task c) n

command_counts_none : (s : State) (c : CommandArgs) → counts (made s (command c)) ≡ false
unfolding counts
command_counts_none s c = refl

-- SLOTS

-- a slot that writes a packet is seen as that
seen_slot : (s : State) (c : SlotArgs) (d : ActiveDump) → answer_number (slot_call s c).answer ≡ 0
    → transaction_at (slot_call s c).buffer 6 ≡ d.transaction → Seen (made s (slot c)) never never (its d)
unfolding accepts cancels writes
seen_slot s c d h e =
    let f : eqb (answer_number (slot_call s c).answer) 0 ≡ true = eq-eqb _ _ h in
    record { accept = λ t. rw f; cancel = λ t. rw f; write = λ t. rw (f, e) }

slot_refused : (s : State) (c : SlotArgs) → answer_number (slot_call s c).answer ≢ 0 → (slot_call s c).state ≡ s
unfolding slot_call
slot_refused s c = concluded (lowest (slot_rows s c))
  where
    turned : (p : ℕ) (a : Context) → answer_number (serve s c p a).answer ≢ 0 → (serve s c p a).state ≡ s
    turned p Idle n = refl
    turned p (Busy d) n = absurd (n refl)

    concluded : (v : Result (Unit {0}) Refusal) → answer_number (conclude_slot s c v).answer ≢ 0 → (conclude_slot s c v).state ≡ s
    concluded (Err r) n = refl
    concluded (Ok tt) n = turned (next_place s.places s.last) (context_at s.places (next_place s.places s.last)) n

-- what is lent to a slot that answers 0 is right
pub slot_lent : (s : State) (c : SlotArgs) → good_state s ≡ true → answer_number (slot_call s c).answer ≡ 0
    → (length c.image ≡ image_length s.regions s.count) × (longest_packet ≤ length c.buffer)
unfolding slot_call slot_rows lowest lent_rows
slot_lent s c g h =
    either (eqb (length c.image) (image_length s.regions s.count))
    (λ e. either (ltb (length c.buffer) longest_packet)
    (λ f. absurd (omega (arith, rw (g, e, f) at h)))
    (λ f. (eqb-true (length c.image) (image_length s.regions s.count) e, ltb-false (length c.buffer) longest_packet f)))
    (λ e. absurd (omega (arith, rw (g, e) at h)))

module _ (s : State) (c : SlotArgs) where
  pub counts_out : counts (made s (slot c)) ≡ true
      → (length c.image ≡ image_length s.regions s.count) × (longest_packet ≤ length c.buffer)
  unfolding counts
  counts_out h =
      let a = eqb (length c.image) (image_length s.regions s.count) in
      let b = leb longest_packet (length c.buffer) in
      (eqb-true _ _ (and_left a b h), leb-true _ _ (and_right a b h))

  counts_in : (length c.image ≡ image_length s.regions s.count) × (longest_packet ≤ length c.buffer)
      → counts (made s (slot c)) ≡ true
  unfolding counts
  counts_in h = and_both (eq-eqb _ _ h.0) (le-leb _ _ h.1)

-- PLACES

-- a change of one place
one_puts : {ps ps' : List Place} {p : ℕ} {a : Context} → context_at ps' p ≡ a → OnePlace ps p ps' → Puts ps p a ps'
one_puts h x = record { here = h; others = x.others }

-- what is not busy is idle
idle_or : (a : Context) → (a ≢ Idle → a ≡ Idle) → a ≡ Idle
idle_or Idle f = refl
idle_or (Busy d) f = f (λ q. let z : ◌≡◌ {A = ℕ} 0 1 = cc in omega arith)

-- past the fourth place there is nothing
in_four : (P : Context → Type 0) (s : State) → good_state s ≡ true → P Idle → ((q : ℕ) → q < 4 → P (context_at s.places q))
    → (q : ℕ) → P (context_at s.places q)
in_four P s good i f q =
    let g : GoodIs s = good_out s good in
    by_lt q 4 (f q) (λ l. rw (context_past s.places q (omega arith)) i)

-- EVERY CALL

module _ (D : Demand2) (s : State) (good : good_state s ≡ true) where
  module _ (c : CommandArgs) (bytes : AreBytes c.packet) where
    lawful_by : Law s.places s.last (made s (command c)) (command_call s c).state.places (command_call s c).state.last
        → Stays s (command_call s c).state → Lawful s (command c)
    lawful_by l y = record { law = l; regions = y.regions; count = y.count; unit = y.unit; good = D.command_good s c bytes good }

    -- a command that leaves the places
    lawful_kept : (command_call s c).state.places ≡ s.places → Stays s (command_call s c).state
        → Seen (made s (command c)) never never never → Lawful s (command c)
    lawful_kept x y se = lawful_by (kept x y.last se (λ h. absurd (contra h (command_counts_none s c)))) y

    module _ (h : IsAccepted s c) where
      -- what allowed it
      may : AcceptedWhen s c
      may = let fit = passed_out s c h in D.accepted_when s c good fit.image fit.reply

      -- a dump of the range r
      lawful_range : (r : Range) → DumpDone s c r (command_call s c) → NumberFree s c.packet → 1 ≤ r.words
          → asked (command c) ≡ dump (command_transaction c.packet) r → Lawful s (command c)
      lawful_range r x free some a =
          let g : GoodIs s = good_out s good in
          let t = command_transaction c.packet in
          let y : Stays s (command_call s c).state = after_stays s x.state in
          lawful_by
          (accepted x.i (new_dump t r) x.rest.in_four (omega arith) x.idle
          (in_four (λ (b : Context). busy_with t b ≡ false) s good refl free)
          (one_puts x.now x.rest) y.last some
          (λ u q e. same_asked (sym a ∙ e.command)) (seen_command s c (dump t r) h a) (command_counts_none s c))
          y

      lawful_dump : function_code_of c.packet ≡ 0 → decode c.packet ≡ Some (Dump (request_of c.packet)) → Lawful s (command c)
      lawful_dump k e =
          let a = ((may.dump k).0 h).1 in
          lawful_range (range_of c.packet) ((D.effects s c h).dump k) a.number a.some (asks c _ e)

      lawful_by_name : function_code_of c.packet ≡ 9 → decode c.packet ≡ Some (DumpSymbol (symbol_request_of c.packet)) → Lawful s (command c)
      lawful_by_name k e =
          let a = ((may.by_name k bytes).0 h).1 in
          let x = (D.effects s c h).by_name k bytes in
          lawful_range (range_from c.packet x.a) x.dump a.number a.some
          (asks c _ e ∙ ap (dump (command_transaction c.packet)) (range_named s c x.symbol x.reached))

      lawful_cancel : function_code_of c.packet ≡ 1 → decode c.packet ≡ Some Cancel → Lawful s (command c)
      lawful_cancel k e =
          let x : CancelDone s c (command_call s c) = (D.effects s c h).cancel k in
          let b = busy_dump (command_transaction c.packet) (context_at s.places x.i) x.busy in
          let y : Stays s (command_call s c).state = after_stays s x.state in
          let a : asked (command c) ≡ cancel b.0.transaction = rw b.2 (asks c _ e) in
          lawful_by
          (cancelled x.i b.0 b.1 (one_puts x.now x.rest) y.last
          (seen_command s c (cancel b.0.transaction) h a) (command_counts_none s c))
          y

      -- a command that asks nothing of the places and leaves them
      lawful_still : {replies values : ℕ} → (command_call s c).state ≡ after_command s s.places replies values → asked (command c) ≡ nothing
          → Lawful s (command c)
      lawful_still x a = lawful_kept (ap (λ (z : State). z.places) x) (after_stays s x) (seen_command s c nothing h a)

      lawful_load : function_code_of c.packet ≡ 4 → decode c.packet ≡ Some (Load (request_of c.packet)) → Lawful s (command c)
      lawful_load k e = lawful_still ((D.effects s c h).load k).state (asks c _ e)

      lawful_pool : function_code_of c.packet ≡ 7 → decode c.packet ≡ Some (PoolStatistics (pool_of c.packet)) → Lawful s (command c)
      lawful_pool k e = lawful_still ((D.effects s c h).pool k).state (asks c _ e)

      -- the value of a symbol, whatever the table's bytes are
      lawful_value : decode c.packet ≡ Some (SymbolValue (name_size_of c.packet)) → Lawful s (command c)
      lawful_value e = lawful_still (ap (λ (o : Outcome). o.state) (call_is s c h e)) (asks c _ e)

    lawful_command : Lawful s (command c)
    lawful_command =
        elim (ℕ_discrete (answer_number (command_call s c).answer) 0) [
          | yes h ↦
              by_code c.packet (lawful_dump h) (lawful_cancel h) (lawful_load h) (lawful_pool h) (lawful_value h) (lawful_by_name h)
              (λ n0 n1 n4 n7 n8 n9. absurd ((may h).other n0 n1 n4 n7 n8 n9 h))
          | no n ↦ let y = refused_stays s c n in lawful_kept y.1 y.0 (seen_refused (made s (command c)) n)
        ]

  module _ (c : SlotArgs) where
    lawful_served : answer_number (slot_call s c).answer ≡ 0 → Lawful s (slot c)
    lawful_served h =
        let fit = slot_lent s c good h in
        let x : SlotDone s c (slot_call s c) = (D.slot s c good fit.0 fit.1).done h in
        record {
          law =
              served x.k x.dump x.near x.busy x.passed (one_puts x.now x.others) (ap (λ (z : State). z.last) x.state)
              (seen_slot s c x.dump h (served_number s c (slot_call s c) x good)) (counts_in s c fit)
              (served_shows s c (slot_call s c) x good fit.0);
          regions = ap (λ (z : State). z.regions) x.state;
          count = ap (λ (z : State). z.count) x.state;
          unit = ap (λ (z : State). z.unit) x.state;
          good = D.slot_good s c good;
        }

    -- a slot that counts and is refused finds no place busy
    none_busy : answer_number (slot_call s c).answer ≢ 0 → counts (made s (slot c)) ≡ true → (q : ℕ) → context_at s.places q ≡ Idle
    none_busy n h =
        let fit = counts_out s c h in
        in_four (λ (a : Context). a ≡ Idle) s good refl
        (λ q l. idle_or (context_at s.places q) (λ b. absurd (n ((D.slot s c good fit.0 fit.1).when.1 (q, l, b)))))

    lawful_refused : answer_number (slot_call s c).answer ≢ 0 → Lawful s (slot c)
    lawful_refused n =
        let e : (slot_call s c).state ≡ s = slot_refused s c n in
        record {
          law = kept (ap (λ (z : State). z.places) e) (ap (λ (z : State). z.last) e) (seen_refused (made s (slot c)) n) (none_busy n);
          regions = ap (λ (z : State). z.regions) e;
          count = ap (λ (z : State). z.count) e;
          unit = ap (λ (z : State). z.unit) e;
          good = D.slot_good s c good;
        }

  pub lawful : (c : Call) (cs : List Call) → LendsBytes (c ∷ cs) → Lawful s c
  lawful (command c) cs b = lawful_command c b.0
  lawful (slot c) cs b =
      elim (ℕ_discrete (answer_number (slot_call s c).answer) 0) [ yes h ↦ lawful_served c h | no n ↦ lawful_refused c n ]

-- A LIST OF CALLS

pub lends_rest : (c : Call) (cs : List Call) → LendsBytes (c ∷ cs) → LendsBytes cs
lends_rest (command c) cs b = b.1
lends_rest (slot c) cs b = b

-- a call that was handed a good state with the table and the unit of the state s
pub record Handed (s : State) (e : Event) : Type 0 where
  pub out : e.out ≡ step e.given e.call
  pub good : good_state e.given ≡ true
  pub regions : e.given.regions ≡ s.regions
  pub count : e.given.count ≡ s.count
  pub unit : e.given.unit ≡ s.unit

module _ (D : Demand2) where
  pub chain : (s : State) (cs : List Call) → good_state s ≡ true → LendsBytes cs → Chain s.places s.last (events s cs)
  chain s [] g b = done
  chain s (c ∷ cs) g b =
      let f : Lawful s c = lawful D s g c cs b in
      next (step s c).state.places (step s c).state.last f.law (chain (step s c).state cs f.good (lends_rest c cs b))

  pub handed : (s : State) (cs : List Call) → good_state s ≡ true → LendsBytes cs → (xs ys : List Event) (e : Event)
      → events s cs ≡ xs ++ e ∷ ys → Handed s e
  handed s [] g b xs ys e x = nothing_in xs ys e x
  handed s (c ∷ cs) g b [] ys e x =
      rw (← head_eq x) record { out = refl; good = g; regions = refl; count = refl; unit = refl }
  handed s (c ∷ cs) g b (y ∷ xs) ys e x =
      let f : Lawful s c = lawful D s g c cs b in
      let r = handed (step s c).state cs f.good (lends_rest c cs b) xs ys e (tail_eq x) in
      record {
        out = r.out;
        good = r.good;
        regions = r.regions ∙ f.regions;
        count = r.count ∙ f.count;
        unit = r.unit ∙ f.unit;
      }
