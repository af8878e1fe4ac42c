-- A byte of the reply buffer that no item writes stays.
-- Assumes nothing.
use Rattle.std.specs.Prelude.{Result, Ok, Err}
use mathlib.Core.Path.{◌≡◌, refl, sym, ap, subst, ◌∙◌}
use mathlib.Core.List.{List, [], ◌∷◌, ◌++◌}
use Prim.Native.Nat.{ℕ, zero, suc, ◌+◌, ◌*◌, ◌-◌, ◌≤◌, ◌<◌}
use native.Mathlib.Omega.{arith}
use lib.ListN.{length, get_or, take, drop, length-append, length-drop, get_or-append}
use lib.Seq.{length-take-le, get_or-take, get_or-drop, get_or-append-add}
use Rattle.lists.proofs.Splice.{splice_rest}
use Rattle.lists.proofs.Tests.{either}
use Rattle.rules.specs.Commands.{CommandArgs, task, command_rows, pool_words, replied, carry_out, conclude, command_call, Outcome}
use Rattle.rules.specs.Packets.{command_transaction}
use Rattle.rules.specs.Pools.{Walk, damaged, whole, blocks_of, reply_bytes}
use Rattle.rules.specs.Results.{answer_length, lowest}
use Rattle.rules.specs.Values.{value_bytes}
use Rattle.rules.specs.declared.State.{State}
use Rattle.rules.specs.declared.Task.{Task}
use Rattle.rules.specs.declared.Task.TheVariants.{Nothing, DumpRange, CancelDump, LoadRange, CountPool, TellValue}
use Rattle.rules.proofs.Refusals.{demand_1}
use Rattle.batches.specs.Batch.{BatchArgs, on_state, items_of, unfit, bytes_from, Batch, batch}
use Rattle.batches.specs.InOrder.{InOrder, Fits, no_answer, items_along, items, made, records_of, replies_of}
use Rattle.batches.proofs.InPlain.{fits_out}
use Rattle.rules.specs.declared.Refusal.{Refusal}

-- THE SINGLE CALL: bytes past its reply stay

abbrev Untouched : CommandArgs → Outcome → Type 0
Untouched c o = drop (answer_length o.answer) o.buffer ≡ drop (answer_length o.answer) c.reply

module _ (s : State) (c : CommandArgs) where
  replied_keeps : (i : ℕ) (w : Walk) → Untouched c (replied s c i w)
  unfolding reply_bytes
  replied_keeps i damaged = refl
  replied_keeps i (whole bs) = splice_rest c.reply (reply_bytes s.replies s.unit (command_transaction c.packet) i bs)

  carried_keeps : (k : Task) → Untouched c (carry_out s c k)
  unfolding value_bytes
  carried_keeps Nothing = refl
  carried_keeps (DumpRange r) = refl
  carried_keeps CancelDump = refl
  carried_keeps (LoadRange r) = refl
  carried_keeps (CountPool i) = replied_keeps i (blocks_of (pool_words s i c.image))
  carried_keeps (TellValue v) = splice_rest c.reply (value_bytes s.values s.unit (command_transaction c.packet) v)

  concluded_keeps : (v : Result (Unit {0}) Refusal) → Untouched c (conclude s c v)
  concluded_keeps (Err r) = refl
  concluded_keeps (Ok tt) = carried_keeps (task c)

  call_keeps : Untouched c (command_call s c)
  unfolding command_call
  call_keeps = concluded_keeps (lowest (command_rows s c))

-- a byte of two lists that are the same from n on
same_from : (l m : List ℕ) (n k : ℕ) → drop n l ≡ drop n m → n ≤ k → get_or l k 0 ≡ get_or m k 0
same_from l m n k e h =
    let at : n + (k - n) ≡ k = omega arith in
    subst (λ (x : ℕ). get_or l x 0 ≡ get_or m x 0) at (sym (get_or-drop n l (k - n) 0) ∙ ap (λ (r : List ℕ). get_or r (k - n) 0) e ∙ get_or-drop n m (k - n) 0)

-- ALONG THE ITEMS

pub along_kept : (s : State) (symbols image bytes ss ns replies : List ℕ) (i k : ℕ) → length ns ≡ length ss → 32 * length ss ≤ length replies → i < length ss → k < 32
    → (get_or (records_of (made on_state symbols s image (items_along bytes ss ns replies))) i no_answer).length ≤ k
    → get_or (replies_of (made on_state symbols s image (items_along bytes ss ns replies))) (32 * i + k) 0 ≡ get_or replies (32 * i + k) 0
along_kept s symbols image bytes [] ns replies i k e r h l w = absurd (omega arith)
along_kept s symbols image bytes (x ∷ ss) [] replies i k e r h l w = absurd (omega arith)
along_kept s symbols image bytes (x ∷ ss) (n ∷ ns) replies zero k e r h l w =
    let c : CommandArgs = record { packet = bytes_from bytes x n; symbols = symbols; image = image; reply = take 32 replies } in
    let o : Outcome = command_call s c in
    let long : length o.buffer ≡ 32 = (demand_1.command s c).lent.1 ∙ length-take-le 32 replies (omega arith) in
    let z : 32 * zero + k ≡ k = omega arith in
    rw z
    (get_or-append o.buffer (replies_of (made on_state symbols o.state o.image (items_along bytes ss ns (drop 32 replies)))) 0 k (omega (arith, long, l))
    ∙ same_from o.buffer c.reply (answer_length o.answer) k (call_keeps s c) w
    ∙ get_or-take 32 replies k 0 l)
along_kept s symbols image bytes (x ∷ ss) (n ∷ ns) replies (suc i) k e r h l w =
    let c : CommandArgs = record { packet = bytes_from bytes x n; symbols = symbols; image = image; reply = take 32 replies } in
    let o : Outcome = command_call s c in
    let later : List ℕ = replies_of (made on_state symbols o.state o.image (items_along bytes ss ns (drop 32 replies))) in
    let long : length o.buffer ≡ 32 = (demand_1.command s c).lent.1 ∙ length-take-le 32 replies (omega arith) in
    let at : length o.buffer + (32 * i + k) ≡ 32 * suc i + k = omega (arith, long) in
    let past : 32 + (32 * i + k) ≡ 32 * suc i + k = omega arith in
    let rest : 32 * length ss ≤ length (drop 32 replies) = simp length-drop (omega arith) in
    ap (λ (j : ℕ). get_or (o.buffer ++ later) j 0) (sym at)
    ∙ get_or-append-add o.buffer later (32 * i + k) 0
    ∙ along_kept o.state symbols o.image bytes ss ns (drop 32 replies) i k (omega arith) rest (omega arith) l w
    ∙ get_or-drop 32 replies (32 * i + k) 0
    ∙ ap (λ (j : ℕ). get_or replies j 0) past

replies_long : (s : State) (symbols image bytes ss ns replies : List ℕ) → length ns ≡ length ss → 32 * length ss ≤ length replies
    → length (replies_of (made on_state symbols s image (items_along bytes ss ns replies))) ≡ 32 * length ss
replies_long s symbols image bytes [] ns replies e r = refl
replies_long s symbols image bytes (x ∷ ss) [] replies e r = absurd (omega arith)
replies_long s symbols image bytes (x ∷ ss) (n ∷ ns) replies e r =
    let c : CommandArgs = record { packet = bytes_from bytes x n; symbols = symbols; image = image; reply = take 32 replies } in
    let o : Outcome = command_call s c in
    let long : length o.buffer ≡ 32 = (demand_1.command s c).lent.1 ∙ length-take-le 32 replies (omega arith) in
    let rest : 32 * length ss ≤ length (drop 32 replies) = simp length-drop (omega arith) in
    let more = replies_long o.state symbols o.image bytes ss ns (drop 32 replies) (omega arith) rest in
    length-append o.buffer _ ∙ omega (arith, long, more)

-- THE BATCH

module _ (in_order_lem : InOrder on_state) (s : State) (a : BatchArgs) (records : ℕ) where
  abbrev Unwritten : Batch State → Type 0
  Unwritten o = (i k : ℕ) → i < items_of a → k < 32 → (get_or o.left.answers i no_answer).length ≤ k
      → get_or o.left.replies (32 * i + k) 0 ≡ get_or a.replies (32 * i + k) 0

  abbrev Beyond : Batch State → Type 0
  Beyond o = (j : ℕ) → 32 * items_of a ≤ j → get_or o.left.replies j 0 ≡ get_or a.replies j 0

  pub unwritten : Unwritten (batch on_state s a records)
  unwritten =
      either (unfit a records)
      (λ e. subst Unwritten (sym (in_order_lem.refused s a records e)) (λ i k h l w. refl))
      (λ e.
      let f : Fits a records = fits_out a records e in
      subst Unwritten (sym (in_order_lem.equals s a records e))
      (λ i k h l w.
      let long = replies_long s a.symbols a.image a.bytes a.starts a.lengths a.replies f.equal f.bytes in
      get_or-append (replies_of (made on_state a.symbols s a.image (items a))) (drop (32 * items_of a) a.replies) 0 (32 * i + k) (omega (arith, long, h, l))
      ∙ along_kept s a.symbols a.image a.bytes a.starts a.lengths a.replies i k f.equal f.bytes h l w))

  pub beyond : Beyond (batch on_state s a records)
  beyond =
      either (unfit a records)
      (λ e. subst Beyond (sym (in_order_lem.refused s a records e)) (λ j h. refl))
      (λ e.
      let f : Fits a records = fits_out a records e in
      subst Beyond (sym (in_order_lem.equals s a records e))
      (λ j h.
      let rs : List ℕ = replies_of (made on_state a.symbols s a.image (items a)) in
      let long : length rs ≡ 32 * items_of a = replies_long s a.symbols a.image a.bytes a.starts a.lengths a.replies f.equal f.bytes in
      let m : ℕ = j - 32 * items_of a in
      let at : length rs + m ≡ j = omega (arith, long, h) in
      let past : 32 * items_of a + m ≡ j = omega (arith, h) in
      ap (λ (x : ℕ). get_or (rs ++ drop (32 * items_of a) a.replies) x 0) (sym at)
      ∙ get_or-append-add rs (drop (32 * items_of a) a.replies) m 0
      ∙ get_or-drop (32 * items_of a) a.replies m 0
      ∙ ap (λ (x : ℕ). get_or a.replies x 0) past))
