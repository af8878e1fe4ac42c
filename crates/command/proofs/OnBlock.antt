-- On a block of 80 words the decision is that on its state, and what it makes of the words are those of the state after it.
-- Assumes nothing.
use Rattle.std.specs.Prelude.{Option, Some, None, Result, Ok, Err}
use mathlib.Core.Path.{◌≡◌, refl, sym, ap, ◌∙◌}
use mathlib.Core.Bool.{true, ◌&&◌}
use mathlib.Core.List.{List}
use Prim.Native.Nat.{ℕ, ◌+◌, ◌*◌, ◌%◌, ◌≤◌, ◌<◌}
use native.Mathlib.Omega.{arith}
use lib.Dec.{leb, ltb, eqb}
use lib.ListN.{length, set, length-set}
use lib.Seq.{get_or-set_other}
use borrow.Author.Tests.{leb-false, eqb-true, ltb-true}
use Rattle.lists.proofs.Splice.{splice_length, splice_below, splice_above}
use Rattle.lists.proofs.Tests.{either, and_left, and_right}
use Rattle.rules.specs.Commands.{CommandArgs, first_idle, first_with}
use Rattle.rules.specs.Packets.{command_transaction}
use Rattle.rules.specs.Pools.{blocks_of}
use Rattle.rules.specs.Results.{counted}
use Rattle.rules.specs.States.{pool_at}
use Rattle.rules.specs.declared.Context.{Context}
use Rattle.rules.specs.declared.Context.TheVariants.{Idle, Busy}
use Rattle.rules.specs.declared.Header.{Header}
use Rattle.rules.specs.declared.Range.{Range}
use Rattle.rules.specs.declared.Refusal.{Refusal}
use Rattle.rules.specs.declared.State.{State}
use Rattle.rules.specs.declared.Task.{Task}
use Rattle.rules.specs.declared.Task.TheVariants.{Nothing, DumpRange, CancelDump, LoadRange, CountPool, TellValue}
use Rattle.rules.specs.declared.WordIndex.{WordIndex}
use Rattle.pool.specs.Answers.{walked_of}
use Rattle.pool.specs.declared.Figures.{Figures}
use Rattle.regions.specs.declared.Miss.{Miss}
use Rattle.regions.specs.declared.Miss.TheVariants.{StartsOutside, EndsOutside}
use Rattle.regions.specs.declared.Spot.{Spot}
use Rattle.block.specs.Blocks.{state_words, word, context_words, is_block, state_of, block_over}
use Rattle.block.specs.Changes.{CallChanges}
use Rattle.block.proofs.Bounds.{block_out}
use Rattle.block.proofs.Changes.{call_changes, four_places}
use Rattle.block.proofs.Forth.{counted_forth}
use Rattle.block.proofs.Lengths.{context_words_length}
use Rattle.lent_places.specs.Writing.{placed}
use Rattle.lent_places.proofs.Answers.{placed_is}
use Rattle.state.specs.Counts.{raised, block_changes}
use Rattle.opening.specs.Opening.{opened_by, words_from, find, index, good_words}
use Rattle.decide.specs.Decisions.{decide_dump, decide_cancel, decide_load, decide_walked, decide_found, decide_pool, by_task, by_sought, decision, state_after}
use Rattle.decide.specs.declared.Decision.{Decision}
use Rattle.decide.specs.declared.Decision.TheVariants.{Dump, Cancel, Load, Reply, Tell}
use Rattle.command.specs.OnStore.{after}

-- A PLACE that is taken or freed is one of four

abbrev pub Low : Result Decision Refusal → Type 0
Low (Err r) = Unit {0}
Low (Ok (Dump x)) = x.place < 4
Low (Ok (Cancel x)) = x.place < 4
Low (Ok (Load x)) = Unit {0}
Low (Ok (Reply x)) = Unit {0}
Low (Ok (Tell x)) = Unit {0}

low_dump : (t : ℕ) (a : Range) (f : Result Spot Miss) (busy idle : ℕ) → Low (decide_dump t a f busy idle)
low_dump t a (Err StartsOutside) busy idle = tt
low_dump t a (Err EndsOutside) busy idle = tt
low_dump t a (Ok spot) busy idle =
    either spot.dump
    (λ e. either (ltb busy 4)
    (λ f. rw (e, f) tt)
    (λ f. either (leb 4 idle) (λ g. rw (e, f, g) tt) (λ g. rw (e, f, g) (leb-false _ _ g))))
    (λ e. rw e tt)

low_cancel : (busy : ℕ) → Low (decide_cancel busy)
low_cancel busy = either (leb 4 busy) (λ g. rw g tt) (λ g. rw g (leb-false _ _ g))

low_load : (a : Range) (f : Result Spot Miss) (at : WordIndex) → Low (decide_load a f at)
low_load a (Err StartsOutside) at = tt
low_load a (Err EndsOutside) at = tt
low_load a (Ok spot) at = either spot.load (λ g. rw g tt) (λ g. rw g tt)

module _ (h : Header) (i : ℕ) where
  low_walked : (w : Option Figures) → Low (decide_walked h i w)
  low_walked None = tt
  low_walked (Some f) = tt

  low_found : (p : Range) (f : Result Spot Miss) (at : WordIndex) (image : List ℕ) → Low (decide_found h i p f at image)
  low_found p (Err StartsOutside) at image = tt
  low_found p (Err EndsOutside) at image = tt
  low_found p (Ok spot) at image = low_walked (walked_of (blocks_of (words_from image at.0 p.words)))

  low_pool : (p : Range) (f : Result Spot Miss) (at : WordIndex) (image : List ℕ) → Low (decide_pool h i p f at image)
  low_pool p f at image = either (eqb p.words 0) (λ g. rw g tt) (λ g. rw g (low_found p f at image))

module _ (s : State) (image : List ℕ) where
  low_task : (t : ℕ) (k : Task) → Low (by_task s image t k)
  low_task t Nothing = tt
  low_task t (DumpRange a) = low_dump t a (find s a) (first_with t s.places) (first_idle s.places)
  low_task t CancelDump = low_cancel (first_with t s.places)
  low_task t (LoadRange a) = low_load a (find s a) (index s a)
  low_task t (CountPool i) = low_pool _ i (pool_at s.pools i) (find s (pool_at s.pools i)) (index s (pool_at s.pools i)) image
  low_task t (TellValue v) = tt

  low_sought : (t : ℕ) (a : Result Task Refusal) → Low (by_sought s image t a)
  low_sought t (Err r) = tt
  low_sought t (Ok k) = low_task t k

pub low : (s : State) (c : CommandArgs) → Low (decision s c)
unfolding decision
low s c = low_sought s c.image (command_transaction c.packet) (opened_by (good_words s) (length c.image) (length c.reply) c.packet c.symbols s.unit)

-- THE WORDS OF A BLOCK THAT IS A STATE

module _ (b : List ℕ) (few : word b 0 < 4294967296) (block : is_block b ≡ true) where
  words : length b ≡ 80
  words = (block_out b block).words

  whole : block_over b (state_of b) ≡ b
  whole = counted_forth b few block

  laws : CallChanges b (state_of b)
  laws = call_changes (state_of b) b words whole (four_places b)

  -- a word past the places is as it was
  past_places : (i : ℕ) (a : Context) → i < 4 → word (placed b i a) 77 ≡ word b 77
  past_places i a l =
      let n = words in
      let k = context_words_length a in
      ap (λ (x : List ℕ). word x 77) (placed_is b i a n l) ∙ splice_above b (54 + 5 * i) (context_words a) (omega arith) 77 (omega arith)

  -- the words after a decision are those of the state after it, and of entries not in use those before
  pub words_after : (d : Result Decision Refusal) → Low d → after block_changes b d ≡ block_over b (state_after (state_of b) d)
  unfolding state_of
  words_after (Err r) l =
      either (counted r)
      (λ e. rw e (sym (laws.refusal ((word b 78 + 1) % 65536))))
      (λ e. rw e (sym whole))
  words_after (Ok (Dump x)) l =
      rw (past_places x.place (Busy x.dump) l, placed_is b x.place (Busy x.dump) words l)
      (sym (laws.dump x.place (Busy x.dump) ((word b 77 + 1) % 65536) l))
  words_after (Ok (Cancel x)) l =
      rw (past_places x.place Idle l, placed_is b x.place Idle words l)
      (sym (laws.dump x.place Idle ((word b 77 + 1) % 65536) l))
  words_after (Ok (Load x)) l = sym (laws.load ((word b 77 + 1) % 65536))
  words_after (Ok (Reply x)) l =
      let e : word (raised b 75 16384) 77 ≡ word b 77 = get_or-set_other b 75 77 ((word b 75 + 1) % 16384) 0 (λ h. absurd (omega arith)) in
      rw e (sym (laws.reply ((word b 75 + 1) % 16384) ((word b 77 + 1) % 65536)))
  words_after (Ok (Tell x)) l =
      let e : word (raised b 79 16384) 77 ≡ word b 77 = get_or-set_other b 79 77 ((word b 79 + 1) % 16384) 0 (λ h. absurd (omega arith)) in
      rw e (sym (laws.value ((word b 79 + 1) % 16384) ((word b 77 + 1) % 65536)))

-- A BLOCK KEEPS its length and its number of regions

pub record Same (b l : List ℕ) : Type 0 where
  pub long : length l ≡ length b
  pub first : word l 0 ≡ word b 0

then_same : {b l m : List ℕ} → Same b l → Same l m → Same b m
then_same p q = record { long = q.long ∙ p.long; first = q.first ∙ p.first }

module _ (b : List ℕ) where
  set_same : (i v : ℕ) → 1 ≤ i → Same b (set b i v)
  set_same i v h = record { long = length-set b i v; first = get_or-set_other b i 0 v 0 (λ e. absurd (omega arith)) }

  placed_same : (i : ℕ) (a : Context) → Same b (placed b i a)
  unfolding placed
  placed_same i a =
      let test = eqb (length b) state_words && ltb i 4 in
      let k = context_words_length a in
      either test
      (λ e.
      let n = eqb-true (length b) 80 (and_left (eqb (length b) 80) (ltb i 4) e) in
      let l = ltb-true i 4 (and_right (eqb (length b) 80) (ltb i 4) e) in
      rw e record { long = splice_length b (54 + 5 * i) (context_words a) (omega arith); first = splice_below b (54 + 5 * i) (context_words a) (omega arith) 0 (omega arith) })
      (λ e. rw e record { long = refl; first = refl })

pub after_same : (b : List ℕ) (d : Result Decision Refusal) → Same b (after block_changes b d)
after_same b (Err r) = either (counted r) (λ e. rw e (set_same b 78 _ (omega arith))) (λ e. rw e record { long = refl; first = refl })
after_same b (Ok (Dump x)) = then_same (placed_same b x.place (Busy x.dump)) (set_same (placed b x.place (Busy x.dump)) 77 _ (omega arith))
after_same b (Ok (Cancel x)) = then_same (placed_same b x.place Idle) (set_same (placed b x.place Idle) 77 _ (omega arith))
after_same b (Ok (Load x)) = set_same b 77 _ (omega arith)
after_same b (Ok (Reply x)) = then_same (set_same b 75 _ (omega arith)) (set_same (raised b 75 16384) 77 _ (omega arith))
after_same b (Ok (Tell x)) = then_same (set_same b 79 _ (omega arith)) (set_same (raised b 79 16384) 77 _ (omega arith))
