-- What C sees of refusals: the block as handed in, and 1 from every call after a start-up answered 17.
-- Assumes nothing.
use mathlib.Core.Path.{◌≡◌, refl, ap, ◌∙◌}
use mathlib.Core.Logic.{◌≢◌}
use mathlib.Core.Bool.{true, false, ◌||◌}
use mathlib.Core.List.{List, [], ◌∷◌}
use Prim.Native.Nat.{ℕ, ◌<◌}
use native.Mathlib.Omega.{arith}
use lib.Dec.{eqb}
use lib.ListN.{length}
use borrow.Author.Tests.{eq-eqb, eqb-true}
use Rattle.lists.specs.Splice.{splice}
use Rattle.lists.proofs.Tests.{either, contra}
use Rattle.rules.specs.Cases.{one_of}
use Rattle.rules.specs.Commands.{CommandArgs, command_rows, command_call}
use Rattle.rules.specs.Regions.{table_rules}
use Rattle.rules.specs.Results.{answer_number, lowest, lent_rows}
use Rattle.rules.specs.Slots.{SlotArgs, slot_rows, slot_call}
use Rattle.rules.specs.States.{start_rules, start_up, no_state, good_state}
use Rattle.rules.specs.declared.State.{State}
use Rattle.rules.proofs.Refusals.{demand_1}
use Rattle.block.specs.Blocks.{word, block_of, regions_bounds, place_bounds, is_block, state_of, block_over}
use Rattle.block.specs.Calls.{table_of, on_state, lg_start_up, lg_command, lg_slot}
use Rattle.block.specs.Runs.{runs}
use Rattle.block.proofs.Forth.{block_forth}

-- THE BLOCK AS HANDED IN

-- a state that a call returns as it was is written over the block as it was
over_same : (b : List ℕ) → ((i : ℕ) → word b i < 4294967296) → is_block b ≡ true → {s : State} → s ≡ state_of b → block_over b s ≡ b
over_same b w e h = ap (block_over b) h ∙ block_forth b w e

one_of_five : (n : ℕ) {P : Type 0} → (n ≡ 1 → P) → (n ≡ 2 → P) → (n ≡ 3 → P) → (n ≡ 5 → P) → (n ≡ 8 → P)
    → one_of n (1 ∷ 2 ∷ 3 ∷ 5 ∷ 8 ∷ []) ≡ true → P
one_of_five n p q r s t h =
    either (eqb n 1) (λ e. p (eqb-true n 1 e))
    (λ a. either (eqb n 2) (λ e. q (eqb-true n 2 e))
    (λ b. either (eqb n 3) (λ e. r (eqb-true n 3 e))
    (λ c. either (eqb n 5) (λ e. s (eqb-true n 5 e))
    (λ d. either (eqb n 8) (λ e. t (eqb-true n 8 e))
    (λ e. let z : (eqb n 1 || (eqb n 2 || (eqb n 3 || (eqb n 5 || (eqb n 8 || false))))) ≡ false = rw (a, b, c, d, e) in absurd (contra h z))))))

pub command_handed_in : (b : List ℕ) → ((i : ℕ) → word b i < 4294967296) → (c : CommandArgs) → one_of (lg_command b c).number (1 ∷ 2 ∷ 3 ∷ 5 ∷ 8 ∷ []) ≡ true
    → (lg_command b c).state ≡ b
unfolding on_state
command_handed_in b w c =
    either (is_block b)
    (λ e.
    let k = (demand_1.command (state_of b) c).handed_in in
    rw e
    (one_of_five (answer_number (command_call (state_of b) c).answer)
    (λ z. over_same b w e (k.0 z)) (λ z. over_same b w e (k.1 z)) (λ z. over_same b w e (k.2 z)) (λ z. over_same b w e (k.3 z)) (λ z. over_same b w e (k.4 z))))
    (λ e. rw e (λ h. refl))

pub slot_handed_in : (b : List ℕ) → ((i : ℕ) → word b i < 4294967296) → (tick : ℕ) (image buffer : List ℕ) → (lg_slot b tick image buffer).number ≢ 0
    → (lg_slot b tick image buffer).state ≡ b
unfolding on_state
slot_handed_in b w tick image buffer =
    let c : SlotArgs = record { tick = tick; image = image; buffer = buffer } in
    either (is_block b)
    (λ e. rw e (λ n. over_same b w e ((demand_1.slot (state_of b) c).kept n).0))
    (λ e. rw e (λ n. refl))

-- AFTER 17

refused_none : (t b : List ℕ) → length b ≡ 80 → (lg_start_up t b).number ≡ 17 → (lg_start_up t b).state ≡ block_of no_state
unfolding lg_start_up start_up
refused_none t b l =
    let r = table_of t in
    rw (eq-eqb (length b) 80 l)
    (either (start_rules r.regions r.count r.pools r.unit) (λ e. rw e (λ z. absurd (omega arith))) (λ e. rw e (λ z. refl)))

none_command : (c : CommandArgs) → lg_command (block_of no_state) c ≡ record { number = 1; bytes = 0; state = block_of no_state; image = c.image; buffer = c.reply }
unfolding on_state is_block state_of block_of block_over regions_bounds place_bounds runs splice command_call command_rows lent_rows lowest good_state start_rules table_rules
none_command c = refl

none_slot : (tick : ℕ) (image buffer : List ℕ)
    → lg_slot (block_of no_state) tick image buffer ≡ record { number = 1; bytes = 0; state = block_of no_state; image = image; buffer = buffer }
unfolding on_state is_block state_of block_of block_over regions_bounds place_bounds runs splice slot_call slot_rows lent_rows lowest good_state start_rules table_rules
none_slot tick image buffer = refl

pub command_after : (t b : List ℕ) → length b ≡ 80 → (lg_start_up t b).number ≡ 17 → (c : CommandArgs)
    → lg_command (lg_start_up t b).state c ≡ record { number = 1; bytes = 0; state = (lg_start_up t b).state; image = c.image; buffer = c.reply }
command_after t b l h c = rw (refused_none t b l h) (none_command c)

pub slot_after : (t b : List ℕ) → length b ≡ 80 → (lg_start_up t b).number ≡ 17 → (tick : ℕ) (image buffer : List ℕ)
    → lg_slot (lg_start_up t b).state tick image buffer ≡ record { number = 1; bytes = 0; state = (lg_start_up t b).state; image = image; buffer = buffer }
slot_after t b l h tick image buffer = rw (refused_none t b l h) (none_slot tick image buffer)
