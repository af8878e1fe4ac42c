-- How a range missed, by the number that its command is answered.
-- Assumes nothing.
use Rattle.std.specs.Prelude.{Option}
use mathlib.Core.Path.{◌≡◌, refl, sym, ap, ◌∙◌}
use mathlib.Core.Logic.{◌≢◌, ◌↔◌}
use mathlib.Core.Bool.{Bool, true, false, not}
use mathlib.Core.List.{List, [], ◌∷◌}
use Prim.Native.Nat.{ℕ, ◌≤◌}
use native.Mathlib.Omega.{arith}
use lib.Dec.{eqb}
use lib.ListN.{length, drop}
use borrow.Author.Tests.{eqb-true, eq-eqb}
use Rattle.lists.proofs.Tests.{either, contra, or_left, or_right}
use Rattle.rules.specs.Regions.{any_right, first_of, starts_inside, runs_out, image_length}
use Rattle.rules.specs.States.{pool_at, good_state}
use Rattle.rules.specs.GoodWhen.{LiesIn}
use Rattle.rules.specs.Packets.{decode}
use Rattle.rules.specs.Results.{number, verdict_number, answer_number, Row, row, lowest, lent_rows}
use Rattle.rules.specs.Cases.{one_of, range_of, range_from, pool_of}
use Rattle.rules.specs.Commands.{CommandArgs, task, outside, past_end, command_rows, command_call}
use Rattle.rules.specs.Demand1.{numbers_of}
use Rattle.rules.specs.Demand2.{ForThisBox, MissedWhen, Misses}
use Rattle.rules.specs.declared.Range.{Range}
use Rattle.rules.specs.declared.Refusal.TheVariants.{OutsideRegions, RunsOut}
use Rattle.rules.specs.declared.Region.{Region}
use Rattle.rules.specs.declared.State.{State}
use Rattle.rules.specs.declared.Task.{Task}
use Rattle.rules.proofs.Allowed.{box_in, decode_dump, decode_load, decode_pool, decode_by_name, dump_laid, load_laid, pool_laid, by_name_laid, value_named_lem}
use Rattle.rules.proofs.Asks.{task_is, range_reached}
use Rattle.rules.proofs.Cases.{outside_when, runs_out_when}
use Rattle.rules.proofs.Good.{good_out}
use Rattle.rules.proofs.Passed.{Laid, opened, lowest_past, answer_number_lem}
use Rattle.rules.proofs.Rules.{start_out}
use Rattle.rules.proofs.Table.{one_in, starts_in, held_there}
use Rattle.rules.specs.declared.Command.{Command}

-- TWO ROWS, AND THOSE AFTER THEM

-- a number that no row has is not given
not_among : (k : ℕ) (rows : List Row) → one_of k (numbers_of rows) ≡ false → k ≢ 0 → verdict_number (lowest rows) ≢ k
unfolding lowest
not_among k [] h some = λ e. some (sym e)
not_among k (r ∷ rs) h some =
    let n : ℕ = number r.refusal in
    either r.applies
    (λ a. rw a (λ e. contra (eq-eqb k n (sym e)) (or_left (eqb k n) (one_of k (numbers_of rs)) h)))
    (λ a. rw a (not_among k rs (or_right (eqb k n) (one_of k (numbers_of rs)) h) some))

-- the number that 10, 19 and the rows after them give
abbrev given : Bool → Bool → List Row → ℕ
given b d rows = verdict_number (lowest (row OutsideRegions b ∷ row RunsOut d ∷ rows))

module _ (b d : Bool) (rows : List Row) (no-ten : one_of 10 (numbers_of rows) ≡ false) (no-nineteen : one_of 19 (numbers_of rows) ≡ false) where
  ten_when : (given b d rows ≡ 10) ↔ (b ≡ true)
  unfolding lowest
  ten_when =
      either b
      (λ e. rw e (λ h. refl, λ h. refl))
      (λ e. either d
      (λ f. rw (e, f) (λ h. absurd (omega arith), λ h. absurd (contra h refl)))
      (λ f. rw (e, f) (λ h. absurd (not_among 10 rows no-ten (λ z. absurd (omega arith)) h), λ h. absurd (contra h refl))))

  nineteen_when : (given b d rows ≡ 19) ↔ ((b ≡ false) × (d ≡ true))
  unfolding lowest
  nineteen_when =
      either b
      (λ e. rw e (λ h. absurd (omega arith), λ h. absurd (contra refl h.0)))
      (λ e. either d
      (λ f. rw (e, f) (λ h. (refl, refl), λ h. refl))
      (λ f. rw (e, f) (λ h. absurd (not_among 19 rows no-nineteen (λ z. absurd (omega arith)) h), λ h. absurd (contra h.1 refl))))

-- A COMMAND whose packet is for this box and laid out well

module _ (s : State) (c : CommandArgs) (good : good_state s ≡ true) (image : length c.image ≡ image_length s.regions s.count)
    (reply : 32 ≤ length c.reply) (box : ForThisBox s c.packet) where
  -- its number, by its task
  number_by : (d : Option Command) → decode c.packet ≡ d → Laid c d → (k : Task) → task c ≡ k
      → answer_number (command_call s c).answer ≡ given (outside s k) (past_end s k) (drop 14 (command_rows s c))
  unfolding command_rows lent_rows
  number_by d e laid k t =
      rw (← t)
      (answer_number_lem s c
      ∙ ap verdict_number (lowest_past 12 (command_rows s c) (opened s c good image reply (box_in s c.packet box) box.apid box.unit (rw e laid))))

  -- of 10 and 19 each stands once among its rows
  left_ten : one_of 10 (numbers_of (drop 14 (command_rows s c))) ≡ false
  unfolding command_rows lent_rows
  left_ten = refl

  left_nineteen : one_of 19 (numbers_of (drop 14 (command_rows s c))) ≡ false
  unfolding command_rows lent_rows
  left_nineteen = refl

  -- the range of a dump or a load
  missed : (a : Range) → 1 ≤ a.words
      → answer_number (command_call s c).answer
      ≡ given (not (starts_inside s.regions s.count a)) (runs_out s.regions s.count a) (drop 14 (command_rows s c))
      → MissedWhen s c a
  missed a some e =
      let rs : List Region = s.regions in
      let n : ℕ = s.count in
      let starts : Bool = starts_inside rs n a in
      let ten = ten_when (not starts) (runs_out rs n a) _ left_ten left_nineteen in
      let nineteen = nineteen_when (not starts) (runs_out rs n a) _ left_ten left_nineteen in
      record {
        outside = rw e (λ h. (outside_when rs n a).0 (ten.0 h), λ h. ten.1 ((outside_when rs n a).1 h));
        runs_out_lem = rw e (
          λ h. let r = (runs_out_when rs n a).0 (nineteen.0 h).1 in (r.0.0, r.0.1, r.1 r.0.0),
          λ h.
              let none : (j : ℕ) → LiesIn any_right rs n a j → ⊥ =
              λ j l. let same : h.0 ≡ j = held_there rs n (start_out rs n s.pools s.unit (good_out s good).rules).table a h.0 j some h.1 l in h.2 (rw same l) in
              nineteen.1 (ap not (one_in any_right rs n (first_of a) h.0 (starts_in rs n a h.0 h.1)), (runs_out_when rs n a).1 ((h.0, h.1), none)),
        );
      }

  pub missed_when : Misses s c
  missed_when =
      record {
        dump = λ e bytes whole some.
            let d = decode_dump c.packet e in
            missed (range_of c.packet) some (number_by _ d (dump_laid s c bytes whole some) _ (task_is c _ d));
        load = λ e bytes whole some most.
            let d = decode_load c.packet e in
            missed (range_of c.packet) some (number_by _ d (load_laid s c bytes whole some most) _ (task_is c _ d));
        by_name = λ v a e symbol zeros reached below whole some.
            missed (range_from c.packet a) some
            (number_by _ (decode_by_name c.packet e) (by_name_laid s c v a symbol zeros reached below whole some) _
            (range_reached c e v a (value_named_lem s c symbol) reached));
        pool = λ e bytes low.
            let d = decode_pool c.packet e in
            let is = number_by _ d (pool_laid s c bytes low) _ (task_is c _ d) in
            let z = eqb (pool_at s.pools (pool_of c.packet)).words 0 in
            let ten = ten_when z false _ left_ten left_nineteen in
            let nineteen = nineteen_when z false _ left_ten left_nineteen in
            rw is ((λ h. eqb-true _ _ (ten.0 h), λ h. ten.1 (eq-eqb _ _ h)), λ h. contra (nineteen.0 h).1 refl);
      }
