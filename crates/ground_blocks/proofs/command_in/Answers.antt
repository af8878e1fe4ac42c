-- `ground_blocks::command_in` meets its contract.
-- Assumes nothing.
use borrow.Author.Tests.{ne_eqb}
use mathlib.Core.Path.{◌≡◌}
use mathlib.Core.Bool.{false}
use Prim.Native.Nat.{ℕ}
use native.Mathlib.Omega.{arith}
use lib.Dec.{eqb}
use Rattle.ground_blocks.specs.Fields.{command_in}
use Rattle.ground_blocks.proofs.command_in.Goals as goal

pub returns-in-0 : goal.returns-in-0
unfolding command_in
returns-in-0 c = rw (← c.word_at-word.ensures, c.in-0.is, c.request_in.ensures)

pub returns-in-1 : goal.returns-in-1
unfolding command_in
returns-in-1 c = rw (← c.word_at-word.ensures, c.in-1.is)

pub returns-in-4 : goal.returns-in-4
unfolding command_in
returns-in-4 c = rw (← c.word_at-word.ensures, c.in-4.is, c.request_in-in-4.ensures)

pub returns-in-7 : goal.returns-in-7
unfolding command_in
returns-in-7 c = rw (← c.word_at-word.ensures, c.in-7.is, c.at_most_16.ensures, c.word_at.ensures)

pub returns-in-8 : goal.returns-in-8
unfolding command_in
returns-in-8 c = rw (← c.word_at-word.ensures, c.in-8.is, c.at_most_8.ensures, c.word_at-in-8.ensures)

pub returns-in-9 : goal.returns-in-9
unfolding command_in
returns-in-9 c = rw (← c.word_at-word.ensures, c.in-9.is, c.symbol_request_in.ensures)

pub returns-in_default : goal.returns-in_default
unfolding command_in
returns-in_default c =
    let other : (n : ℕ) → (c.word_at-word.result ≡ n → ⊥) → eqb c.word_at-word.result n ≡ false = λ n r. ne_eqb _ n r in
    rw (← c.word_at-word.ensures, other 0 (λ e. omega arith), other 1 (λ e. omega arith), other 4 (λ e. omega arith), other 7 (λ e. omega arith), other 8 (λ e. omega arith), other 9 (λ e. omega arith))

pub returns-then-word-gt255 : goal.returns-then-word-gt255
unfolding command_in
returns-then-word-gt255 c =
    let other : (n : ℕ) → (c.word_at-word.result ≡ n → ⊥) → eqb c.word_at-word.result n ≡ false = λ n r. ne_eqb _ n r in
    rw (← c.word_at-word.ensures, other 0 (λ e. omega arith), other 1 (λ e. omega arith), other 4 (λ e. omega arith), other 7 (λ e. omega arith), other 8 (λ e. omega arith), other 9 (λ e. omega arith))
