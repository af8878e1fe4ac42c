-- `symbols::is_new` meets its contract.
-- Assumes nothing.
use mathlib.Core.Path.{◌≡◌, sym, ◌∙◌}
use mathlib.Core.Bool.{false}
use mathlib.Core.List.{[]}
use native.Mathlib.Omega.{arith}
use Rattle.std.specs.List.{list_any}
use Rattle.symbols.specs.Words.{word, has_first}
use Rattle.symbols.proofs.Words.{IsNamed, EachNamed, first_new, words_new}
use Rattle.symbols.proofs.is_new.Goals as goal

pub returns-then-not-any_first : goal.returns-then-not-any_first
returns-then-not-any_first c =
    let r = c.args.symbol.now in
    let before = c.args.before.now in
    let own : IsNamed r = record { size = c.told-symbol; bytes = λ x. omega (arith, c.fits-symbol x); name = c.requires.0 } in
    let each : EachNamed before = λ k l. record { size = c.told-before k l; bytes = c.requires.2 k [] l; name = c.requires.1 k [] l } in
    let none : list_any (has_first (word r 0)) before ≡ false = rw c.words_of-w.ensures at (sym c.any_first.ensures ∙ c.if-not-any_first.true) in
    rw c.if-not-any_first.true (first_new r own before each none)

pub returns-else-not-any_first : goal.returns-else-not-any_first
returns-else-not-any_first c =
    let r = c.args.symbol.now in
    let before = c.args.before.now in
    let own : IsNamed r = record { size = c.told-symbol; bytes = λ x. omega (arith, c.fits-symbol x); name = c.requires.0 } in
    let each : EachNamed before = λ k l. record { size = c.told-before k l; bytes = c.requires.2 k [] l; name = c.requires.1 k [] l } in
    rw (c.any_words.ensures, c.words_of-w.ensures) (words_new r own before each)
