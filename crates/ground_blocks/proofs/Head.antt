-- The first seven words of a command.
-- Assumes nothing.
use mathlib.Core.Path.{◌≡◌, refl, ap}
use mathlib.Core.List.{List, [], ◌∷◌}
use Prim.Native.Nat.{ℕ}
use lib.ListN.{get_or}
use Rattle.rules.specs.Packets.{code_of}
use Rattle.rules.specs.declared.Command.{Command}
use Rattle.rules.specs.declared.Command.TheVariants.{Dump, Cancel, Load, PoolStatistics, SymbolValue, DumpSymbol}
use Rattle.rules.specs.declared.Telecommand.{Telecommand}
use Rattle.ground_blocks.specs.Fields.{body_words, head_words}

three_words : (k : Command) → (get_or (body_words k) 0 0 ∷ get_or (body_words k) 1 0 ∷ get_or (body_words k) 2 0 ∷ []) ≡ body_words k
three_words (Dump q) = refl
three_words Cancel = refl
three_words (Load q) = refl
three_words (PoolStatistics i) = refl
three_words (SymbolValue n) = refl
three_words (DumpSymbol q) = refl

pub head_is : (f : Telecommand) (code : ℕ) → code ≡ code_of f.command → (body : List ℕ) → body ≡ body_words f.command
    → (code ∷ f.header.count ∷ f.header.unit ∷ f.header.transaction ∷ get_or body 0 0 ∷ get_or body 1 0 ∷ get_or body 2 0 ∷ []) ≡ head_words f
head_is f code ec body eb =
    rw (ec, eb)
    (ap (λ (v : List ℕ). code_of f.command ∷ f.header.count ∷ f.header.unit ∷ f.header.transaction ∷ v) (three_words f.command))
