-- The command block gives the command back.
-- Assumes nothing.
use Rattle.std.specs.Prelude.{Some}
use mathlib.Core.Path.{◌≡◌, refl, ◌∙◌}
use mathlib.Core.List.{List, ◌++◌}
use Prim.Native.Nat.{ℕ, ◌+◌, ◌<◌, min}
use native.Mathlib.Omega.{arith}
use lib.ListN.{length, get_or, length-append}
use lib.Seq.{take_all}
use borrow.Author.Tests.{le-leb}
use Rattle.block.specs.Blocks.{word}
use Rattle.block.proofs.Runs.{list_is, in_front, in_rest}
use Rattle.rules.specs.ReadBack.{CommandFits}
use Rattle.rules.specs.declared.Command.{Command}
use Rattle.rules.specs.declared.Command.TheVariants.{Dump, Cancel, Load, PoolStatistics, SymbolValue, DumpSymbol}
use Rattle.rules.specs.declared.Header.{Header}
use Rattle.rules.specs.declared.Telecommand.{Telecommand}
use Rattle.ground_blocks.specs.Fields.{header_in, size_in, command_in, data_in, body_words, tail_words, head_words, block_words}
use Rattle.ground_blocks.specs.RoundTrip.{FieldsFit, CommandRoundTrip}

low_16 : (n : ℕ) → n < 65536 → min 65535 n ≡ n
low_16 n h = omega arith

low_8 : (n : ℕ) → n < 256 → min 255 n ≡ n
low_8 n h = omega arith

header_back : (f : Telecommand) (ws : List ℕ) → FieldsFit f → header_in (block_words f ws) ≡ f.header
header_back f ws h = rw (low_16 f.header.count h.count, low_8 f.header.unit h.unit, low_16 f.header.transaction h.transaction)

size_back : (n : ℕ) → n < 65536 → size_in n ≡ n
size_back n h = rw (le-leb n 65535 (omega arith))

seven : (k : Command) → length (body_words k) ≡ 3
seven (Dump q) = refl
seven Cancel = refl
seven (Load q) = refl
seven (PoolStatistics i) = refl
seven (SymbolValue n) = refl
seven (DumpSymbol q) = refl

-- the last two words
last_words : (f : Telecommand) (ws : List ℕ) (i : ℕ) → length ws ≡ 12 → word (block_words f ws) (19 + i) ≡ get_or (tail_words f.command) i 0
last_words f ws i n =
    let m = seven f.command in
    in_rest 0 (head_words f ++ ws) (tail_words f.command) 19 i (simp length-append (omega arith))

back : (h : Header) (k : Command) (ws : List ℕ) → CommandFits k → length ws ≡ 12 → command_in (block_words (record { header = h; command = k }) ws) ≡ Some k
unfolding command_in
back h (Dump q) ws f n = rw (size_back q.size f.0)
back h Cancel ws f n = refl
back h (Load q) ws f n = rw (size_back q.size f.0)
back h (PoolStatistics i) ws f n = rw (low_16 i f)
back h (SymbolValue m) ws f n = rw (last_words (record { header = h; command = SymbolValue m }) ws 0 n, low_8 m f)
back h (DumpSymbol q) ws f n =
    let t : Telecommand = record { header = h; command = DumpSymbol q } in
    rw (last_words t ws 0 n, last_words t ws 1 n, low_8 q.name f.0, size_back q.size f.2)

words_back : (f : Telecommand) (ws : List ℕ) → length ws ≡ 12 → data_in (block_words f ws) ≡ ws
words_back f ws n =
    let m = seven f.command in
    list_is 0 (λ (k : ℕ). word (block_words f ws) (7 + k)) ws 12 (omega arith)
    (λ i l. in_front 0 (head_words f ++ ws) (tail_words f.command) (7 + i) (simp length-append (omega arith)) ∙ in_rest 0 (head_words f) ws 7 i (omega arith))
    ∙ take_all 12 ws (omega arith)

pub command_round_trip : CommandRoundTrip
command_round_trip = record { header = header_back; command = λ f ws h. back f.header f.command ws h.command; words = words_back }
