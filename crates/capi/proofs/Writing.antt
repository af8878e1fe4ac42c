-- What the steps of the command writer leave.
-- Assumes nothing.
use Rattle.std.specs.Prelude.{Option, Some, None, Result, Ok, Err}
use mathlib.Core.Path.{◌≡◌, refl, sym, ap, ◌∙◌}
use mathlib.Core.Logic.{◌≢◌}
use mathlib.Core.List.{List}
use Prim.Native.Nat.{ℕ, ◌+◌, ◌%◌, ◌≤◌}
use native.Mathlib.Omega.{arith}
use lib.ListN.{length, take, drop, length-drop}
use lib.Seq.{get_or-drop}
use borrow.Author.Tests.{eq-eqb, ne_eqb}
use Rattle.rules.specs.Ground.{conclude_write, writer_rows, write_command}
use Rattle.rules.specs.Packets.{packet_length}
use Rattle.rules.specs.Results.{lowest, answer_number, answer_length}
use Rattle.rules.specs.declared.Command.{Command}
use Rattle.rules.specs.declared.Command.TheVariants.{Dump, Cancel, Load, PoolStatistics, SymbolValue, DumpSymbol}
use Rattle.rules.specs.declared.Header.{Header}
use Rattle.block.specs.Blocks.{word}
use Rattle.block.specs.Runs.{runs}
use Rattle.block.proofs.Runs.{list_is}
use Rattle.ground_blocks.specs.Fields.{header_in, command_in, data_in}
use Rattle.capi.specs.Commands.{lg_write_command}
use Rattle.rules.specs.declared.Refusal.{Refusal}
use Rattle.rules.specs.declared.Written.{Written}

-- a command's packet has at most 68 bytes
packet_most : (k : Command) → packet_length k ≤ 68
packet_most (Dump q) = omega arith
packet_most Cancel = omega arith
packet_most (Load q) = omega arith
packet_most (PoolStatistics i) = omega arith
packet_most (SymbolValue n) = omega arith
packet_most (DumpSymbol q) = omega arith

module _ (h : Header) (k : Command) (ws buffer : List ℕ) where
  conclude_most : (v : Result (Unit {0}) Refusal) → answer_length (conclude_write h k ws buffer v).answer ≤ 68
  conclude_most (Err r) = omega arith
  conclude_most (Ok tt) = packet_most k

  written_most : answer_length (write_command h k ws buffer).answer ≤ 68
  unfolding write_command
  written_most = conclude_most (lowest (writer_rows h k buffer))

  answer_most : (a : Result Written Refusal) → a ≡ (write_command h k ws buffer).answer → answer_length a ≤ 68
  answer_most a e = rw e written_most

module _ (b buffer : List ℕ) where
  pub write_other : length b ≢ 21 → (3 ≡ (lg_write_command b buffer).number) × (buffer ≡ (lg_write_command b buffer).buffer) × (0 ≡ (lg_write_command b buffer).bytes)
  unfolding lg_write_command
  write_other n = rw (ne_eqb (length b) 21 n) (refl, refl, refl)

  module _ (n : length b ≡ 21) (d : Option Command) (ed : d ≡ command_in b) where
    pub write_unknown : d ≡ None → (6 ≡ (lg_write_command b buffer).number) × (buffer ≡ (lg_write_command b buffer).buffer) × (0 ≡ (lg_write_command b buffer).bytes)
    unfolding lg_write_command
    write_unknown e = rw (eq-eqb (length b) 21 n, ← ed, e) (refl, refl, refl)

    -- words 7 to 18 of the block are the twelve words beside the command
    data_is : take 12 (drop 7 b) ≡ data_in b
    unfolding runs
    data_is =
        let l : 12 ≤ length (drop 7 b) = simp length-drop (omega arith) in
        sym (list_is 0 (λ (k : ℕ). word b (7 + k)) (drop 7 b) 12 l (λ i h. sym (get_or-drop 7 b i 0)))

    pub write_done : (k : Command) → d ≡ Some k → (h : Header) → h ≡ header_in b
        → (a : Result Written Refusal) (v : List ℕ) → (a ≡ (write_command h k (take 12 (drop 7 b)) buffer).answer) × (v ≡ (write_command h k (take 12 (drop 7 b)) buffer).buffer)
        → (m x : ℕ) → (m ≡ answer_number a) × (x ≡ answer_length a % 4294967296)
        → (m ≡ (lg_write_command b buffer).number) × (v ≡ (lg_write_command b buffer).buffer) × (x ≡ (lg_write_command b buffer).bytes)
    unfolding lg_write_command
    write_done k ek h eh a v e m x q =
        let low = answer_most h k (take 12 (drop 7 b)) buffer a e.0 in
        let bytes : answer_length a % 4294967296 ≡ answer_length a = omega arith in
        rw (eq-eqb (length b) 21 n, ← ed, ek, ← eh, ← data_is) (q.0 ∙ ap answer_number e.0, e.1, q.1 ∙ bytes ∙ ap answer_length e.0)
