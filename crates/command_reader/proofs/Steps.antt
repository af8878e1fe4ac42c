-- The command reader reads as a box of the packet's own unit does, and then tests number 9; its words go with its answer.
-- Assumes nothing.
use Rattle.std.specs.Prelude.{Option, Some, None, Result, Ok, Err}
use mathlib.Core.Path.{◌≡◌, refl, sym, ap, ◌∙◌}
use mathlib.Core.Bool.{Bool, true, false, ◌&&◌}
use mathlib.Core.List.{List, [], ◌∷◌, ◌++◌}
use Prim.Native.Nat.{ℕ}
use lib.Dec.{eqb}
use lib.ListN.{length, take, get_or}
use Rattle.lists.proofs.Tests.{either}
use Rattle.lists.specs.Splice.{splice}
use Rattle.wire.specs.Bytes.{be_at, words_at}
use Rattle.rules.specs.Results.{lowest}
use Rattle.rules.specs.Packets.{apid_of, command_apid, well_formed, decode, data_words, packet_length, field_rules, zero_rules}
use Rattle.rules.specs.Ground.{no_words, words_beside, reader_rows, fields_read, conclude_read, read_command}
use Rattle.rules.specs.declared.Command.{Command}
use Rattle.rules.specs.declared.Command.TheVariants.{Dump, Cancel, Load, PoolStatistics, SymbolValue, DumpSymbol}
use Rattle.rules.specs.declared.Telecommand.{Telecommand}
use Rattle.packet.specs.Frame.{headed_of}
use Rattle.command_reader.specs.Read.{read_as, read_by}
use Rattle.rules.specs.declared.SymbolRequest.{SymbolRequest}
use Rattle.command_reader.specs.Beside.{words_with}
use Rattle.rules.specs.declared.Refusal.{Refusal}

-- WHAT THE TABLE OF ITS ROWS GIVES

module _ (p : List ℕ) where
  -- for a packet that passed 4 and 5
  decoded_same : well_formed p ≡ true → eqb (apid_of p) command_apid ≡ true → (d : Option Command) → decode p ≡ d → read_as p d ≡ (read_command p).reading
  unfolding read_command reader_rows lowest
  decoded_same w a None e = rw (w, a, e)
  decoded_same w a (Some k) e =
      rw (w, a, e)
      (either (eqb (length p) (packet_length k))
      (λ l. rw l (either (field_rules k && zero_rules p k) (λ f. rw (f, e)) (λ f. rw f)))
      (λ l. rw l))

  malformed : well_formed p ≡ false → read_by p (headed_of p) ≡ (read_command p).reading
  unfolding read_command reader_rows lowest headed_of
  malformed w = rw w

  other_apid : well_formed p ≡ true → eqb (apid_of p) command_apid ≡ false → read_by p (headed_of p) ≡ (read_command p).reading
  unfolding read_command reader_rows lowest headed_of
  other_apid w a = rw (w, a)

  headed_right : well_formed p ≡ true → eqb (apid_of p) command_apid ≡ true → headed_of p ≡ (Ok tt)
  unfolding headed_of
  headed_right w a = rw (w, a)

  pub reading_is : read_by p (headed_of p) ≡ (read_command p).reading
  reading_is =
      either (well_formed p)
      (λ w. either (eqb (apid_of p) command_apid) (λ a. ap (read_by p) (headed_right w a) ∙ decoded_same w a (decode p) refl) (λ a. other_apid w a))
      (λ w. malformed w)

  pub zeros_by_name : (q : SymbolRequest) {a b : Bool} → a ≡ eqb (get_or p 11 0) 0 → b ≡ eqb (be_at 2 p 66) 0 → (a && b) ≡ zero_rules p (DumpSymbol q)
  unfolding zero_rules
  zeros_by_name q e f = rw (e, f)

-- twelve zeros, and eleven words over them
pub data_over_zeros : (l m n p : List ℕ) → m ≡ splice l 0 no_words → n ≡ splice m 0 (take 11 (data_words p)) → n ≡ splice l 0 (data_words p ++ (0 ∷ []))
unfolding splice words_at
data_over_zeros l m n p e f = f ∙ ap (λ (k : List ℕ). splice k 0 (data_words p)) e

-- twelve words written over twelve zeros
beside_whole : (p : List ℕ) (k : Command) → splice no_words 0 (words_beside p k) ≡ words_beside p k
unfolding splice words_at
beside_whole p (Dump q) = refl
beside_whole p Cancel = refl
beside_whole p (Load q) = refl
beside_whole p (PoolStatistics i) = refl
beside_whole p (SymbolValue n) = refl
beside_whole p (DumpSymbol q) = refl

pub with_fields : (p : List ℕ) (r : Result Telecommand Refusal) (f : Telecommand) (m : List ℕ) → r ≡ Ok f → m ≡ splice no_words 0 (words_beside p f.command) → m ≡ words_with p r
with_fields p r f m e g = g ∙ beside_whole p f.command ∙ ap (words_with p) (sym e)

-- the words beside an answer
words_of : (p : List ℕ) (v : Result (Unit {0}) Refusal) → lowest (reader_rows p) ≡ v → words_with p (conclude_read p v).reading ≡ (conclude_read p v).words
words_of p (Err r) e = refl
words_of p (Ok tt) e = decoded (decode p)
  where
    decoded : (d : Option Command) → words_with p (fields_read p d).reading ≡ (fields_read p d).words
    decoded None = refl
    decoded (Some k) = refl

-- an answer with its words is the result
pub read_result : (p : List ℕ) (r : Result Telecommand Refusal) (ws : List ℕ) → r ≡ (read_command p).reading → ws ≡ words_with p r
    → record { reading = r; words = ws } ≡ read_command p
unfolding read_command
read_result p r ws e f =
    let g : ws ≡ (read_command p).words = f ∙ ap (words_with p) e ∙ words_of p (lowest (reader_rows p)) refl in
    λ i. record { reading = e i; words = g i }
