-- What the command writer wrote is read back: the fields, and of the words beside them what the command uses.
-- Assumes nothing.
use Rattle.std.specs.Prelude.{Some, Ok}
use mathlib.Core.Path.{◌≡◌, refl, ap, subst⁻¹, ◌∙◌}
use mathlib.Core.Bool.{true}
use mathlib.Core.List.{List}
use Prim.Native.Nat.{ℕ, ◌≤◌, ◌<◌}
use native.Mathlib.Omega.{arith}
use lib.ListN.{get_or, take}
use borrow.Author.Tests.{eq-eqb}
use Rattle.lists.proofs.Splice.{splice_front}
use Rattle.wire.specs.Xor.{xor_all}
use Rattle.wire.specs.Bytes.{be_at, word_bytes}
use Rattle.rules.specs.Packets.{sequence_count_of, unit_at, transaction_at, header_at, request_of, name_size_of, symbol_request_of, decode, data_words, packet_length, field_rules, zero_rules, code_of, sealed, command_bytes}
use Rattle.rules.specs.Results.{answer_number}
use Rattle.rules.specs.Demand2.{ForThisBox}
use Rattle.rules.specs.Ground.{write_command, read_command, words_beside, fields_read}
use Rattle.rules.specs.ReadBack.{CommandFits, AreWords, UsedSame, WriteRead}
use Rattle.rules.specs.declared.Command.{Command}
use Rattle.rules.specs.declared.Command.TheVariants.{Dump, Cancel, Load, PoolStatistics, SymbolValue, DumpSymbol}
use Rattle.rules.specs.declared.Header.{Header}
use Rattle.rules.specs.declared.Request.{Request}
use Rattle.rules.specs.declared.SymbolRequest.{SymbolRequest}
use Rattle.rules.proofs.Fits.{body_length, command_length}
use Rattle.rules.proofs.Allowed.{decode_dump, decode_cancel, decode_load, decode_pool, decode_value, decode_by_name}
use Rattle.rules.proofs.Sealed.{sealed_check}
use Rattle.rules.proofs.UsedWords.{padded_at, filled_used, used_word, load_most, load_words, value_words, by_name_words, by_name_tail}
use Rattle.rules.proofs.GroundTests.{Writable, writable_out, writable_in, box_of, readable_in}
use Rattle.rules.proofs.WritesWhen.{fields_out}

-- A PACKET'S FIELDS FROM ITS BYTES

request_is : (p : List ℕ) (q : Request) → be_at 2 p 10 ≡ q.size → be_at 4 p 12 ≡ q.address.0 → request_of p ≡ q
request_is p q size address = λ x. record { size = size x; address = record { 0 = address x } }

symbol_is : (p : List ℕ) (q : SymbolRequest) → name_size_of p ≡ q.name → be_at 4 p 60 ≡ q.offset → be_at 2 p 64 ≡ q.size → symbol_request_of p ≡ q
symbol_is p q name offset size = λ x. record { name = name x; offset = offset x; size = size x }

header_is : (p : List ℕ) (h : Header) → sequence_count_of p ≡ h.count → unit_at p 8 ≡ h.unit → transaction_at p 8 ≡ h.transaction → header_at p 8 ≡ h
header_is p h count unit transaction = λ x. record { count = count x; unit = unit x; transaction = transaction x }

-- EACH COMMAND

code_most : (k : Command) → code_of k < 128
code_most (Dump q) = omega arith
code_most Cancel = omega arith
code_most (Load q) = omega arith
code_most (PoolStatistics i) = omega arith
code_most (SymbolValue n) = omega arith
code_most (DumpSymbol q) = omega arith

pub length_most : (k : Command) → packet_length k ≤ 68
length_most (Dump q) = omega arith
length_most Cancel = omega arith
length_most (Load q) = omega arith
length_most (PoolStatistics i) = omega arith
length_most (SymbolValue n) = omega arith
length_most (DumpSymbol q) = omega arith

-- A PACKET THAT WAS WRITTEN

module _ (h : Header) (ws : List ℕ) where
  pub command_check : (k : Command) → xor_all (command_bytes h k ws) ≡ 255
  unfolding command_bytes
  command_check k = sealed_check _ (omega arith) refl

  pub command_known : (k : Command) → CommandFits k → decode (command_bytes h k ws) ≡ Some k
  unfolding command_bytes sealed
  command_known (Dump q) fit =
      let p = command_bytes h (Dump q) ws in decode_dump p refl ∙ ap (λ (r : Request). Some (Dump r)) (request_is p q (omega arith) (omega arith))
  command_known Cancel fit = decode_cancel (command_bytes h Cancel ws) refl
  command_known (Load q) fit =
      let p = command_bytes h (Load q) ws in decode_load p refl ∙ ap (λ (r : Request). Some (Load r)) (request_is p q (omega arith) (omega arith))
  command_known (PoolStatistics i) fit =
      let p = command_bytes h (PoolStatistics i) ws in
      let e : be_at 2 p 10 ≡ i = omega arith in
      decode_pool p refl ∙ ap (λ (n : ℕ). Some (PoolStatistics n)) e
  command_known (SymbolValue n) fit = decode_value (command_bytes h (SymbolValue n) ws) refl
  command_known (DumpSymbol q) fit =
      let p = command_bytes h (DumpSymbol q) ws in
      let offset = by_name_tail h q ws 4 0 in
      let size = by_name_tail h q ws 2 4 in
      decode_by_name p refl ∙ ap (λ (r : SymbolRequest). Some (DumpSymbol r)) (symbol_is p q refl (omega arith) (omega arith))

  -- the bits that hold no field are 0
  command_zeros : (k : Command) → zero_rules (command_bytes h k ws) k ≡ true
  unfolding command_bytes sealed zero_rules
  command_zeros (Dump q) = refl
  command_zeros Cancel = refl
  command_zeros (Load q) = refl
  command_zeros (PoolStatistics i) = refl
  command_zeros (SymbolValue n) = refl
  command_zeros (DumpSymbol q) = eq-eqb _ _ (by_name_tail h q ws 2 6)

module _ (h : Header) (k : Command) (ws buffer : List ℕ) (w : Writable h k buffer) where
  command_box : ForThisBox (box_of (command_bytes h k ws)) (command_bytes h k ws)
  unfolding command_bytes sealed
  command_box =
      let b = body_length k ws in
      let c = code_most k in
      let m = length_most k in
      record {
        formed =
            record {
              bytes = omega arith;
              version = refl;
              type = refl;
              second_header = refl;
              sequence_flags = omega arith;
              length_field = omega arith;
              zero_bit = omega arith;
              check = command_check h ws k;
            };
        apid = refl;
        unit = refl;
      }

  command_header : header_at (command_bytes h k ws) 8 ≡ h
  unfolding command_bytes sealed
  command_header = header_is (command_bytes h k ws) h (omega arith) (omega arith) (omega arith)

  command_read : CommandFits k → read_command (command_bytes h k ws) ≡ fields_read (command_bytes h k ws) (Some k)
  command_read fit =
      readable_in (command_bytes h k ws) k
      (record { box = command_box; known = command_known h ws k fit; bytes = command_length h k ws; fields = w.fields; zeros = command_zeros h ws k })

  command_fields : CommandFits k → (read_command (command_bytes h k ws)).reading ≡ Ok (record { header = h; command = k })
  command_fields fit = rw (command_read fit, command_header)

-- of the words beside a command, what it uses
command_words : (h : Header) (k : Command) (ws : List ℕ) → field_rules k ≡ true → AreWords ws → UsedSame k (words_beside (command_bytes h k ws) k) ws
command_words h (Dump q) ws f fit = tt
command_words h Cancel ws f fit = tt
command_words h (Load q) ws f fit = λ i l.
    (let most = load_most q f in
    padded_at 1 (data_words (command_bytes h (Load q) ws)) i
    ∙ ap (λ (v : List ℕ). get_or v i 0) (load_words h q ws fit)
    ∙ used_word q.size ws i l (omega arith))
command_words h (PoolStatistics n) ws f fit = tt
command_words h (SymbolValue n) ws f fit = λ j l.
    (let most = (fields_out (SymbolValue n) f).1 in
    ap (λ (v : List ℕ). get_or v j 0) (value_words h n ws) ∙ filled_used 48 n (word_bytes ws) j l (omega arith))
command_words h (DumpSymbol q) ws f fit = λ j l.
    (let most = (fields_out (DumpSymbol q) f).1 in
    ap (λ (v : List ℕ). get_or v j 0) (by_name_words h q ws) ∙ filled_used 48 q.name (word_bytes ws) j l (omega arith))

-- the packet in the buffer that the writer leaves
pub packet_written : (h : Header) (k : Command) (ws buffer : List ℕ) → Writable h k buffer
    → take (packet_length k) (write_command h k ws buffer).buffer ≡ command_bytes h k ws
packet_written h k ws buffer w =
    rw (writable_in h k ws buffer w, ← command_length h k ws) (splice_front buffer (command_bytes h k ws))

pub write_read : (h : Header) (k : Command) (ws buffer : List ℕ) → CommandFits k → AreWords ws
    → answer_number (write_command h k ws buffer).answer ≡ 0
    → WriteRead h k ws (take (packet_length k) (write_command h k ws buffer).buffer)
write_read h k ws buffer fit words e =
    let w = writable_out h k ws buffer e in
    subst⁻¹ (WriteRead h k ws) (packet_written h k ws buffer w)
    (record {
      fields = command_fields h k ws buffer w fit;
      words = rw (command_read h k ws buffer w fit) (command_words h k ws w.fields words);
    })
