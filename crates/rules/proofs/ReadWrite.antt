-- What the command reader read is accepted by the command writer, and written to the same bytes exactly if the data words or the bytes of a
-- name that are not used are 0.
-- Assumes nothing.
use Rattle.std.specs.Prelude.{Some, Ok}
use mathlib.Core.Path.{◌≡◌, refl, sym, ap, subst, ◌∙◌}
use mathlib.Core.Logic.{◌↔◌}
use mathlib.Core.Bool.{true}
use mathlib.Core.List.{List, [], ◌∷◌, ◌++◌}
use Prim.Native.Nat.{ℕ, ◌+◌, ◌-◌, ◌≤◌}
use native.Mathlib.Omega.{arith}
use lib.Dec.{eqb}
use lib.ListN.{length, get_or, set}
use borrow.Author.Tests.{eqb-true, eqb-false}
use Rattle.lists.specs.Splice.{splice}
use Rattle.lists.proofs.Tests.{either, and_left, and_right}
use Rattle.lists.proofs.Splice.{splice_same}
use Rattle.wire.specs.Bytes.{AreBytes, be_at, word_bytes}
use Rattle.wire.proofs.Lengths.{word_bytes_length}
use Rattle.wire.proofs.Numbers.{cells, be_of}
use Rattle.wire.proofs.Words.{words_at_length}
use Rattle.wire.proofs.Undo.{words_fit, word_bytes_back, cells_append, cells_whole}
use Rattle.rules.specs.Packets.{length_field_of, header_at, command_apid, function_code_of, request_of, name_size_of, symbol_request_of, decode, data_words, name_words, packet_length, code_of, zero_rules, used_words, name_bytes, name_field, body_bytes, sealed, command_bytes}
use Rattle.rules.specs.Results.{answer_number}
use Rattle.rules.specs.Cases.{pool_of}
use Rattle.rules.specs.Ground.{write_command, read_command, words_beside}
use Rattle.rules.specs.ReadBack.{AreWords, letter, RestZero, ReadWrite}
use Rattle.rules.specs.declared.Command.{Command}
use Rattle.rules.specs.declared.Command.TheVariants.{Dump, Cancel, Load, PoolStatistics, SymbolValue, DumpSymbol}
use Rattle.rules.specs.declared.Header.{Header}
use Rattle.rules.proofs.Fits.{body_length, command_length}
use Rattle.rules.proofs.Allowed.{decode_dump, decode_cancel, decode_load, decode_pool, decode_value, decode_by_name, decode_other}
use Rattle.rules.proofs.Sealed.{sealed_back}
use Rattle.rules.proofs.UsedWords.{padded_at, filled_rest, filled_all, unused_word, load_words, value_words, by_name_words}
use Rattle.rules.proofs.GroundTests.{Writable, writable_in, Readable, readable_in, readable_out}
use Rattle.rules.proofs.FieldsBack.{pair_back, primary_back, identity_back, request_back}

-- THE COMMAND OF A PACKET

module _ (p : List ℕ) where
  known_same : (j k : Command) → decode p ≡ Some j → decode p ≡ Some k → j ≡ k
  known_same j k d e = cc

  -- what holds of the command of each function code holds of the command of the packet
  by_code : (P : Command → Type 0) → (function_code_of p ≡ 0 → P (Dump (request_of p))) → (function_code_of p ≡ 1 → P Cancel)
      → (function_code_of p ≡ 4 → P (Load (request_of p))) → (function_code_of p ≡ 7 → P (PoolStatistics (pool_of p)))
      → (function_code_of p ≡ 8 → P (SymbolValue (name_size_of p))) → (function_code_of p ≡ 9 → P (DumpSymbol (symbol_request_of p)))
      → (k : Command) → decode p ≡ Some k → P k
  by_code P dump cancel load pool value by_name k e =
      is 0 (λ c. subst P (known_same _ k (decode_dump p c) e) (dump c)) (λ n₀.
      is 1 (λ c. subst P (known_same _ k (decode_cancel p c) e) (cancel c)) (λ n₁.
      is 4 (λ c. subst P (known_same _ k (decode_load p c) e) (load c)) (λ n₄.
      is 7 (λ c. subst P (known_same _ k (decode_pool p c) e) (pool c)) (λ n₇.
      is 8 (λ c. subst P (known_same _ k (decode_value p c) e) (value c)) (λ n₈.
      is 9 (λ c. subst P (known_same _ k (decode_by_name p c) e) (by_name c)) (λ n₉.
      let d = decode_other p n₀ n₁ n₄ n₇ n₈ n₉ in
      let z : ◌≡◌ {A = ℕ} 0 1 = cc in absurd (omega arith)))))))
    where
      is : (n : ℕ) → (function_code_of p ≡ n → P k) → ((function_code_of p ≡ n → ⊥) → P k) → P k
      is n f g = either (eqb (function_code_of p) n) (λ t. f (eqb-true _ _ t)) (λ t. g (eqb-false _ _ t))

  code_known : (k : Command) → decode p ≡ Some k → function_code_of p ≡ code_of k
  code_known = by_code (λ k. function_code_of p ≡ code_of k) (λ c. c) (λ c. c) (λ c. c) (λ c. c) (λ c. c) (λ c. c)

-- THE BYTES

-- the body of a command that was read
abbrev BodyBack : List ℕ → Command → Type 0
BodyBack p k = zero_rules p k ≡ true → RestZero k (words_beside p k) → body_bytes k (words_beside p k) ≡ cells (packet_length k - 10) p 10

module _ (p : List ℕ) (bytes : AreBytes p) where
  load_body_back : BodyBack p (Load (request_of p))
  load_body_back o z =
      let used = filled_all 11 (request_of p).size (data_words p ++ (0 ∷ [])) (data_words p) (words_at_length 11 p 16) (padded_at 1 (data_words p)) z in
      let request = request_back p bytes in
      let words = ap word_bytes used ∙ word_bytes_back 11 p 16 bytes in
      λ x. request x ++ words x

  name_back : get_or p 11 0 ≡ 0 → ((j : ℕ) → name_size_of p ≤ j → letter (name_words p) j ≡ 0) → name_field (name_size_of p) (name_words p) ≡ cells 50 p 10
  name_back e z =
      let pad = sym e in
      let bs = word_bytes (name_words p) in
      let n = word_bytes_length (name_words p) in
      let m = words_at_length 12 p 12 in
      let name = filled_all 48 (name_size_of p) bs bs (omega arith) (λ i. refl) z ∙ word_bytes_back 12 p 12 bytes in
      λ x. name_size_of p ∷ pad x ∷ name x

  value_body_back : BodyBack p (SymbolValue (name_size_of p))
  unfolding zero_rules
  value_body_back o z = name_back (eqb-true _ _ o) z

  by_name_body_back : BodyBack p (DumpSymbol (symbol_request_of p))
  unfolding zero_rules
  by_name_body_back o z =
      let a = eqb (get_or p 11 0) 0 in
      let b = eqb (be_at 2 p 66) 0 in
      let name = name_back (eqb-true _ _ (and_left a b o)) z in
      let offset = be_of 4 p 60 bytes in
      let size = be_of 2 p 64 bytes in
      let end = pair_back p bytes 0 66 (sym (eqb-true _ _ (and_right a b o))) in
      λ x. name x ++ offset x ++ size x ++ end x

  body_back : (k : Command) → decode p ≡ Some k → BodyBack p k
  body_back =
      by_code p (BodyBack p)
      (λ c o z. request_back p bytes)
      (λ c o z. refl)
      (λ c. load_body_back)
      (λ c o z. be_of 2 p 10 bytes)
      (λ c. value_body_back)
      (λ c. by_name_body_back)

  -- the packet but for its check byte, in its parts
  parts_back : (m : ℕ) → length p ≡ 10 + m → set (cells 10 p 0 ++ cells m p 10) 7 0 ≡ set p 7 0
  parts_back m e = ap (λ (l : List ℕ). set l 7 0) (sym (cells_append 10 m p 0) ∙ cells_whole (10 + m) p e)

  bytes_back : (k : Command) → Readable p k → RestZero k (words_beside p k) → command_bytes (header_at p 8) k (words_beside p k) ≡ p
  unfolding command_bytes
  bytes_back k r z =
      let box = r.box in
      let form = box.formed in
      let n = body_length k [] in
      let c = code_known p k r.known in
      let l : length_field_of p + 7 ≡ packet_length k = omega arith in
      let primary = primary_back p bytes 1 1 command_apid (packet_length k) form.version form.type form.second_header box.apid form.sequence_flags l in
      let code : code_of k ≡ get_or p 6 0 = omega arith in
      let identity = identity_back p bytes 8 in
      let body = body_back k r.known r.zeros z in
      let parts : command_bytes (header_at p 8) k (words_beside p k) ≡ sealed (set (cells 10 p 0 ++ cells (packet_length k - 10) p 10) 7 0) =
      λ x. sealed (primary x ++ (code x ∷ 0 ∷ []) ++ identity x ++ body x) in
      parts ∙ ap sealed (parts_back (packet_length k - 10) (omega arith)) ∙ sealed_back p (omega arith) form.check

  name_zero : (n : ℕ) → word_bytes (name_words p) ≡ name_bytes n (name_words p) → (j : ℕ) → n ≤ j → letter (name_words p) j ≡ 0
  name_zero n e j l = ap (λ (v : List ℕ). get_or v j 0) e ∙ filled_rest 48 n (word_bytes (name_words p)) j l

  -- a packet that is written again has nothing unused but 0
  rest_zero : (h : Header) (k : Command) → command_bytes h k (words_beside p k) ≡ p → RestZero k (words_beside p k)
  rest_zero h (Dump q) e = tt
  rest_zero h Cancel e = tt
  rest_zero h (Load q) e = λ i l.
      (let ws = data_words p ++ (0 ∷ []) in
      let fit : AreWords ws = λ j. (let x = padded_at 1 (data_words p) j in let y = words_fit 11 p 16 bytes j in omega arith) in
      let w : data_words p ≡ used_words q.size ws = ap data_words (sym e) ∙ load_words h q ws fit in
      padded_at 1 (data_words p) i ∙ ap (λ (v : List ℕ). get_or v i 0) w ∙ unused_word q.size ws i l)
  rest_zero h (PoolStatistics i) e = tt
  rest_zero h (SymbolValue n) e = name_zero n (ap (λ (r : List ℕ). word_bytes (name_words r)) (sym e) ∙ value_words h n (name_words p))
  rest_zero h (DumpSymbol q) e = name_zero q.name (ap (λ (r : List ℕ). word_bytes (name_words r)) (sym e) ∙ by_name_words h q (name_words p))

-- THE WRITER AFTER THE READER

module _ (p : List ℕ) (bytes : AreBytes p) (k : Command) (r : Readable p k) (buffer : List ℕ) (fits : length p ≤ length buffer) where
  read_writable : Writable (header_at p 8) k buffer
  read_writable =
      let n = r.bytes in
      let b₈ = bytes 8 in
      let b₉ = bytes 9 in
      record { room = omega arith; unit = omega arith; transaction = omega arith; count = omega arith; fields = r.fields }

  write_back : (answer_number (write_command (header_at p 8) k (words_beside p k) buffer).answer ≡ 0)
      × (((write_command (header_at p 8) k (words_beside p k) buffer).buffer ≡ splice buffer 0 p) ↔ RestZero k (words_beside p k))
  write_back =
      rw (writable_in (header_at p 8) k (words_beside p k) buffer read_writable) (
        refl,
        (
          λ e. rest_zero p bytes (header_at p 8) k (splice_same buffer _ p (command_length _ k _ ∙ sym r.bytes) e),
          λ z. ap (splice buffer 0) (bytes_back p bytes k r z),
        ),
      )

pub read_write : (h : Header) (k : Command) (p buffer : List ℕ) → AreBytes p → (read_command p).reading ≡ Ok (record { header = h; command = k })
    → length p ≤ length buffer
    → (answer_number (write_command h k (read_command p).words buffer).answer ≡ 0) × ReadWrite h k p buffer
read_write h k p buffer bytes e fits =
    let (r, g) = readable_out p h k e in rw (readable_in p k r, ← g) (write_back p bytes k r buffer fits)
