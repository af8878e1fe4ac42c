-- The steps of the command writer give what the table of its rows gives.
-- Assumes nothing.
use Rattle.std.specs.Prelude.{Ok, Err}
use mathlib.Core.Path.{◌≡◌, refl, sym, ap, ap₂, ◌∙◌}
use mathlib.Core.Bool.{Bool, true, false, ◌&&◌, not}
use mathlib.Core.List.{List, [], ◌∷◌, ◌++◌}
use Prim.Native.Nat.{ℕ, ◌+◌, ◌*◌, ◌-◌, ◌/◌, ◌%◌, ◌≤◌, ◌<◌}
use native.Mathlib.Omega.{arith}
use lib.Bits.{bit_xor, xor_zero_l}
use lib.Dec.{leb, ltb}
use lib.ListN.{length, set}
use borrow.Author.Tests.{leb-true, lt-ltb, le-ltb, not-true, not-false}
use Rattle.lists.specs.Splice.{splice}
use Rattle.lists.proofs.Runs.{sets_splice, splice_splice, splice_before}
use Rattle.lists.proofs.Tests.{and_left, and_right}
use Rattle.wire.specs.Bytes.{be, word_bytes}
use Rattle.wire.specs.Xor.{xor_all}
use Rattle.wire.proofs.Lengths.{word_bytes_length}
use Rattle.wire.proofs.Numbers.{two_halves}
use Rattle.wire.proofs.Xor.{xor_be, xor_joined}
use Rattle.rules.specs.Packets.{code_of, packet_length, field_rules, used_words, request_bytes, body_bytes, sealed, command_bytes}
use Rattle.rules.proofs.Fits.{used_length}
use Rattle.rules.specs.Results.{lowest}
use Rattle.rules.specs.Ground.{header_rules, writer_rows, write_command}
use Rattle.rules.specs.declared.Command.{Command}
use Rattle.rules.specs.declared.Command.TheVariants.{Dump, Cancel, Load, PoolStatistics, SymbolValue, DumpSymbol}
use Rattle.rules.specs.declared.Header.{Header}
use Rattle.rules.specs.declared.Request.{Request}
use Rattle.rules.specs.declared.Refusal.TheVariants.{BufferLength, BadField}
use Rattle.command_writer.specs.Start.{start_bytes}

-- THE EXCLUSIVE OR AS A WORD

-- a word for some bytes and one for others make one for all of them
pub both_words : (a b : ℕ) (p q : List ℕ) → xor_all (be 4 a) ≡ xor_all p → xor_all (be 4 b) ≡ xor_all q → xor_all (be 4 (bit_xor a b)) ≡ xor_all (p ++ q)
both_words a b p q e f = xor_be 4 a b ∙ ap₂ (λ (x y : ℕ). bit_xor x y) e f ∙ sym (xor_joined p q)

-- a halfword as a word
pub half_word : (x : ℕ) → x < 65536 → xor_all (be 4 x) ≡ xor_all (be 2 x)
unfolding xor_all
half_word x h =
    let e : x ≡ 0 * 65536 + x = omega arith in
    ap (λ (y : ℕ). xor_all (be 4 y)) e ∙ ap xor_all (two_halves 0 x h []) ∙ xor_zero_l _ ∙ xor_zero_l _

-- unit and transaction alone
pub identity_stores : (l : List ℕ) (id : ℕ) → id < 65536 → 10 ≤ length l → set (set l 8 (id / 256)) 9 (id % 256) ≡ splice l 8 (be 2 id)
identity_stores l id h long =
    let e : id / 256 ≡ id / 256 % 256 = omega arith in ap (λ (x : ℕ). set (set l 8 x) 9 (id % 256)) e ∙ sets_splice (be 2 id) l 8 long

-- a load's words right after its request
pub load_written : (l b m : List ℕ) (id : ℕ) (q : Request) (ws : List ℕ) (x y : ℕ) → 60 ≤ length l → b ≡ splice l 8 (be 2 id ++ request_bytes q)
    → m ≡ splice b 16 (word_bytes (used_words q.size ws)) → xor_all (be 4 x) ≡ xor_all (be 2 id ++ request_bytes q)
    → xor_all (be 4 y) ≡ xor_all (word_bytes (used_words q.size ws))
    → (m ≡ splice l 8 (be 2 id ++ body_bytes (Load q) ws)) × (xor_all (be 4 (bit_xor x y)) ≡ xor_all (be 2 id ++ body_bytes (Load q) ws))
load_written l b m id q ws x y long e e' ex ey =
    let words = word_bytes (used_words q.size ws) in
    let n = word_bytes_length (used_words q.size ws) in
    let u = used_length q.size ws in (
      rw (e', e) (splice_splice l (be 2 id ++ request_bytes q) words 8 16 refl (omega arith)),
      both_words x y (be 2 id ++ request_bytes q) words ex ey,
    )

-- THE START

module _ (count code n : ℕ) (byte : code < 256) (short : count ≤ 16383) where
  abbrev pub first_word : ℕ
  first_word = 7748 * 65536 + (49152 + count)

  abbrev pub second_word : ℕ
  second_word = (n - 7) * 65536 + code * 256

  -- the two words with a check byte
  start_words : (c : ℕ) → c < 256 → word_bytes (first_word ∷ (second_word + c) ∷ []) ≡ set (start_bytes count code n) 7 c
  unfolding word_bytes
  start_words c h =
      let e : second_word + c ≡ (n - 7) * 65536 + (code * 256 + c) = omega arith in
      let up : (code * 256 + c) / 256 % 256 ≡ code = omega arith in
      let low : (code * 256 + c) % 256 ≡ c = omega arith in
      rw (two_halves 7748 (49152 + count) (omega arith), e, two_halves (n - 7) (code * 256 + c) (omega arith), up, low)

  -- their exclusive or, the check byte still 0
  start_xor : xor_all (be 4 (bit_xor first_word second_word)) ≡ xor_all (start_bytes count code n)
  unfolding word_bytes
  start_xor =
      let e : second_word ≡ second_word + 0 = omega arith in
      both_words first_word second_word (be 4 first_word) (be 4 second_word) refl refl
      ∙ ap (λ (x : ℕ). xor_all (be 4 first_word ++ be 4 x)) e
      ∙ ap xor_all (start_words 0 (omega arith))

  -- the start from what the functions that were called gave
  pub start_written : (w x c rest : ℕ) → w ≡ code → x ≡ xor_all (be 4 (bit_xor (bit_xor first_word ((n - 7) * 65536 + w * 256)) rest)) → c ≡ bit_xor x 255
      → c < 256 → (l m : List ℕ) → m ≡ splice l 0 (word_bytes (first_word ∷ ((n - 7) * 65536 + w * 256 + c) ∷ []))
      → m ≡ splice l 0 (set (start_bytes count code n) 7 (bit_xor (bit_xor (xor_all (start_bytes count code n)) (xor_all (be 4 rest))) 255))
  start_written w x c rest ew ex ec h l m e =
      let x' : x ≡ bit_xor (xor_all (start_bytes count code n)) (xor_all (be 4 rest)) =
      ex ∙ ap (λ (y : ℕ). xor_all (be 4 (bit_xor (bit_xor first_word ((n - 7) * 65536 + y * 256)) rest))) ew
      ∙ xor_be 4 (bit_xor first_word second_word) rest
      ∙ ap (λ (y : ℕ). bit_xor y (xor_all (be 4 rest))) start_xor
      in
      e ∙ ap (λ (y : ℕ). splice l 0 (word_bytes (first_word ∷ ((n - 7) * 65536 + y * 256 + c) ∷ []))) ew
      ∙ ap (splice l 0) (start_words c h)
      ∙ ap (λ (y : ℕ). splice l 0 (set (start_bytes count code n) 7 y)) (ec ∙ ap (λ (y : ℕ). bit_xor y 255) x')

pub record HeaderFits (h : Header) : Type 0 where
  pub unit : h.unit ≤ 15
  pub transaction : h.transaction ≤ 4095
  pub count : h.count ≤ 16383

pub header_fits : (h : Header) → header_rules h ≡ true → HeaderFits h
unfolding header_rules
header_fits h e =
    let u = leb h.unit 15 in
    let t = leb h.transaction 4095 in
    let c = leb h.count 16383 in
    let f = and_left (u && t) c e in
    record {
      unit = leb-true _ _ (and_left u t f);
      transaction = leb-true _ _ (and_right u t f);
      count = leb-true _ _ (and_right (u && t) c e);
    }

length_bounds : (k : Command) → (10 ≤ packet_length k) × (packet_length k ≤ 68)
length_bounds (Dump q) = (omega arith, omega arith)
length_bounds Cancel = (omega arith, omega arith)
length_bounds (Load q) = (omega arith, omega arith)
length_bounds (PoolStatistics i) = (omega arith, omega arith)
length_bounds (SymbolValue n) = (omega arith, omega arith)
length_bounds (DumpSymbol q) = (omega arith, omega arith)

-- unit and transaction fit a halfword
pub rest_fits : (h : Header) (k : Command) → (header_rules h && field_rules k) ≡ true → (u : ℕ) → u ≡ h.unit → 4096 * u + h.transaction < 65536
rest_fits h k r u e = let f = header_fits h (and_left (header_rules h) (field_rules k) r) in omega arith

-- THE TESTS AND THE WRITES, from what the functions that were called gave

module _ (h : Header) (k : Command) (a b : Bool) (ea : a ≡ header_rules h) (eb : b ≡ field_rules k) where
  both : (a && b) ≡ (header_rules h && field_rules k)
  both = ap₂ (λ (x y : Bool). x && y) ea eb

  pub rules_fail : not (a && b) ≡ true → (header_rules h && field_rules k) ≡ false
  rules_fail r = sym both ∙ not-true (a && b) r

  pub rules_hold : not (a && b) ≡ false → (header_rules h && field_rules k) ≡ true
  rules_hold r = sym both ∙ not-false (a && b) r

module _ (h : Header) (k : Command) (n : ℕ) (en : n ≡ packet_length k) where
  pub start_fits : (header_rules h && field_rules k) ≡ true → (h.count ≤ 16383) × (7 ≤ n) × (n ≤ 68) × (10 ≤ n)
  start_fits r =
      let l = length_bounds k in
      let f = header_fits h (and_left (header_rules h) (field_rules k) r) in
      (f.count, omega arith, omega arith, omega arith)

  module _ (ws buffer : List ℕ) where
    pub too_short : length buffer < n → (Err BufferLength ≡ (write_command h k ws buffer).answer) × (buffer ≡ (write_command h k ws buffer).buffer)
    unfolding write_command writer_rows lowest
    too_short s = let e = lt-ltb (length buffer) (packet_length k) (omega arith) in (rw e, rw e)

    module _ (long : n ≤ length buffer) where
      long_enough : ltb (length buffer) (packet_length k) ≡ false
      long_enough = le-ltb (length buffer) (packet_length k) (omega arith)

      pub bad_field : (header_rules h && field_rules k) ≡ false
          → (Err BadField ≡ (write_command h k ws buffer).answer) × (buffer ≡ (write_command h k ws buffer).buffer)
      unfolding write_command writer_rows lowest
      bad_field r = (rw (long_enough, r), rw (long_enough, r))

      module _ (unit : ℕ) (eu : unit ≡ h.unit) (code rest : ℕ) (ec : code ≡ code_of k) where
        abbrev tail : List ℕ
        tail = be 2 (4096 * unit + h.transaction) ++ body_bytes k ws

        abbrev start : List ℕ
        start = start_bytes h.count code n

        -- what the two writes leave: the packet, and the later bytes as they were
        packet_stands : (b₁ : List ℕ) → b₁ ≡ splice buffer 8 tail → xor_all (be 4 rest) ≡ xor_all tail
            → splice b₁ 0 (set start 7 (bit_xor (bit_xor (xor_all start) (xor_all (be 4 rest))) 255)) ≡ splice buffer 0 (command_bytes h k ws)
        unfolding command_bytes sealed
        packet_stands b₁ e₁ er =
            let l = length_bounds k in
            let x : bit_xor (xor_all start) (xor_all (be 4 rest)) ≡ xor_all (start ++ tail) = ap (bit_xor (xor_all start)) er ∙ sym (xor_joined start tail) in
            ap₂ (λ (b : List ℕ) (c : ℕ). splice b 0 (set start 7 (bit_xor c 255))) e₁ x
            ∙ splice_before buffer (set start 7 (bit_xor (xor_all (start ++ tail)) 255)) tail 8 refl (omega arith)
            ∙ rw (eu, ec, en)

        pub packet_written : (header_rules h && field_rules k) ≡ true
            → (b₁ b₂ : List ℕ) → b₁ ≡ splice buffer 8 tail → xor_all (be 4 rest) ≡ xor_all tail
            → b₂ ≡ splice b₁ 0 (set start 7 (bit_xor (bit_xor (xor_all start) (xor_all (be 4 rest))) 255))
            → (Ok (record { length = n }) ≡ (write_command h k ws buffer).answer) × (b₂ ≡ (write_command h k ws buffer).buffer)
        unfolding write_command writer_rows lowest
        packet_written r b₁ b₂ e₁ er e₂ = (rw (long_enough, r, en), rw (long_enough, r) (e₂ ∙ packet_stands b₁ e₁ er))
