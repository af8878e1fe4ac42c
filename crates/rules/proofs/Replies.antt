-- The two replies from what was lent: the figures from the pool's own words, and a told value's bytes from those of the symbol table.
-- Assumes nothing.
use mathlib.Core.Path.{◌≡◌, refl, sym, ap, ◌∙◌, subst, subst⁻¹}
use mathlib.Core.Bool.{true, false}
use mathlib.Core.List.{List, ◌∷◌, ◌++◌}
use Prim.Native.Nat.{ℕ, zero, suc, ◌+◌, ◌*◌, ◌%◌, ◌≤◌, ◌<◌, max}
use native.Mathlib.Nat.{pos_of_ne-zero}
use native.Mathlib.Omega.{arith}
use lib.Dec.{leb}
use lib.ListN.{length, get_or, take, drop, length-drop, get_or-eq_default}
use lib.Seq.{length-take-le, get_or-take, get_or-drop, get_or-append-add}
use borrow.Author.Tests.{leb-true, leb-false}
use Rattle.lists.specs.Splice.{splice}
use Rattle.lists.proofs.Tests.{either, by_lt}
use Rattle.wire.specs.Bytes.{AreBytes, be}
use Rattle.wire.specs.ByByte.{byte, two, four}
use Rattle.wire.proofs.ByByte.{at_two, at_four}
use Rattle.wire.proofs.Numbers.{cells, be_of}
use Rattle.symbols.specs.Table.{name_of, value_of, Resolves}
use Rattle.symbols.specs.Table.Resolves.{value, alias}
use Rattle.rules.specs.States.{pool_at}
use Rattle.rules.specs.GoodWhen.{Lies}
use Rattle.rules.specs.Packets.{function_code_of, name_in, command_transaction}
use Rattle.rules.specs.Cases.{pool_of, name_from}
use Rattle.rules.specs.Pools.{Block, block_of, Tiles, end, next, is_free, is_used, words, blocks, largest}
use Rattle.rules.specs.Values.{value_bytes}
use Rattle.rules.specs.Commands.{CommandArgs, Outcome, command_call, pool_words}
use Rattle.rules.specs.Demand2.{IsAccepted, PoolAllowed, PoolDone, ValueDone}
use Rattle.rules.specs.PlainWords.{ImageFits, LiesDumpable, WordsInImage}
use Rattle.rules.specs.Replies.{Five, Counted, none, free, used, PoolReply, LeadsTo, here, through, ValueReply, Replies}
use Rattle.rules.specs.declared.State.{State}
use Rattle.rules.proofs.AcceptedWhen.{accepted_when}
use Rattle.rules.proofs.Allowed.{decode_value, value_named_lem}
use Rattle.rules.proofs.Effects.{effects, call_is}
use Rattle.rules.proofs.Located.{words_sum}
use Rattle.rules.proofs.Passed.{Passed, passed_out}
use Rattle.rules.proofs.PlainWords.{plain_words}

-- THE FIGURES OF A POOL

-- the figures of blocks
abbrev figures_of : List Block → Five
figures_of bs =
    record {
      free_words = words is_free bs;
      free_blocks_lem = blocks is_free bs;
      largest = largest is_free bs;
      used_words = words is_used bs;
      used_blocks_lem = blocks is_used bs;
    }

-- these figures, and those of a free block more
abbrev with_free : ℕ → Five → Five
with_free n f =
    record {
      free_words = f.free_words + n;
      free_blocks_lem = f.free_blocks_lem + 1;
      largest = max f.largest n;
      used_words = f.used_words;
      used_blocks_lem = f.used_blocks_lem;
    }

-- these figures, and those of a used block more
abbrev with_used : ℕ → Five → Five
with_used n f =
    record {
      free_words = f.free_words;
      free_blocks_lem = f.free_blocks_lem;
      largest = f.largest;
      used_words = f.used_words + n;
      used_blocks_lem = f.used_blocks_lem + 1;
    }

-- a free block before others adds its own
free_more : (b : Block) (bs : List Block) → b.used ≡ false → with_free b.size (figures_of bs) ≡ figures_of (b ∷ bs)
free_more b bs e =
    let w : words is_free bs + b.size ≡ words is_free (b ∷ bs) = rw e (omega arith) in
    let n : blocks is_free bs + 1 ≡ blocks is_free (b ∷ bs) = rw e (omega arith) in
    let m : max (largest is_free bs) b.size ≡ largest is_free (b ∷ bs) = rw e (omega arith) in
    let v : words is_used bs ≡ words is_used (b ∷ bs) = rw e (omega arith) in
    let k : blocks is_used bs ≡ blocks is_used (b ∷ bs) = rw e (omega arith) in
    λ i. record { free_words = w i; free_blocks_lem = n i; largest = m i; used_words = v i; used_blocks_lem = k i }

-- a used block before others adds its own
used_more : (b : Block) (bs : List Block) → b.used ≡ true → with_used b.size (figures_of bs) ≡ figures_of (b ∷ bs)
used_more b bs e =
    let w : words is_free bs ≡ words is_free (b ∷ bs) = rw e (omega arith) in
    let n : blocks is_free bs ≡ blocks is_free (b ∷ bs) = rw e (omega arith) in
    let m : largest is_free bs ≡ largest is_free (b ∷ bs) = rw e (omega arith) in
    let v : words is_used bs + b.size ≡ words is_used (b ∷ bs) = rw e (omega arith) in
    let k : blocks is_used bs + 1 ≡ blocks is_used (b ∷ bs) = rw e (omega arith) in
    λ i. record { free_words = w i; free_blocks_lem = n i; largest = m i; used_words = v i; used_blocks_lem = k i }

-- the words of blocks have the figures of those blocks
tiles_counted : {ws : List ℕ} {bs : List Block} → ((x : ℕ) → get_or ws x 0 < 4294967296) → Tiles ws bs → Counted ws (figures_of bs)
tiles_counted low end = none
tiles_counted low (next w rest ws bs e t) =
    let l : w < 4294967296 = low 0 in
    let after : (x : ℕ) → get_or ws x 0 < 4294967296 = λ x. rw (get_or-append-add rest ws x 0) at (low (suc (length rest + x))) in
    let more = tiles_counted after t in
    either (leb 2147483648 w)
    (λ u. let k = leb-true 2147483648 w u in subst (Counted (w ∷ rest ++ ws)) (used_more (block_of w) bs u) (used w rest ws (figures_of bs) (omega arith) e more))
    (λ u. let k = leb-false 2147483648 w u in subst (Counted (w ∷ rest ++ ws)) (free_more (block_of w) bs u) (free w rest ws (figures_of bs) (omega arith) e more))

module _ (s : State) (c : CommandArgs) (low : (x : ℕ) → get_or c.image x 0 < 4294967296) (code : byte c.packet 6 ≡ 7) (accepted : IsAccepted s c) where
  -- its function code, as demand 2 reads it
  pool_code : function_code_of c.packet ≡ 7
  pool_code = ap (λ (n : ℕ). n % 128) code

  -- its number, in bytes 10 and 11
  pool_number : pool_of c.packet ≡ two c.packet 10
  pool_number = at_two c.packet 10

  -- all its tests passed
  lent : Passed s c
  lent = passed_out s c accepted

  -- the image is as long as the regions in use
  lent_fits : ImageFits s c.image
  lent_fits = record { good = lent.good; as_long = lent.image ∙ words_sum s.regions s.count }

  -- its pool is there
  pool_allowed : PoolAllowed s c
  pool_allowed = (((accepted_when s c lent.good lent.image lent.reply).pool pool_code).0 accepted).1

  -- the pool has a word or more
  pool_some : 1 ≤ (pool_at s.pools (pool_of c.packet)).words
  pool_some = pos_of_ne-zero pool_allowed.there

  -- the pool lies in a region from one of its words on
  pool_lies : LiesDumpable s (pool_at s.pools (pool_of c.packet))
  pool_lies = plain_words.pool_lies s (pool_of c.packet) lent.good pool_allowed.pool pool_some

  -- its words are the image's from there on
  pool_in_image : WordsInImage s.regions (pool_at s.pools (pool_of c.packet)) pool_lies.0 pool_lies.1 c.image (pool_words s (pool_of c.packet) c.image)
  pool_in_image = plain_words.pool_words_lem s c.image (pool_of c.packet) pool_lies.0 pool_lies.1 lent_fits pool_some pool_lies.2

  -- each of them is below 2^32
  pool_low : (x : ℕ) → get_or (pool_words s (pool_of c.packet) c.image) x 0 < 4294967296
  pool_low x =
      let n = pool_in_image.count in
      by_lt x (pool_at s.pools (pool_of c.packet)).words
      (λ l. subst⁻¹ (λ (w : ℕ). w < 4294967296) (pool_in_image.word x l) (low _))
      (λ l. subst⁻¹ (λ (w : ℕ). w < 4294967296) (get_or-eq_default (pool_words s (pool_of c.packet) c.image) 0 (omega arith)) (omega arith))

  -- it did what demand 2 says of pool statistics
  pool_done : PoolDone s c (command_call s c)
  pool_done = (effects s c accepted).pool pool_code

  pool_reply : PoolReply s c
  pool_reply =
      let done = pool_done in
      record {
        region = pool_lies.0;
        offset = pool_lies.1;
        lies = subst (λ (n : ℕ). Lies s.regions s.count (pool_at s.pools n) pool_lies.0 pool_lies.1) pool_number pool_lies.2;
        words = pool_words s (pool_of c.packet) c.image;
        all = pool_in_image.count ∙ ap (λ (n : ℕ). (pool_at s.pools n).words) pool_number;
        word = λ k l. pool_in_image.word k (rw pool_in_image.count at l);
        five = figures_of done.found;
        counted = tiles_counted pool_low done.tiles;
        free_words = done.free.0;
        free_blocks_lem = done.free.1;
        usable = done.free.2;
        used_words = done.used.0;
        used_blocks_lem = done.used.1;
      }

-- THE VALUE OF A SYMBOL

-- a record that resolves to v leads to one whose last four bytes are v
resolved_leads : {t : List ℕ} {i v : ℕ} → Resolves t i v → (j : ℕ) × LeadsTo t i j × (v ≡ four t (56 * j + 52))
resolved_leads (value i z) = (i, here i z, refl)
resolved_leads (alias i v one low r) = let l = resolved_leads r in (l.0, through i l.0 one low l.1, l.2)

-- part of a list that lies in it whole has as many elements as it says
part_length : (m n : ℕ) (p : List ℕ) → m + n ≤ length p → length (take n (drop m p)) ≡ n
part_length m n p h = let d = length-drop m p in length-take-le n (drop m p) (omega arith)

-- and element k is the list's at m + k
part_byte : (m n : ℕ) (p : List ℕ) (k : ℕ) → k < n → byte (take n (drop m p)) k ≡ byte p (m + k)
part_byte m n p k l = get_or-take n (drop m p) k 0 l ∙ get_or-drop m p k 0

-- the cell at k is the byte k further on
cell_byte : (t : List ℕ) (at k : ℕ) → k < 4 → byte (cells 4 t at) k ≡ byte t (at + k)
cell_byte t at zero l = refl
cell_byte t at (suc zero) l = refl
cell_byte t at (suc (suc zero)) l = refl
cell_byte t at (suc (suc (suc zero))) l = refl
cell_byte t at (suc (suc (suc (suc k)))) l = absurd (omega arith)

-- the number in four bytes has those bytes
four_bytes : (t : List ℕ) (at k : ℕ) → AreBytes t → k < 4 → byte (be 4 (four t at)) k ≡ byte t (at + k)
four_bytes t at k b l = ap (λ (n : ℕ). byte (be 4 n) k) (sym (at_four t at)) ∙ ap (λ (p : List ℕ). byte p k) (be_of 4 t at b) ∙ cell_byte t at k l

-- a reply that tells v has the bytes of v from byte 8 on
told_bytes : (count unit t v : ℕ) (buffer : List ℕ) (k : ℕ) → k < 4 → byte (splice buffer 0 (value_bytes count unit t v)) (8 + k) ≡ byte (be 4 v) k
unfolding splice value_bytes
told_bytes count unit t v buffer zero l = refl
told_bytes count unit t v buffer (suc zero) l = refl
told_bytes count unit t v buffer (suc (suc zero)) l = refl
told_bytes count unit t v buffer (suc (suc (suc zero))) l = refl
told_bytes count unit t v buffer (suc (suc (suc (suc k)))) l = absurd (omega arith)

module _ (s : State) (c : CommandArgs) (bytes : AreBytes c.symbols) (code : byte c.packet 6 ≡ 8) (accepted : IsAccepted s c) where
  -- its function code, as demand 2 reads it
  value_code : function_code_of c.packet ≡ 8
  value_code = ap (λ (n : ℕ). n % 128) code

  -- it did what demand 2 says of the value of a symbol
  value_done : ValueDone s c (command_call s c)
  value_done = (effects s c accepted).value value_code bytes

  -- bytes 8 to 11 of the reply are those of the value
  value_written : (k : ℕ) → k < 4 → byte (command_call s c).buffer (8 + k) ≡ byte (be 4 value_done.v) k
  value_written k l =
      ap (λ (o : Outcome). byte o.buffer (8 + k)) (call_is s c accepted (decode_value c.packet value_code))
      ∙ told_bytes s.values s.unit (command_transaction c.packet) (value_of c.symbols (name_in c.packet)) c.reply k l
      ∙ ap (λ (n : ℕ). byte (be 4 n) k) (value_named_lem s c value_done.symbol)

  -- the record with the packet's name
  abbrev record_named : ℕ
  record_named = value_done.symbol.named.i

  -- its name has as many bytes as its second byte says
  record_name_length : length (name_of c.symbols record_named) ≡ byte c.symbols (56 * record_named + 1)
  record_name_length =
      let table = value_done.symbol.table in
      let whole = table.bytes in
      let inside = value_done.symbol.named.inside in
      let few = (table.symbols record_named (omega arith)).most in
      part_length (56 * record_named + 4) (byte c.symbols (56 * record_named + 1)) c.symbols (omega arith)

  -- the packet's name has as many as its byte 10 says
  packet_name_length : length (name_from c.packet) ≡ byte c.packet 10
  packet_name_length =
      let whole = value_done.symbol.bytes in
      let few = value_done.symbol.allowed.1 in
      part_length 12 (byte c.packet 10) c.packet (omega arith)

  -- both have as many
  same_size : byte c.symbols (56 * record_named + 1) ≡ byte c.packet 10
  same_size = sym record_name_length ∙ ap length value_done.symbol.named.own ∙ packet_name_length

  -- and the same
  same_bytes : (k : ℕ) → k < byte c.packet 10 → byte c.symbols (56 * record_named + 4 + k) ≡ byte c.packet (12 + k)
  same_bytes k l =
      sym (part_byte (56 * record_named + 4) (byte c.symbols (56 * record_named + 1)) c.symbols k (rw same_size l))
      ∙ ap (λ (p : List ℕ). byte p k) value_done.symbol.named.own
      ∙ part_byte 12 (byte c.packet 10) c.packet k l

  value_reply : ValueReply s c
  value_reply =
      let named = value_done.symbol.named in
      let leads = resolved_leads named.resolves in
      record {
        i = record_named;
        inside = named.inside;
        size = same_size;
        name = same_bytes;
        j = leads.0;
        leads = leads.1;
        value = λ k l. value_written k l ∙ ap (λ (n : ℕ). byte (be 4 n) k) leads.2 ∙ four_bytes c.symbols (56 * leads.0 + 52) k bytes l;
      }

pub replies_from_lent : Replies
replies_from_lent = record { pool = pool_reply; value = value_reply }
