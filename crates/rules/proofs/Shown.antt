-- What a slot's packet shows, read back from its bytes: its number, and the piece of its dump.
-- Assumes nothing.
use mathlib.Core.Path.{◌≡◌, ◌∙◌, refl, ap, sym}
use mathlib.Core.Bool.{true}
use mathlib.Core.List.{List, ◌++◌}
use Prim.Native.Nat.{ℕ, ◌+◌, ◌*◌, ◌/◌, ◌%◌, ◌≤◌, ◌<◌}
use native.Mathlib.Omega.{arith}
use native.Mathlib.Nat.{div-add-mod}
use lib.ListN.{length, drop, length-take, length-drop, take-append-drop}
use Rattle.wire.specs.Bytes.{word_bytes}
use Rattle.wire.proofs.Numbers.{be_back}
use Rattle.rules.specs.Regions.{start_of, end_of, any_right, dump_right, image_length, words_of}
use Rattle.rules.specs.States.{piece_words, good_state}
use Rattle.rules.specs.Packets.{transaction_at}
use Rattle.rules.specs.Results.{answer_length}
use Rattle.rules.specs.Commands.{Outcome}
use Rattle.rules.specs.Slots.{SlotArgs, place_after, packet_header, next_words, packet_bytes}
use Rattle.rules.specs.Ground.{packet_fields}
use Rattle.rules.specs.Demand2.{SlotDone}
use Rattle.rules.specs.Demand3.{slot, piece, range_in, Shows}
use Rattle.rules.specs.declared.ActiveDump.{ActiveDump}
use Rattle.rules.specs.declared.State.{State}
use Rattle.rules.proofs.Table.{one_out, one_any, range_low, words_length}
use Rattle.rules.proofs.Good.{DumpIs, dump_out, GoodIs, good_out}
use Rattle.rules.proofs.Located.{good_table}

-- THE BYTES

module _ (s : State) (tick : ℕ) (d : ActiveDump) (ws : List ℕ) where
  pub packet_number_lem : (rest : List ℕ) → d.transaction ≤ 4095 → transaction_at (packet_bytes s tick d ws ++ rest) 6 ≡ d.transaction
  unfolding packet_bytes
  packet_number_lem rest h = omega arith

  pub packet_data : drop packet_header (packet_bytes s tick d ws) ≡ word_bytes ws
  unfolding packet_bytes
  packet_data = refl

  pub packet_range : start_of d.range < 4294967296 → d.range.words < 4294967296 → (packet_fields (packet_bytes s tick d ws)).range ≡ d.range
  unfolding packet_bytes
  packet_range a b i =
      record { start = record { 0 = be_back 4 (start_of d.range) a i }; words = be_back 4 d.range.words b i }

  pub packet_address : start_of d.range + 4 * d.sent < 4294967296
      → (packet_fields (packet_bytes s tick d ws)).here.0 ≡ start_of d.range + 4 * d.sent
  unfolding packet_bytes
  packet_address h = be_back 4 (start_of d.range + 4 * d.sent) h

  pub packet_count : length ws < 4294967296 → (packet_fields (packet_bytes s tick d ws)).words ≡ length ws
  unfolding packet_bytes
  packet_count h = be_back 4 (length ws) h

-- A SLOT THAT SERVES

-- what was sent are whole pieces
sent_pieces : (d : ActiveDump) → d.sent % piece_words d.range ≡ 0 → piece_words d.range * (d.sent / piece_words d.range) ≡ d.sent
sent_pieces d h = omega (arith, div-add-mod d.sent (piece_words d.range))

-- the words of a dump's next packet are a piece of its range
next_piece : (s : State) (image : List ℕ) (d : ActiveDump) → d.sent % piece_words d.range ≡ 0
    → next_words s image d
    ≡ piece (piece_words d.range) (d.sent / piece_words d.range) (words_of s.regions s.count d.range image)
unfolding next_words
next_piece s image d h = rw (sent_pieces d h)

module _ (s : State) (c : SlotArgs) (o : Outcome) (x : SlotDone s c o) (good : good_state s ≡ true) where
  pub served_dump : DumpIs s.regions s.count x.dump
  served_dump =
      let g : GoodIs s = good_out s good in
      dump_out s.regions s.count x.dump (rw x.busy at (g.places.each (place_after s.last x.k) (omega arith)))

  -- the number in the buffer is the dump's
  pub served_number : transaction_at o.buffer 6 ≡ x.dump.transaction
  served_number =
      let d : DumpIs s.regions s.count x.dump = served_dump in
      let q = answer_length o.answer in
      rw (← take-append-drop q o.buffer, x.packet)
      (packet_number_lem s c.tick x.dump (next_words s c.image x.dump) (drop q o.buffer) d.number)

  pub served_shows : length c.image ≡ image_length s.regions s.count
      → Shows x.dump.range (x.dump.sent / piece_words x.dump.range) (record { given = s; call = slot c; out = o })
  unfolding range_in
  served_shows fit =
      let d = x.dump in
      let r = d.range in
      let is : DumpIs s.regions s.count d = served_dump in
      let one = one_any dump_right s.regions s.count r is.region in
      let lies = one_out any_right s.regions s.count r one in
      let low : end_of r ≤ 4294967296 = range_low s.regions s.count (good_table s good) r lies.0 lies.1 in
      let whole : length (words_of s.regions s.count r c.image) ≡ r.words = words_length s.regions s.count r c.image one fit in
      let next = next_piece s c.image d is.cut in
      let short : length (next_words s c.image d) < 4294967296 = rw next (simp (length-take, length-drop) (omega arith)) in
      let sent = sent_pieces d is.cut in
      let ws = next_words s c.image d in
      record {
        whole = whole;
        words = ap (drop packet_header) x.packet ∙ packet_data s c.tick d ws ∙ ap word_bytes next;
        request = ap (λ (p : List ℕ). (packet_fields p).range) x.packet ∙ packet_range s c.tick d ws (omega arith) (omega arith);
        address = ap (λ (p : List ℕ). (packet_fields p).here.0) x.packet ∙ packet_address s c.tick d ws (omega arith)
            ∙ ap (λ (n : ℕ). start_of r + 4 * n) (sym sent);
        count = ap (λ (p : List ℕ). (packet_fields p).words) x.packet ∙ packet_count s c.tick d ws short ∙ ap length next;
      }
