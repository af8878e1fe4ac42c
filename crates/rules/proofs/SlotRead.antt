-- The dump packet reader accepts what a slot wrote, and gives back the fields and the data that the slot put there.
-- Assumes nothing.
use Rattle.std.specs.Prelude.{Ok}
use mathlib.Core.Path.{◌≡◌, ◌∙◌, refl, ap, sym, subst⁻¹}
use mathlib.Core.Bool.{true}
use mathlib.Core.List.{List, []}
use Prim.Native.Nat.{ℕ, ◌+◌, ◌*◌, ◌-◌, ◌≤◌, ◌<◌, min}
use native.Mathlib.Omega.{arith}
use lib.ListN.{length, length-take, length-drop}
use Rattle.wire.specs.Bytes.{word_bytes}
use Rattle.wire.proofs.Numbers.{be_back}
use Rattle.rules.specs.Regions.{end_of, any_right, dump_right, image_length}
use Rattle.rules.specs.States.{piece_words, good_state}
use Rattle.rules.specs.Packets.{sequence_count_of, length_field_of, unit_at, transaction_at}
use Rattle.rules.specs.Results.{answer_number}
use Rattle.rules.specs.Slots.{SlotArgs, longest_packet, packet_header, next_words, packet_bytes, slot_call}
use Rattle.rules.specs.Ground.{packet_fields, PacketRead, read_packet}
use Rattle.rules.specs.Demand2.{SlotDone}
use Rattle.rules.specs.ReadBack.{SlotFits, packet_of, fields_of}
use Rattle.rules.specs.declared.ActiveDump.{ActiveDump}
use Rattle.rules.specs.declared.DumpPacket.{DumpPacket}
use Rattle.rules.specs.declared.Header.{Header}
use Rattle.rules.specs.declared.State.{State}
use Rattle.rules.proofs.Fits.{packet_length_lem, next_most}
use Rattle.rules.proofs.Good.{DumpIs, GoodIs, good_out}
use Rattle.rules.proofs.AfterPacket.{piece_some}
use Rattle.rules.proofs.Located.{good_table}
use Rattle.rules.proofs.PacketTests.{sent_before, CutIs, PacketIs, packet_in_lem}
use Rattle.rules.proofs.Rules.{start_out}
use Rattle.rules.proofs.Shown.{packet_number_lem, packet_data, packet_range, packet_address, packet_count, served_dump, served_number}
use Rattle.rules.proofs.Slot.{slot}
use Rattle.rules.proofs.Table.{one_out, one_any, range_low, words_length}

-- THE BYTES

module _ (s : State) (tick : ℕ) (d : ActiveDump) (ws : List ℕ) where
  packet_sequence : s.packets ≤ 16383 → sequence_count_of (packet_bytes s tick d ws) ≡ s.packets
  unfolding packet_bytes
  packet_sequence h = omega arith

  packet_unit : s.unit ≤ 15 → d.transaction ≤ 4095 → unit_at (packet_bytes s tick d ws) 6 ≡ s.unit
  unfolding packet_bytes
  packet_unit h k = omega arith

  pub packet_tick : tick < 4294967296 → (packet_fields (packet_bytes s tick d ws)).tick ≡ tick
  unfolding packet_bytes
  packet_tick h = be_back 4 tick h

  pub packet_length_field : packet_header + 4 * length ws ≤ longest_packet → length_field_of (packet_bytes s tick d ws) + 7 ≡ packet_header + 4 * length ws
  unfolding packet_bytes
  packet_length_field h = omega arith

-- THE PACKET

-- what a slot puts into the packet of a dump fits in its fields, but for the tick, and the data are the dump's next cut
pub record Bounds (s : State) (c : SlotArgs) (d : ActiveDump) : Type 0 where
  pub dump : DumpIs s.regions s.count d
  pub packets : s.packets ≤ 16383
  pub unit : s.unit ≤ 15
  pub low : end_of d.range ≤ 4294967296
  pub cut : length (next_words s c.image d) ≡ min (piece_words d.range) (d.range.words - d.sent)
  pub longest : packet_header + 4 * length (next_words s c.image d) ≤ longest_packet

module _ (s : State) (c : SlotArgs) (x : SlotDone s c (slot_call s c)) where
  abbrev words : List ℕ
  words = next_words s c.image x.dump

  abbrev bytes : List ℕ
  bytes = packet_bytes s c.tick x.dump words

  -- the fields that the slot put there, with any tick
  abbrev fields_with : ℕ → DumpPacket
  fields_with tick = record { header = (fields_of s c x).header; tick = tick; range = x.dump.range; here = (fields_of s c x).here; words = length words }

  fields_back : (tick : ℕ) → (packet_fields bytes).tick ≡ tick → Bounds s c x.dump → packet_fields bytes ≡ fields_with tick
  unfolding packet_bytes
  fields_back tick e b =
      let d = x.dump in
      let count = packet_sequence s c.tick d words b.packets in
      let unit = packet_unit s c.tick d words b.unit b.dump.number in
      let number = packet_number_lem s c.tick d words [] b.dump.number in
      let range = packet_range s c.tick d words (omega arith) (omega arith) in
      let here = packet_address s c.tick d words (omega arith) in
      let size = packet_count s c.tick d words (omega arith) in
      λ i.
      record {
        header = record { count = count i; unit = unit i; transaction = number i };
        tick = e i;
        range = range i;
        here = record { 0 = here i };
        words = size i;
      }

  cut_is : (tick : ℕ) → Bounds s c x.dump → CutIs (fields_with tick)
  cut_is tick b =
      let d = x.dump in
      let e : sent_before (fields_with tick) ≡ d.sent = omega arith in
      record {
        multiple = b.dump.multiple;
        some = b.dump.some;
        most = b.dump.most;
        low = b.low;
        from = omega arith;
        word = omega arith;
        cut = rw e b.dump.cut;
        more = rw e b.dump.more;
        piece = rw e b.cut;
      }

  packet_is : Bounds s c x.dump → PacketIs bytes
  unfolding packet_bytes
  packet_is b =
      let tick = (packet_fields bytes).tick in
      let e = fields_back tick refl b in
      let l = packet_length_lem s c.tick x.dump words in
      let z = piece_some x.dump.range in
      record {
        formed =
            record {
              bytes = omega arith;
              version = refl;
              type = refl;
              second_header = refl;
              sequence_flags = omega arith;
              length_field = packet_length_field s c.tick x.dump words b.longest ∙ sym l;
            };
        apid = refl;
        some = subst⁻¹ (λ (f : DumpPacket). 1 ≤ f.words) e (omega arith);
        most = subst⁻¹ (λ (f : DumpPacket). f.words ≤ piece_words f.range) e (omega arith);
        bytes = subst⁻¹ (λ (f : DumpPacket). length bytes ≡ packet_header + 4 * f.words) e l;
        cut = subst⁻¹ CutIs e (cut_is tick b);
      }

  -- a slot of a good state keeps to the bounds

  pub bounds : good_state s ≡ true → length c.image ≡ image_length s.regions s.count → Bounds s c x.dump
  unfolding next_words
  bounds good image =
      let r = x.dump.range in
      let g : GoodIs s = good_out s good in
      let is : DumpIs s.regions s.count x.dump = served_dump s c (slot_call s c) x good in
      let one = one_any dump_right s.regions s.count r is.region in
      let lies = one_out any_right s.regions s.count r one in
      record {
        dump = is;
        packets = g.packets;
        unit = (start_out s.regions s.count s.pools s.unit g.rules).low;
        low = range_low s.regions s.count (good_table s good) r lies.0 lies.1;
        cut = rw (length-take, length-drop, words_length s.regions s.count r c.image one image);
        longest = next_most s c.image x.dump;
      }

  packet_read : SlotFits s c → read_packet (packet_of s c) ≡ record { reading = Ok (fields_of s c x); part = word_bytes words }
  packet_read fits =
      let b = bounds fits.good fits.image in
      let tick = packet_tick s c.tick x.dump words fits.tick in
      rw (x.packet, packet_in_lem bytes (packet_is b), fields_back c.tick tick b, packet_data s c.tick x.dump words)

pub slot_read : (s : State) (c : SlotArgs) → SlotFits s c → answer_number (slot_call s c).answer ≡ 0
    → (d : SlotDone s c (slot_call s c))
    × ((read_packet (packet_of s c)).reading ≡ Ok (fields_of s c d))
    × ((read_packet (packet_of s c)).part ≡ word_bytes (next_words s c.image d.dump))
slot_read s c fits h =
    let x : SlotDone s c (slot_call s c) = (slot s c fits.good fits.image fits.buffer).done h in
    let e = packet_read s c x fits in
    (x, ap (λ (r : PacketRead). r.reading) e, ap (λ (r : PacketRead). r.part) e)

-- Whatever the tick is, the reader accepts the packet, which names the state's unit and the number that stands in the buffer.
pub record Readable (s : State) (c : SlotArgs) : Type 0 where
  pub packet : PacketIs (packet_of s c)
  pub unit : unit_at (packet_of s c) 6 ≡ s.unit
  pub number : transaction_at (packet_of s c) 6 ≡ transaction_at (slot_call s c).buffer 6

pub slot_readable : (s : State) (c : SlotArgs) → good_state s ≡ true → length c.image ≡ image_length s.regions s.count
    → longest_packet ≤ length c.buffer → answer_number (slot_call s c).answer ≡ 0 → Readable s c
slot_readable s c good image buffer h =
    let x : SlotDone s c (slot_call s c) = (slot s c good image buffer).done h in
    let b = bounds s c x good image in
    let f = ap (λ (p : List ℕ). (packet_fields p).header) x.packet ∙ ap (λ (f : DumpPacket). f.header) (fields_back s c x _ refl b) in
    record {
      packet = subst⁻¹ PacketIs x.packet (packet_is s c x b);
      unit = ap (λ (k : Header). k.unit) f;
      number = ap (λ (k : Header). k.transaction) f ∙ sym (served_number s c (slot_call s c) x good);
    }
