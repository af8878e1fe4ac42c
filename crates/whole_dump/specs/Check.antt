-- Paper 02, A6: the ground desk's check of another vendor's dump. Are these packets, up to 65, back to back and in any order, one whole dump?
use Rattle.std.specs.Prelude.{Bool, true, false, ◌&&◌, ◌||◌, not, cond, List, ℕ, ◌+◌, ◌*◌, ◌-◌, ◌/◌, ◌%◌, ltb, eqb, length, take, drop, Result, Ok, Err}
use Rattle.lists.specs.Below.{any_below, sum_below, first_below}
use Rattle.wire.specs.Bytes.{be_at}
use Rattle.rules.specs.Regions.{start_of}
use Rattle.rules.specs.States.{piece_words}
use Rattle.rules.specs.Ground.{packet_fields, read_packet}
use Rattle.rules.specs.Demand3.{packets_due}
use Rattle.rules.specs.declared.DumpPacket.{DumpPacket}
use Rattle.rules.specs.declared.Refusal.{Refusal}

-- THE PACKETS. The list has a length of two bytes, big-endian, for each; a packet starts where the one before it ends. Packets and pieces are numbered
-- from 0.

abbrev pub most_packets : ℕ
most_packets = 65

abbrev pub packet_count : List ℕ → ℕ
packet_count lengths = length lengths / 2

abbrev pub length_at : List ℕ → ℕ → ℕ
length_at lengths i = be_at 2 lengths (2 * i)

-- the bytes of the packets before packet i
unfoldable pub bytes_before : List ℕ → ℕ → ℕ
bytes_before lengths i = sum_below (length_at lengths) i

-- packet i, as far as its bytes are there
unfoldable pub packet_at : List ℕ → List ℕ → ℕ → List ℕ
packet_at bytes lengths i = take (length_at lengths i) (drop (bytes_before lengths i) bytes)

-- 3: a list with an odd number of bytes, over 65 lengths, or bytes left over after the last packet
unfoldable pub unfit : List ℕ → List ℕ → Bool
unfit bytes lengths =
    not (eqb (length lengths % 2) 0) || ltb most_packets (packet_count lengths) || ltb (bytes_before lengths (packet_count lengths)) (length bytes)

-- WHAT A PACKET SAYS

-- the packet reader accepts it
abbrev pub is_read : Result DumpPacket Refusal → Bool
is_read (Err r) = false
is_read (Ok f) = true

-- the same unit, transaction, requested address and requested words
unfoldable pub agree : DumpPacket → DumpPacket → Bool
agree f g =
    eqb f.header.unit g.header.unit && eqb f.header.transaction g.header.transaction && eqb (start_of f.range) (start_of g.range)
    && eqb f.range.words g.range.words

-- the piece of the requested range that its data are
unfoldable pub piece_of : DumpPacket → ℕ
piece_of f = (f.here.0 - start_of f.range) / 4 / piece_words f.range

-- packet p has piece k
unfoldable pub has : ℕ → List ℕ → Bool
has k p = is_read (read_packet p).reading && eqb (piece_of (packet_fields p)) k

-- BAD PACKETS AND MISSING PIECES

module _ (bytes lengths : List ℕ) where
  -- past the bytes given
  abbrev pub is_past : ℕ → Bool
  is_past i = ltb (length bytes) (bytes_before lengths i + length_at lengths i)

  abbrev pub is_refused : ℕ → Bool
  is_refused i = not (is_read (read_packet (packet_at bytes lengths i)).reading)

  -- with the first packet
  abbrev pub disagrees : ℕ → Bool
  disagrees i = not (agree (packet_fields (packet_at bytes lengths 0)) (packet_fields (packet_at bytes lengths i)))

  -- an earlier packet's piece
  abbrev pub repeats : ℕ → Bool
  repeats i = any_below (λ j. has (piece_of (packet_fields (packet_at bytes lengths i))) (packet_at bytes lengths j)) i

  unfoldable pub is_bad : ℕ → Bool
  is_bad i = is_past i || is_refused i || disagrees i || repeats i

  -- of the first packet's range each piece is due; with no packets piece 0 is
  unfoldable pub pieces_due : ℕ
  pieces_due = cond (eqb (packet_count lengths) 0) 1 (packets_due (packet_fields (packet_at bytes lengths 0)).range)

  unfoldable pub is_missing : ℕ → Bool
  is_missing k = not (any_below (λ i. has k (packet_at bytes lengths i)) (packet_count lengths))

  -- the first bad packet and the lowest missing piece; as many as there are packets, or pieces due, where there is none
  abbrev pub first_bad : ℕ
  first_bad = first_below is_bad (packet_count lengths)

  abbrev pub first_missing : ℕ
  first_missing = first_below is_missing pieces_due

  -- THE NUMBER
  unfoldable pub check_dump : ℕ
  check_dump =
      cond (unfit bytes lengths) 3
      (cond (ltb first_bad (packet_count lengths)) (65536 + first_bad) (cond (ltb first_missing pieces_due) (131072 + first_missing) 0))
