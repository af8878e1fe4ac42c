-- What a call writes fits in what it was lent: a load in the image, a reply and a packet in the buffer.
-- Assumes nothing.
use mathlib.Core.Path.{◌≡◌, refl}
use mathlib.Core.Bool.{true}
use mathlib.Core.List.{List}
use Prim.Native.Nat.{ℕ, ◌+◌, ◌*◌, ◌≤◌}
use native.Mathlib.Omega.{arith}
use lib.ListN.{length, take, length-take, length-append, length-replicate}
use Rattle.lists.specs.Splice.{splice}
use Rattle.lists.proofs.Splice.{splice_length}
use Rattle.wire.proofs.Lengths.{word_bytes_length}
use Rattle.rules.specs.Regions.{any_right, in_one_region, image_length, image_index}
use Rattle.rules.specs.States.{piece_words}
use Rattle.rules.specs.Packets.{data_words, requested, packet_length, used_words, name_bytes, body_bytes, sealed, command_bytes}
use Rattle.rules.specs.Pools.{Block, reply_length, reply_bytes}
use Rattle.rules.specs.Slots.{longest_packet, packet_header, next_words, packet_bytes}
use Rattle.rules.specs.declared.ActiveDump.{ActiveDump}
use Rattle.rules.specs.declared.Command.{Command}
use Rattle.rules.specs.declared.Command.TheVariants.{Dump, Cancel, Load, PoolStatistics, SymbolValue, DumpSymbol}
use Rattle.rules.specs.declared.Header.{Header}
use Rattle.rules.specs.declared.Region.{Region}
use Rattle.rules.specs.declared.Request.{Request}
use Rattle.rules.specs.declared.State.{State}
use Rattle.rules.proofs.Table.{image_fits}

-- A LOAD

pub load_keeps_length : (rs : List Region) (n : ℕ) (q : Request) (p image : List ℕ)
    → in_one_region any_right rs n (requested q) ≡ true → length image ≡ image_length rs n
    → length (splice image (image_index rs n (requested q)).0 (take q.size (data_words p))) ≡ length image
load_keeps_length rs n q p image inside e =
    splice_length image (image_index rs n (requested q)).0 (take q.size (data_words p)) fits
  where
    fits : (image_index rs n (requested q)).0 + length (take q.size (data_words p)) ≤ length image
    fits = let f = image_fits rs n (requested q) inside in simp length-take (omega arith)

-- A REPLY

pub reply_keeps_length : (count unit transaction pool : ℕ) (bs : List Block) (buffer : List ℕ) → reply_length ≤ length buffer
    → length (splice buffer 0 (reply_bytes count unit transaction pool bs)) ≡ length buffer
reply_keeps_length count unit transaction pool bs buffer l =
    let r = reply_length_lem in splice_length buffer 0 (reply_bytes count unit transaction pool bs) (omega arith)
  where
    reply_length_lem : length (reply_bytes count unit transaction pool bs) ≡ reply_length
    reply_length_lem = unfold reply_bytes in refl

-- A PACKET

pub packet_length_lem : (s : State) (tick : ℕ) (d : ActiveDump) (ws : List ℕ) → length (packet_bytes s tick d ws) ≡ packet_header + 4 * length ws
unfolding packet_bytes
packet_length_lem s tick d ws = let b = word_bytes_length ws in omega arith

pub next_most : (s : State) (image : List ℕ) (d : ActiveDump) → packet_header + 4 * length (next_words s image d) ≤ longest_packet
unfolding next_words piece_words
next_most s image d = simp length-take (omega arith)

pub packet_keeps_length : (s : State) (tick : ℕ) (d : ActiveDump) (image buffer : List ℕ) → longest_packet ≤ length buffer
    → length (splice buffer 0 (packet_bytes s tick d (next_words s image d))) ≡ length buffer
packet_keeps_length s tick d image buffer l =
    let n = next_most s image d in
    let p = packet_length_lem s tick d (next_words s image d) in
    splice_length buffer 0 (packet_bytes s tick d (next_words s image d)) (omega arith)

-- A COMMAND

-- a load has eleven words, used or not
pub used_length : (size : ℕ) (ws : List ℕ) → length (used_words size ws) ≡ 11
used_length size ws = simp (length-take, length-append, length-replicate) (omega arith)

-- and a name 48 bytes
pub name_length : (n : ℕ) (ws : List ℕ) → length (name_bytes n ws) ≡ 48
name_length n ws = simp (length-take, length-append, length-replicate) (omega arith)

pub body_length : (k : Command) (ws : List ℕ) → 10 + length (body_bytes k ws) ≡ packet_length k
body_length (Dump q) ws = refl
body_length Cancel ws = refl
body_length (Load q) ws = let b = word_bytes_length (used_words q.size ws) in let u = used_length q.size ws in omega arith
body_length (PoolStatistics i) ws = refl
body_length (SymbolValue n) ws = let u = name_length n ws in omega arith
body_length (DumpSymbol q) ws = let u = name_length q.name ws in simp (length-append) (omega arith)

pub command_length : (h : Header) (k : Command) (ws : List ℕ) → length (command_bytes h k ws) ≡ packet_length k
unfolding command_bytes sealed
command_length h k ws = let b = body_length k ws in omega arith

pub command_keeps_length : (h : Header) (k : Command) (ws buffer : List ℕ) → packet_length k ≤ length buffer
    → length (splice buffer 0 (command_bytes h k ws)) ≡ length buffer
command_keeps_length h k ws buffer l = let c = command_length h k ws in splice_length buffer 0 (command_bytes h k ws) (omega arith)
