-- What the steps of the two readers leave.
-- Assumes nothing.
use Rattle.std.specs.Prelude.{Result, Ok, Err}
use mathlib.Core.Path.{◌≡◌, refl, sym, ap, ◌∙◌}
use mathlib.Core.Logic.{◌≢◌}
use mathlib.Core.List.{List, ◌++◌}
use Prim.Native.Nat.{ℕ, ◌+◌, ◌*◌, ◌≤◌}
use native.Mathlib.Omega.{arith}
use lib.ListN.{length, take, drop, length-append, length-take, length-drop}
use lib.Seq.{drop-drop}
use borrow.Rule.Slice.PartMut.{put_mid}
use borrow.Author.Tests.{eq-eqb, ne_eqb}
use Rattle.lists.specs.Splice.{splice}
use Rattle.lists.proofs.Runs.{splice_splice}
use Rattle.lists.proofs.Splice.{splice_length}
use Rattle.wire.specs.Bytes.{words_at}
use Rattle.rules.specs.Ground.{packet_rows, words_beside, read_command, conclude_packet, read_packet, packet_fields, packet_number}
use Rattle.rules.specs.Results.{number, lowest}
use Rattle.rules.specs.States.{piece_words}
use Rattle.rules.specs.declared.Command.{Command}
use Rattle.rules.specs.declared.Command.TheVariants.{Dump, Cancel, Load, PoolStatistics, SymbolValue, DumpSymbol}
use Rattle.rules.specs.declared.CommandRead.{CommandRead}
use Rattle.rules.specs.declared.DumpPacket.{DumpPacket}
use Rattle.rules.specs.declared.Refusal.{Refusal}
use Rattle.rules.specs.declared.Telecommand.{Telecommand}
use Rattle.rules.proofs.PacketTests.{packet_out, packet_in_lem}
use Rattle.block.proofs.Runs.{splice_all}
use Rattle.command_reader.proofs.Steps.{read_result}
use Rattle.ground_blocks.specs.Fields.{body_words, tail_words, head_words, field_words}
use Rattle.capi.specs.Commands.{lg_read_command, lg_read_packet}

-- THE COMMAND READER

body_length : (k : Command) → length (body_words k) ≡ 3
body_length (Dump q) = refl
body_length Cancel = refl
body_length (Load q) = refl
body_length (PoolStatistics i) = refl
body_length (SymbolValue n) = refl
body_length (DumpSymbol q) = refl

tail_length : (k : Command) → length (tail_words k) ≡ 2
tail_length (Dump q) = refl
tail_length Cancel = refl
tail_length (Load q) = refl
tail_length (PoolStatistics i) = refl
tail_length (SymbolValue n) = refl
tail_length (DumpSymbol q) = refl

-- the words beside a command are twelve
module _ (p : List ℕ) where
  beside_length : (k : Command) → length (words_beside p k) ≡ 12
  unfolding words_at
  beside_length (Dump q) = refl
  beside_length Cancel = refl
  beside_length (Load q) = refl
  beside_length (PoolStatistics i) = refl
  beside_length (SymbolValue n) = refl
  beside_length (DumpSymbol q) = refl

-- a block of 21 words, written from its start by 7, 12 and 2
module _ (b h ws t : List ℕ) (n : length b ≡ 21) (seven : length h ≡ 7) (twelve : length ws ≡ 12) (two : length t ≡ 2) where
  -- a part put back is a write at its start
  part_back : put_mid 7 12 (splice b 0 h) ws ≡ splice (splice b 0 h) 7 ws
  unfolding splice
  part_back = rw (twelve, drop-drop)

  two_runs : put_mid 7 12 (splice b 0 h) ws ≡ splice b 0 (h ++ ws)
  two_runs = part_back ∙ splice_splice b h ws 0 7 (omega arith) (omega arith)

  three_runs : (b₂ : List ℕ) → (19 + length t ≤ length (put_mid 7 12 (splice b 0 h) ws) → b₂ ≡ splice (put_mid 7 12 (splice b 0 h) ws) 19 t) → b₂ ≡ h ++ ws ++ t
  three_runs b₂ e =
      let most : length (h ++ ws) ≡ 19 = simp length-append (omega arith) in
      let all : length (h ++ ws ++ t) ≡ 21 = simp length-append (omega arith) in
      let long = ap length two_runs ∙ splice_length b 0 (h ++ ws) (omega arith) in
      e (omega arith) ∙ rw two_runs (splice_splice b (h ++ ws) t 0 19 (omega arith) (omega arith) ∙ splice_all b (h ++ ws ++ t) (omega arith))

module _ (p b : List ℕ) where
  pub command_other : length b ≢ 21 → (3 ≡ (lg_read_command p b).number) × (b ≡ (lg_read_command p b).block)
  unfolding lg_read_command
  command_other n = rw (ne_eqb (length b) 21 n) (refl, refl)

  module _ (n : length b ≡ 21) (d : Result Telecommand Refusal) (ed : d ≡ (read_command p).reading) where
    pub command_unread : (r : Refusal) → d ≡ Err r → (m : ℕ) → m ≡ number r → (m ≡ (lg_read_command p b).number) × (b ≡ (lg_read_command p b).block)
    unfolding lg_read_command
    command_unread r er m em = rw (eq-eqb (length b) 21 n, ← ed, er) (em, refl)

    -- the words beside the fields
    words_beside_lem : (f : Telecommand) → d ≡ Ok f → (read_command p).words ≡ words_beside p f.command
    words_beside_lem f ef = sym (ap (λ (r : CommandRead). r.words) (read_result p d (words_beside p f.command) ed (rw ef)))

    pub command_done : (f : Telecommand) → d ≡ Ok f → (h : List ℕ) → h ≡ head_words f
        → (b₁ : List ℕ) → (0 + length h ≤ length b → b₁ ≡ splice b 0 h)
        → (part : List ℕ) → (12 ≤ length (take 12 (drop 7 b₁)) → part ≡ splice (take 12 (drop 7 b₁)) 0 (words_beside p f.command))
        → (t : List ℕ) → t ≡ tail_words f.command
        → (b₂ : List ℕ) → (19 + length t ≤ length (put_mid 7 12 b₁ part) → b₂ ≡ splice (put_mid 7 12 b₁ part) 19 t)
        → (0 ≡ (lg_read_command p b).number) × (b₂ ≡ (lg_read_command p b).block)
    unfolding lg_read_command
    command_done f ef h eh b₁ e₁ part e₂ t et b₂ e₃ =
        let k = body_length f.command in
        let seven : length h ≡ 7 = rw eh (omega arith) in
        let one = e₁ (omega arith) in
        let same : length b₁ ≡ 21 = ap length one ∙ splice_length b 0 h (omega arith) ∙ n in
        let room : length (take 12 (drop 7 b₁)) ≡ 12 = simp (length-take, length-drop) (omega arith) in
        let twelve = beside_length p f.command in
        let two : part ≡ words_beside p f.command = e₂ (omega arith) ∙ splice_all (take 12 (drop 7 b₁)) (words_beside p f.command) (twelve ∙ sym room) in
        let m = tail_length f.command in
        let last : length t ≡ 2 = rw et (omega arith) in
        let three : b₂ ≡ h ++ words_beside p f.command ++ t = three_runs b h (words_beside p f.command) t n seven twelve last b₂ (rw (one, two) at e₃) in
        rw (eq-eqb (length b) 21 n, ← ed, ef) (refl, rw (three, eh, et, words_beside_lem f ef))

-- THE DUMP PACKET READER

words_read : Result DumpPacket Refusal → ℕ
words_read (Err r) = 0
words_read (Ok f) = f.words

module _ (p : List ℕ) (r : Result DumpPacket Refusal) (er : r ≡ (read_packet p).reading) where
  -- the packet's words, and how many bytes its data part has
  record PartIs (f : DumpPacket) : Type 0 where
    low : f.words ≤ 1016
    bytes : 4 * f.words ≡ length (read_packet p).part

  part_is : (f : DumpPacket) → r ≡ Ok f → PartIs f
  unfolding words_read piece_words
  part_is f ef =
      let zero : packet_number (read_packet p).reading ≡ 0 = rw (← er, ef) in
      let i = packet_out p zero in
      let q = packet_in_lem p i in
      let same : f.words ≡ (packet_fields p).words = ap words_read (sym ef ∙ er) ∙ rw q in
      let m = i.most in
      let b = i.bytes in
      record { low = omega arith; bytes = rw (q, length-drop) (omega arith) }

  pub packet_low : (f : DumpPacket) → r ≡ Ok f → f.words ≤ 1016
  packet_low f ef = (part_is f ef).low

  packet_bytes : (f : DumpPacket) → r ≡ Ok f → 4 * f.words ≡ length (read_packet p).part
  packet_bytes f ef = (part_is f ef).bytes

-- a packet that is refused has no data part
conclude_no_part : (p : List ℕ) (v : Result (Unit {0}) Refusal) (r : Refusal) → (conclude_packet p v).reading ≡ Err r → 0 ≡ length (conclude_packet p v).part
conclude_no_part p (Err q) r e = refl
conclude_no_part p (Ok tt) r e = let z : ◌≡◌ {A = ℕ} 0 1 = cc in absurd (omega arith)

no_part : (p : List ℕ) {r : Refusal} → (read_packet p).reading ≡ Err r → 0 ≡ length (read_packet p).part
unfolding read_packet
no_part p {r} e = conclude_no_part p (lowest (packet_rows p)) r e

module _ (p b : List ℕ) where
  pub packet_other : length b ≢ 8 → (3 ≡ (lg_read_packet p b).number) × (b ≡ (lg_read_packet p b).block) × (0 ≡ (lg_read_packet p b).bytes)
  unfolding lg_read_packet
  packet_other n = rw (ne_eqb (length b) 8 n) (refl, refl, refl)

  module _ (n : length b ≡ 8) (d : Result DumpPacket Refusal) (ed : d ≡ (read_packet p).reading) where
    pub packet_unread : (r : Refusal) → d ≡ Err r → (m : ℕ) → m ≡ number r
        → (m ≡ (lg_read_packet p b).number) × (b ≡ (lg_read_packet p b).block) × (0 ≡ (lg_read_packet p b).bytes)
    unfolding lg_read_packet
    packet_unread r er m em = let z = no_part p (sym ed ∙ er) in rw (eq-eqb (length b) 8 n, ← ed, er) (em, refl, z)

    pub packet_done : (f : DumpPacket) → d ≡ Ok f → (v : List ℕ) → v ≡ field_words f → (b' : List ℕ) → (0 + length v ≤ length b → b' ≡ splice b 0 v)
        → (0 ≡ (lg_read_packet p b).number) × (b' ≡ (lg_read_packet p b).block) × (4 * f.words ≡ (lg_read_packet p b).bytes)
    unfolding lg_read_packet
    packet_done f ef v ev b' e =
        let eight : length v ≡ 8 = rw ev in
        let all : b' ≡ field_words f = e (omega arith) ∙ splice_all b v (omega arith) ∙ ev in
        let bytes = packet_bytes p d ed f ef in
        rw (eq-eqb (length b) 8 n, ← ed, ef) (refl, all, bytes)
