-- Fields that were read from a packet's bytes, written: those bytes.
-- Assumes nothing.
use mathlib.Core.Path.{◌≡◌, ap, ap₂, ◌∙◌}
use mathlib.Core.List.{List, ◌++◌}
use Prim.Native.Nat.{ℕ, ◌+◌, ◌*◌, ◌-◌}
use native.Mathlib.Omega.{arith}
use Rattle.wire.specs.Bytes.{AreBytes, be, be_at}
use Rattle.wire.proofs.Numbers.{cells, be_of}
use Rattle.rules.specs.Packets.{primary_header, version_of, type_of, second_header_of, apid_of, sequence_flags_of, sequence_count_of, length_field_of, identity, unit_at, transaction_at, request_of, request_bytes}

module _ (p : List ℕ) (bytes : AreBytes p) where
  -- a number that two bytes hold
  pub pair_back : (x at : ℕ) → x ≡ be_at 2 p at → be 2 x ≡ cells 2 p at
  pair_back x at e = ap (be 2) e ∙ be_of 2 p at bytes

  pub primary_back : (type second apid n : ℕ) → version_of p ≡ 0 → type_of p ≡ type → second_header_of p ≡ second → apid_of p ≡ apid
      → sequence_flags_of p ≡ 3 → length_field_of p + 7 ≡ n
      → primary_header type second apid (sequence_count_of p) n ≡ cells 6 p 0
  primary_back type second apid n v t s a f l =
      let kind = pair_back (4096 * type + 2048 * second + apid) 0 (omega arith) in
      let count = pair_back (16384 * 3 + sequence_count_of p) 2 (omega arith) in
      let size = pair_back (n - 7) 4 (omega arith) in
      λ x. kind x ++ count x ++ size x

  pub identity_back : (at : ℕ) → identity (unit_at p at) (transaction_at p at) ≡ cells 2 p at
  identity_back at = pair_back (4096 * unit_at p at + transaction_at p at) at (omega arith)

  pub request_back : request_bytes (request_of p) ≡ cells 6 p 10
  request_back = ap₂ (λ (l m : List ℕ). l ++ m) (be_of 2 p 10 bytes) (be_of 4 p 12 bytes)
