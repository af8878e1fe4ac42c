-- The check byte: it makes the exclusive or of all bytes 255, and sealing a packet whose exclusive or is 255 puts its own check byte back.
-- Assumes nothing.
use mathlib.Core.Path.{◌≡◌, ap, ◌∙◌}
use mathlib.Core.List.{List}
use Prim.Native.Nat.{ℕ, ◌<◌}
use lib.Bits.{bit_xor, xor_comm, xor_zero_l, xor_zero_r, xor_self}
use lib.ListN.{length, get_or, set}
use lib.Seq.{set-set, set-get_or}
use Rattle.wire.specs.Xor.{xor_all}
use Rattle.wire.proofs.Xor.{xor_assoc, xor_twice, xor_set}
use Rattle.rules.specs.Packets.{sealed}

module _ (p : List ℕ) (long : 7 < length p) where
  pub sealed_check : get_or p 7 0 ≡ 0 → xor_all (sealed p) ≡ 255
  unfolding sealed
  sealed_check z =
      xor_set p 7 (bit_xor (xor_all p) 255) long
      ∙ ap (λ (x : ℕ). bit_xor (bit_xor (xor_all p) 255) (bit_xor x (xor_all p))) z
      ∙ xor_comm (bit_xor (xor_all p) 255) (xor_all p)
      ∙ xor_twice (xor_all p) 255

  -- the check byte that sealing finds for a packet with 0 in its place
  check_back : xor_all p ≡ 255 → bit_xor (xor_all (set p 7 0)) 255 ≡ get_or p 7 0
  check_back x =
      let v = get_or p 7 0 in
      ap (λ (y : ℕ). bit_xor y 255) (xor_set p 7 0 long ∙ xor_zero_l (bit_xor v (xor_all p)) ∙ ap (bit_xor v) x)
      ∙ xor_assoc v 255 255
      ∙ ap (bit_xor v) (xor_self 255)
      ∙ xor_zero_r v

  pub sealed_back : xor_all p ≡ 255 → sealed (set p 7 0) ≡ p
  unfolding sealed
  sealed_back x = set-set p 7 0 (bit_xor (xor_all (set p 7 0)) 255) ∙ ap (set p 7) (check_back x) ∙ set-get_or p 7 0
