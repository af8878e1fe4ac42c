-- Each number of a pool's walk exactly in its case.
-- Assumes nothing.
use mathlib.Core.Path.{◌≡◌, refl, sym, ◌∙◌}
use mathlib.Core.List.{List}
use Prim.Native.Nat.{ℕ}
use native.Mathlib.Omega.{arith}
use Rattle.rules.specs.Pools.{Walk, damaged, whole, blocks_of}
use Rattle.rules.proofs.Pools.{tiles_blocks, blocks_tiles}
use Rattle.pool.specs.Answers.{walked_of, WalkedNumbers}

module _ (ws : List ℕ) where
  by_walk : (w : Walk) → blocks_of ws ≡ w → WalkedNumbers ws (walked_of (blocks_of ws))
  by_walk damaged e =
      rw e
      (record {
        damaged = (λ z bs t. let h : whole bs ≡ damaged = sym (tiles_blocks t) ∙ e in let z : ◌≡◌ {A = ℕ} 0 1 = cc in omega arith, λ n. refl);
        whole = (λ z. absurd (omega arith), λ (bs, t, f). let h : whole bs ≡ damaged = sym (tiles_blocks t) ∙ e in let z : ◌≡◌ {A = ℕ} 0 1 = cc in absurd (omega arith));
      })
  by_walk (whole bs) e =
      let t = blocks_tiles ws bs e in
      rw e
      (record {
        damaged = (λ z. absurd (omega arith), λ n. absurd (n bs t));
        whole = (λ z. (bs, t, refl), λ n. refl);
      })

  pub walked_numbers : WalkedNumbers ws (walked_of (blocks_of ws))
  walked_numbers = by_walk (blocks_of ws) refl
