-- A pool's figures in one struct: what a walk answers, and the reply that tells it.
use Rattle.std.specs.Prelude.{◌≡◌, ◌↔◌, List, [], ◌∷◌, ◌++◌, ℕ, ◌+◌, max, Option, Some, None}
use Rattle.wire.specs.Bytes.{be}
use Rattle.rules.specs.Packets.{primary_header, identity}
use Rattle.rules.specs.Pools.{Block, Walk, damaged, whole, Tiles, is_free, is_used, words, blocks, largest, usable, reply_apid, reply_length}
use Rattle.pool.specs.declared.Figures.{Figures}
use Rattle.pool.specs.declared.Tally.{Tally}

abbrev pub figures_of : List Block → Figures
figures_of bs =
    record {
      free = words is_free bs;
      freeblocks = blocks is_free bs;
      usable = usable is_free bs;
      used = words is_used bs;
      usedblocks = blocks is_used bs;
    }

abbrev pub walked_of : Walk → Option Figures
walked_of damaged = None
walked_of (whole bs) = Some (figures_of bs)

-- what the walk carries, with one more block
unfoldable pub tallied : Tally → Block → Tally
tallied t b =
    record {
      free = t.free + words is_free (b ∷ []);
      freeblocks = t.freeblocks + blocks is_free (b ∷ []);
      largest = max t.largest (largest is_free (b ∷ []));
      blocks = t.blocks + 1;
    }

-- THE REPLY, over the figures: the primary header, who answers which command about which pool, the figures

unfoldable pub figure_bytes : ℕ → ℕ → ℕ → ℕ → Figures → List ℕ
figure_bytes count unit transaction pool f =
    primary_header 0 0 reply_apid count reply_length ++ identity unit transaction ++ be 2 pool ++ be 2 0 ++ be 4 f.free ++ be 4 f.freeblocks ++ be 4 f.usable
    ++ be 4 f.used
    ++ be 4 f.usedblocks

-- THE NUMBERS (paper 01, "Result numbers"): 15 where the blocks are damaged, and 0 with the figures
abbrev pub walked_number : Option Figures → ℕ
walked_number None = 15
walked_number (Some f) = 0

-- each exactly in its case: the words are no blocks one after the other, or they are, and the figures are theirs
pub record WalkedNumbers (ws : List ℕ) (r : Option Figures) : Type 0 where
  pub damaged : (walked_number r ≡ 15) ↔ ((bs : List Block) → Tiles ws bs → ⊥)
  pub whole : (walked_number r ≡ 0) ↔ ((bs : List Block) × Tiles ws bs × (r ≡ Some (figures_of bs)))
