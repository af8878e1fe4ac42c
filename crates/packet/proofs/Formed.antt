-- What the header's tests say of a command, before its bytes are gone through.
-- Assumes nothing.
use mathlib.Core.Path.{◌≡◌, sym, ◌∙◌}
use mathlib.Core.Bool.{Bool, true, false, ◌&&◌, not}
use mathlib.Core.List.{List}
use Prim.Native.Nat.{ℕ, ◌/◌, ◌≤◌, ◌<◌}
use lib.Dec.{eqb}
use lib.ListN.{length, get_or}
use borrow.Author.Tests.{le-leb, lt-leb, not-true, not-false}
use Rattle.wire.specs.Xor.{xor_all}
use Rattle.rules.specs.Packets.{primary_rules, well_formed}

pub too_short : (p : List ℕ) → length p < 8 → false ≡ well_formed p
unfolding well_formed
too_short p h = rw (lt-leb 8 (length p) h)

module _ (p : List ℕ) (long : 8 ≤ length p) (a : Bool) (b : ℕ) (ea : a ≡ primary_rules 1 1 p) (eb : b ≡ get_or p 6 0) where
  header : Bool
  header = a && eqb (b / 128) 0

  same_header : header ≡ (primary_rules 1 1 p && eqb (get_or p 6 0 / 128) 0)
  unfolding header
  same_header = rw (ea, eb)

  pub header_wrong : not (a && eqb (b / 128) 0) ≡ true → false ≡ well_formed p
  unfolding well_formed header
  header_wrong h = rw (le-leb 8 (length p) long, sym same_header ∙ not-true header h)

  pub header_right : not (a && eqb (b / 128) 0) ≡ false → (x : ℕ) → x ≡ xor_all p → eqb x 255 ≡ well_formed p
  unfolding well_formed header
  header_right h x e = rw (e, le-leb 8 (length p) long, sym same_header ∙ not-false header h)
