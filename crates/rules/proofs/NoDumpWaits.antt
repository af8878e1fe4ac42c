-- Demand 3, from demand 2.
-- Assumes nothing.
use mathlib.Core.Path.{◌≡◌, refl, ◌∙◌}
use mathlib.Core.List.{List}
use Prim.Native.Nat.{ℕ}
use native.Mathlib.Omega.{arith}
use Rattle.lists.proofs.Tests.{either}
use Rattle.rules.specs.States.{start_rules, entries_used, start_up, piece_words}
use Rattle.rules.specs.Results.{verdict_number}
use Rattle.rules.specs.Demand2.{Demand2}
use Rattle.rules.specs.Demand3.{Demand3}
use Rattle.rules.specs.declared.Range.{Range}
use Rattle.rules.specs.declared.Region.{Region}
use Rattle.rules.proofs.Cover.{pieces_cover}
use Rattle.rules.proofs.AfterPacket.{piece_some}
use Rattle.rules.proofs.Served.{chain_served}
use Rattle.rules.proofs.Lawful.{chain, handed}

-- the table that start-up answered 0 holds
start_table : (rs : List Region) (n : ℕ) (pools : List Range) (unit : ℕ) → verdict_number (start_up rs n pools unit).verdict ≡ 0
    → ((start_up rs n pools unit).state.regions ≡ entries_used rs n) × ((start_up rs n pools unit).state.count ≡ n)
unfolding start_up
start_table rs n pools unit h =
    either (start_rules rs n pools unit) (λ e. rw e (refl, refl)) (λ e. absurd (omega (arith, rw e at h)))

piece_size : (r : Range) → piece_words r ≡ 1016
unfolding piece_words
piece_size r = refl

pub demand_3 : Demand2 → Demand3
demand_3 D rs n pools unit h calls bytes =
    let s = (start_up rs n pools unit).state in
    let good = D.start_good rs n pools unit h in
    let table = start_table rs n pools unit h in (
      piece_size,
      λ xs ys e x. let r = handed D s calls good bytes xs ys e x in (r.regions ∙ table.0, r.count ∙ table.1),
      λ before after e t r x a un. (
        (chain_served t r before (rw x at (chain D s calls good bytes)) a un).1,
        pieces_cover (piece_words r) r.words (piece_some r),
      ),
    )
