-- Start-up and the good state judge each pool as if the other were none, and ask no right of a region but the dump right where a pool or a busy dump lies.
-- Assumes nothing.
use mathlib.Core.Path.{◌≡◌, refl, ◌∙◌}
use mathlib.Core.Logic.{◌≢◌, ◌↔◌, ◌⊎◌, inl, inr, ⊎_map}
use mathlib.Core.Bool.{true}
use mathlib.Core.List.{List, [], ◌∷◌}
use Prim.Native.Nat.{ℕ, suc, ◌<◌}
use native.Mathlib.Omega.{arith}
use Rattle.rules.specs.Regions.{region_at}
use Rattle.rules.specs.States.{pool_at, context_at, good_state}
use Rattle.rules.specs.GoodWhen.{LiesIn, DumpableIn, GoodRegion, GoodPool, GoodStart, GoodDump, Good}
use Rattle.rules.specs.PoolsApart.{no_pool, Starts, NotIn, OtherRights, with_pools, with_regions, RightsFor, PoolsApart}
use Rattle.rules.specs.declared.ActiveDump.{ActiveDump}
use Rattle.rules.specs.declared.Context.TheVariants.{Busy}
use Rattle.rules.specs.declared.Range.{Range}
use Rattle.rules.specs.declared.Region.{Region}
use Rattle.rules.specs.declared.State.{State}
use Rattle.rules.proofs.GoodWhen.{start_when, good_when}
use Rattle.rules.proofs.Refusals.{demand_1}

-- EACH POOL BY ITSELF

-- start-up is answered 0 exactly if table, pools and unit are by the rules
starts_when : (rs : List Region) (n : ℕ) (pools : List Range) (unit : ℕ) → Starts rs n pools unit ↔ GoodStart rs n pools unit
starts_when rs n pools unit =
    let ready = (demand_1.start rs n pools unit).ready in
    let good = start_when rs n pools unit in
    (λ h. good.0 (ready.0 h), λ g. ready.1 (good.1 g))

module _ (rs : List Region) (n : ℕ) where
  -- no pool is by the rules
  no_pool_good : GoodPool rs n no_pool
  no_pool_good = record { none = λ z. refl; aligned = λ some. absurd (some refl); region = λ some. absurd (some refl) }

  -- where start-up is by the rules with some pools, it is with any two that are
  with_pools_lem : (p q : Range) {pools : List Range} {unit : ℕ} → GoodStart rs n pools unit → GoodPool rs n p → GoodPool rs n q
      → GoodStart rs n (p ∷ q ∷ []) unit
  with_pools_lem p q g first second =
      record { some = g.some; sixteen = g.sixteen; regions = g.regions; first = first; second = second; unit_fits = g.unit_fits }

  module _ (p q : Range) (unit : ℕ) where
    -- two pools are by the rules exactly if each alone is
    each_good : GoodStart rs n (p ∷ q ∷ []) unit ↔ (GoodStart rs n (p ∷ no_pool ∷ []) unit × GoodStart rs n (no_pool ∷ q ∷ []) unit)
    each_good = (
      λ g. (with_pools_lem p no_pool g g.first no_pool_good, with_pools_lem no_pool q g no_pool_good g.second),
      λ g. with_pools_lem p q g.0 g.0.first g.1.second,
    )

    -- start-up takes two pools exactly if it takes each alone
    each : Starts rs n (p ∷ q ∷ []) unit ↔ (Starts rs n (p ∷ no_pool ∷ []) unit × Starts rs n (no_pool ∷ q ∷ []) unit)
    each = (
      λ h. let g = each_good.0 ((starts_when _ _ _ _).0 h) in ((starts_when _ _ _ _).1 g.0, (starts_when _ _ _ _).1 g.1),
      λ h. (starts_when _ _ _ _).1 (each_good.1 ((starts_when _ _ _ _).0 h.0, (starts_when _ _ _ _).0 h.1)),
    )

    -- and takes them in either order
    order : Starts rs n (p ∷ q ∷ []) unit → Starts rs n (q ∷ p ∷ []) unit
    order h = let g = (starts_when _ _ _ _).0 h in (starts_when _ _ _ _).1 (with_pools_lem q p g g.second g.first)

-- OTHER RIGHTS

module _ (rs other : List Region) (n : ℕ) (ranges : (i : ℕ) → (region_at other i).range ≡ (region_at rs i).range) where
  -- the rules of regions read their ranges alone
  same_region : (i : ℕ) → GoodRegion rs n i → GoodRegion other n i
  same_region i g =
      record {
        aligned = rw (ranges i) g.aligned;
        some = rw (ranges i) g.some;
        most = rw (ranges i) g.most;
        end = rw (ranges i) g.end;
        next = λ l. rw (ranges i, ranges (suc i)) (g.next l);
      }

  module _ (p : Range) (same : (i : ℕ) → i < n → ((region_at other i).dump ≡ (region_at rs i).dump) ⊎ NotIn rs n p i) where
    -- the region where a pool lies keeps its dump right
    right_kept : (i : ℕ) → p.words ≢ 0 → LiesIn (λ (g : Region). g.dump) rs n p i → (region_at other i).dump ≡ true
    right_kept i some l = by (same i l.in_use)
      where
        by : ((region_at other i).dump ≡ (region_at rs i).dump) ⊎ NotIn rs n p i → (region_at other i).dump ≡ true
        by (inl e) = e ∙ l.allowed
        by (inr out) = absurd (out some (record { in_use = l.in_use; from = l.from; to = l.to; allowed = refl }))

    -- so the pool lies there in the other table too
    still_dumpable : p.words ≢ 0 → DumpableIn rs n p → DumpableIn other n p
    still_dumpable some (i, l) =
        (i, record { in_use = l.in_use; from = rw (ranges i) l.from; to = rw (ranges i) l.to; allowed = right_kept i some l })

    -- and is by the rules there
    same_pool : GoodPool rs n p → GoodPool other n p
    same_pool g = record { none = g.none; aligned = g.aligned; region = λ some. still_dumpable some (g.region some) }

module _ (rs other : List Region) (n : ℕ) (p q : Range) (o : OtherRights rs other n p q) where
  -- start-up takes the other table too
  rights : (unit : ℕ) → Starts rs n (p ∷ q ∷ []) unit → Starts other n (p ∷ q ∷ []) unit
  rights unit h =
      let g = (starts_when rs n (p ∷ q ∷ []) unit).0 h in
      (starts_when other n (p ∷ q ∷ []) unit).1
      (record {
        some = g.some;
        sixteen = g.sixteen;
        regions = λ i l. same_region rs other n o.ranges i (g.regions i l);
        first = same_pool rs other n o.ranges p (λ i l. ⊎_map (λ e. e) (λ out. out.0) (o.rights i l)) g.first;
        second = same_pool rs other n o.ranges q (λ i l. ⊎_map (λ e. e) (λ out. out.1) (o.rights i l)) g.second;
        unit_fits = g.unit_fits;
      })

-- THE GOOD STATE

module _ (s : State) where
  -- a good state with other pools that are by the rules is good
  still_good : {from : List Range} (to : List Range) → Good (with_pools s from) → GoodStart s.regions s.count to s.unit → Good (with_pools s to)
  still_good to g start =
      record {
        start = start;
        last = g.last;
        replies = g.replies;
        values = g.values;
        packets = g.packets;
        accepted = g.accepted;
        refused = g.refused;
        four = g.four;
        dumps = g.dumps;
        apart = g.apart;
      }

  -- a state with two pools is good exactly if it is with each alone
  good : (p q : Range)
      → (good_state (with_pools s (p ∷ q ∷ [])) ≡ true)
      ↔ ((good_state (with_pools s (p ∷ no_pool ∷ [])) ≡ true) × (good_state (with_pools s (no_pool ∷ q ∷ [])) ≡ true))
  good p q = (
    λ h. let g = (good_when _).0 h in let e = (each_good _ _ p q _).0 g.start in
        ((good_when _).1 (still_good _ g e.0), (good_when _).1 (still_good _ g e.1)),
    λ h. let g = (good_when _).0 h.0 in
        (good_when _).1 (still_good _ g ((each_good _ _ p q _).1 (g.start, ((good_when _).0 h.1).start))),
  )

-- a good state with other rights where no pool and no busy dump lies is good
module _ (s : State) (other : List Region) (o : RightsFor s other) where
  abbrev rs : List Region
  rs = s.regions

  abbrev n : ℕ
  n = s.count

  start_still : GoodStart rs n s.pools s.unit → GoodStart other n s.pools s.unit
  start_still g =
      record {
        some = g.some;
        sixteen = g.sixteen;
        regions = λ i l. same_region rs other n o.ranges i (g.regions i l);
        first = same_pool rs other n o.ranges (pool_at s.pools 0) (λ i l. ⊎_map (λ e. e) (λ out. out.0) (o.rights i l)) g.first;
        second = same_pool rs other n o.ranges (pool_at s.pools 1) (λ i l. ⊎_map (λ e. e) (λ out. out.1) (o.rights i l)) g.second;
        unit_fits = g.unit_fits;
      }

  -- a busy dump still lies in a region with dump right
  dump_still : (j : ℕ) (d : ActiveDump) → context_at s.places j ≡ Busy d → GoodDump rs n d → GoodDump other n d
  dump_still j d e g =
      record {
        number = g.number;
        some = g.some;
        most = g.most;
        aligned = g.aligned;
        region =
            still_dumpable rs other n o.ranges d.range (λ i l. ⊎_map (λ e. e) (λ out some lies. out.2 j d e lies) (o.rights i l))
            (λ z. let k = g.some in omega arith) g.region;
        cut = g.cut;
        below = g.below;
      }

  rights_good : good_state s ≡ true → good_state (with_regions s other) ≡ true
  rights_good h =
      let g = (good_when s).0 h in
      (good_when (with_regions s other)).1
      (record {
        start = start_still g.start;
        last = g.last;
        replies = g.replies;
        values = g.values;
        packets = g.packets;
        accepted = g.accepted;
        refused = g.refused;
        four = g.four;
        dumps = λ i d l e. dump_still i d e (g.dumps i d l e);
        apart = g.apart;
      })

pub apart : PoolsApart
apart = record { each = each; order = order; rights = λ rs other n p q unit o. rights rs other n p q o unit; good = good; good_rights = rights_good }
