-- The piece that an accepted packet has; and packets that have each piece once, put in the order of their pieces.
-- Assumes nothing.
use mathlib.Core.Path.{◌≡◌, refl, ap, ◌∙◌}
use mathlib.Core.Logic.{◌≢◌, inl, inr}
use mathlib.Core.List.Permᴰ
use mathlib.Core.List.{List, [], ◌∷◌, ◌++◌}
use Prim.Native.Nat.{ℕ, zero, suc, ◌+◌, ◌*◌, ◌-◌, ◌/◌, ◌%◌, ◌≤◌, ◌<◌, min}
use native.Mathlib.Decide.{ℕ_discrete}
use native.Mathlib.Nat.{zero-add, add-zero}
use native.Mathlib.Omega.{arith}
use lib.ListN.{length, get_or, length-append, length-drop}
use Rattle.wire.specs.ByByte.{four}
use Rattle.wire.proofs.ByByte.{at_four}
use Rattle.rules.specs.Regions.{start_of}
use Rattle.rules.specs.States.{piece_words}
use Rattle.rules.specs.Ground.{PacketRead, packet_fields, packet_number, read_packet}
use Rattle.rules.specs.declared.Range.{Range}
use Rattle.rules.proofs.PacketTests.{packet_out, packet_in_lem}
use Rattle.whole_dump.specs.Numbers.{IsRead, HasPiece}
use Rattle.whole_dump.specs.Whole.{Reordered, IsPiece, InOrder}
use Rattle.whole_dump.proofs.Orders.{All, Some, EachTwo, all_of, all_at, all_perm, some_perm, some_first, each_two_perm}

-- AN ACCEPTED PACKET

pub record ItsPiece (p : List ℕ) : Type 0 where
  pub piece : ℕ
  pub has : HasPiece p piece
  pub due : 1016 * piece < four p 16
  pub most : four p 16 ≤ 65535
  pub size : length (read_packet p).part ≡ 4 * min 1016 (four p 16 - 1016 * piece)

-- a cut of a range is one of its pieces
record CutAt (start words here size : ℕ) : Type 0 where
  number : ℕ
  at : here ≡ start + 4 * (1016 * number)
  inside : 1016 * number < words
  long : size ≡ min 1016 (words - 1016 * number)

cut_at : (start words here size : ℕ) → start ≤ here → (here - start) % 4 ≡ 0 → (here - start) / 4 % 1016 ≡ 0 → (here - start) / 4 < words
    → size ≡ min 1016 (words - (here - start) / 4) → CutAt start words here size
cut_at start words here size from word cut more piece =
    record { number = (here - start) / 4 / 1016; at = omega arith; inside = omega arith; long = omega arith }

pub its_piece : (p : List ℕ) → IsRead p → ItsPiece p
unfolding piece_words
its_piece p h =
    let f = packet_fields p in
    let k = packet_out p h in
    let c : CutAt (start_of f.range) f.range.words f.here.0 f.words =
    cut_at _ _ _ _ k.cut.from k.cut.word k.cut.cut k.cut.more k.cut.piece in
    record {
      piece = c.number;
      has = (h, omega (arith, c.at));
      due = omega (arith, c.inside);
      most = omega (arith, k.cut.most);
      size = ap (λ (r : PacketRead). length r.part) (packet_in_lem p k) ∙ length-drop 28 p ∙ end c.number k.bytes c.long;
    }
  where
    end : (k : ℕ) → length p ≡ 28 + 4 * (packet_fields p).words → (packet_fields p).words ≡ min 1016 ((packet_fields p).range.words - 1016 * k)
        → length p - 28 ≡ 4 * min 1016 (four p 16 - 1016 * k)
    end k bytes long = let words = at_four p 16 in omega arith

pub has_piece_or_not : (k : ℕ) (p : List ℕ) → Dec (HasPiece p k)
has_piece_or_not k p =
    elim (ℕ_discrete (packet_number (read_packet p).reading) 0) [
      | no n ↦ no (λ h. n h.0)
      | yes e ↦ elim (ℕ_discrete (four p 20) (four p 12 + 4 * (1016 * k))) [ yes f ↦ yes (e, f) | no n ↦ no (λ h. n h.1) ]
    ]

-- THE PIECES OF ONE RANGE

module _ (unit transaction : ℕ) (r : Range) where
  pub has_it : {j : ℕ} {p : List ℕ} → IsPiece unit transaction r j p → HasPiece p j
  has_it i = (i.is_read_lem, omega arith)

  pub in_order_at : (ps : List (List ℕ)) (j : ℕ) → InOrder unit transaction r j ps → (i : ℕ) → i < length ps → IsPiece unit transaction r (j + i) (get_or ps i [])
  in_order_at [] j o i h = absurd (omega arith)
  in_order_at (p ∷ ps) j o zero h = rw add-zero o.0
  in_order_at (p ∷ ps) j o (suc i) h = let e : j + suc i ≡ suc j + i = omega arith in rw e (in_order_at ps (suc j) o.1 i (omega arith))

  in_order_end : (ps : List (List ℕ)) (j : ℕ) (p : List ℕ) → InOrder unit transaction r j ps → IsPiece unit transaction r (j + length ps) p
      → InOrder unit transaction r j (ps ++ (p ∷ []))
  in_order_end [] j p o i = (rw add-zero at i, tt)
  in_order_end (q ∷ ps) j p o i = let e : j + suc (length ps) ≡ suc j + length ps = omega arith in (o.0, in_order_end ps (suc j) p o.1 (rw e at i))

  -- a piece below m, and no piece that both have
  abbrev pub Below : ℕ → List ℕ → Type 0
  Below m p = (k : ℕ) × (k < m) × IsPiece unit transaction r k p

  abbrev pub Apart : List ℕ → List ℕ → Type 0
  Apart p q = (k : ℕ) → IsPiece unit transaction r k p → IsPiece unit transaction r k q → ⊥

  pub record Ordered (m : ℕ) (ps : List (List ℕ)) : Type 0 where
    pub ordered : List (List ℕ)
    pub order : Reordered ps ordered
    pub each : InOrder unit transaction r 0 ordered
    pub all : length ordered ≡ m

  -- beside a packet with piece m
  module _ (m : ℕ) (p : List ℕ) (is : IsPiece unit transaction r m p) (rest : List (List ℕ)) where
    below_it : All (Below (suc m)) rest → All (Apart p) rest → All (Below m) rest
    below_it b a = all_of (Below m) [] rest lower
      where
        lower : (i : ℕ) → i < length rest → Below m (get_or rest i [])
        lower i h =
            let (k, l, q) = all_at (Below (suc m)) [] rest b i h in
            let n : k ≢ m = λ e. all_at (Apart p) [] rest a i h m is (rw e at q) in
            (k, omega arith, q)

    not_it : (k : ℕ) → k < m → Some (IsPiece unit transaction r k) (p ∷ rest) → Some (IsPiece unit transaction r k) rest
    not_it k h (inl q) = absurd (let a = is.here in let b = q.here in omega arith)
    not_it k h (inr s) = s

    put_last : {ps : List (List ℕ)} → Reordered ps (p ∷ rest) → Ordered m rest → Ordered (suc m) ps
    put_last d o =
        let qs = o.ordered in
        record {
          ordered = qs ++ (p ∷ []);
          order =
              Permᴰ.trans d
              (Permᴰ.trans (Permᴰ.cons refl (Permᴰ.trans o.order (Permᴰ.symm (Permᴰ.append-nil qs)))) (Permᴰ.symm (Permᴰ.middle p qs [])));
          each = in_order_end qs 0 p o.each (rw (zero-add, o.all) is);
          all = simp length-append (omega arith);
        }

  pub put_in_order : (m : ℕ) (ps : List (List ℕ)) → All (Below m) ps → EachTwo Apart ps
      → ((k : ℕ) → k < m → Some (IsPiece unit transaction r k) ps) → Ordered m ps
  put_in_order zero [] b a s = record { ordered = []; order = Permᴰ.nil; each = tt; all = refl }
  put_in_order zero (p ∷ ps) b a s = absurd (omega arith)
  put_in_order (suc m) ps b a s =
      let (p, is, (rest, d)) = some_first (IsPiece unit transaction r m) ps (s m (omega arith)) in
      let b₁ = all_perm (Below (suc m)) d b in
      let a₁ = each_two_perm Apart (λ x y n k h l. n k l h) d a in
      put_last m p is rest d
      (put_in_order m rest (below_it m p is rest b₁.1 a₁.0) a₁.1
      (λ k h. not_it m p is rest k h (some_perm (IsPiece unit transaction r k) d (s k (omega arith)))))
