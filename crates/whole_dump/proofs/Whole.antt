-- What 0 means, from the cases of the numbers.
-- Assumes nothing.
use mathlib.Core.Path.{◌≡◌, refl, sym, ap, subst, subst₂, ◌∙◌}
use mathlib.Core.Logic.{◌↔◌}
use mathlib.Core.List.Permᴰ
use mathlib.Core.List.{List, [], ◌∷◌}
use Prim.Native.Nat.{ℕ, zero, suc, ◌+◌, ◌*◌, ◌-◌, ◌/◌, ◌%◌, ◌≤◌, ◌<◌, min}
use native.Mathlib.Nat.{zero-add}
use native.Mathlib.Omega.{arith}
use lib.ListN.{length, get_or, length-append}
use lib.Seq.{take-length}
use Rattle.wire.specs.Bytes.{AreBytes}
use Rattle.wire.specs.ByByte.{two, four}
use Rattle.rules.specs.States.{piece_words}
use Rattle.rules.specs.Ground.{read_packet}
use Rattle.rules.specs.Demand3.{pieces, packets_due}
use Rattle.rules.specs.declared.Range.{Range}
use Rattle.whole_dump.specs.Check.{check_dump}
use Rattle.whole_dump.specs.Numbers.{bytes_of, Fits, IsRead, HasPiece, Agree, Listed, Sound, AllSound, Missing, Numbers}
use Rattle.whole_dump.specs.Whole.{back_to_back, lengths_of, IsPiece, InOrder, WholeDump, data_of, ZeroMeans}
use Rattle.whole_dump.proofs.Tests.{pieces_when}
use Rattle.whole_dump.proofs.Orders.{All, Some, EachTwo, perm_length, all_of, all_at, all_perm, some_of, some_at, some_perm, some_or_none, each_two_of, each_two_at, each_two_perm}
use Rattle.whole_dump.proofs.Handed.{lengths_two_each, before_within, bytes_of_is, packet_is, packets_of}
use Rattle.whole_dump.proofs.Pieces.{its_piece, has_piece_or_not, has_it, in_order_at, Below, Apart, put_in_order}

-- the pieces due are those that begin before the end of the range
due_when : (r : Range) (k : ℕ) → (1016 * k < r.words) ↔ (k < packets_due r)
unfolding piece_words
due_when r k = let w = pieces_when 1016 (omega arith) k r.words in (w.1, w.0)

pub listed_when : (ps : List (List ℕ)) (i : ℕ) → Listed (back_to_back ps) (lengths_of ps) i ↔ (i < length ps)
listed_when ps i = let e = lengths_two_each ps in (λ h. omega arith, λ h. omega arith)

-- FROM 0

module _ (p : List ℕ) (qs : List (List ℕ)) where
  abbrev ps : List (List ℕ)
  ps = p ∷ qs

  abbrev bytes : List ℕ
  bytes = back_to_back ps

  abbrev lengths : List ℕ
  lengths = lengths_of ps

  -- the first packet's unit, transaction and range
  abbrev unit : ℕ
  unit = two p 6 / 4096

  abbrev transaction : ℕ
  transaction = two p 6 % 4096

  abbrev range : Range
  range = record { start = record { 0 = four p 12 }; words = four p 16 }

  module _ (sound : AllSound bytes lengths) (none : (k : ℕ) → Missing bytes lengths k → ⊥) where
    sound_at : (i : ℕ) → i < length ps → Sound bytes lengths i
    sound_at i h = sound i ((listed_when ps i).1 h)

    agrees_at : (i : ℕ) → i < length ps → Agree p (get_or ps i [])
    agrees_at i h = subst₂ Agree (packet_is ps 0) (packet_is ps i) (sound_at i h).agrees

    is_piece : (i k : ℕ) → i < length ps → HasPiece (get_or ps i []) k → IsPiece unit transaction range k (get_or ps i [])
    is_piece i k h has =
        let a = agrees_at i h in
        record {
          is_read_lem = has.0;
          unit_is = ap (λ (x : ℕ). x / 4096) (sym a.0);
          transaction_is = ap (λ (x : ℕ). x % 4096) (sym a.0);
          address = sym a.1;
          words = sym a.2;
          here = omega arith;
        }

    each_below : All (Below unit transaction range (packets_due range)) ps
    each_below = all_of (Below unit transaction range (packets_due range)) [] ps below
      where
        below : (i : ℕ) → i < length ps → Below unit transaction range (packets_due range) (get_or ps i [])
        below i h =
            let k = its_piece (get_or ps i []) (subst IsRead (packet_is ps i) (sound_at i h).is_read_lem) in
            let a = (agrees_at i h).2 in
            (k.piece, (due_when range k.piece).0 (omega (arith, k.due)), is_piece i k.piece h k.has)

    each_two_apart : EachTwo (Apart unit transaction range) ps
    each_two_apart = each_two_of (Apart unit transaction range) [] ps apart
      where
        apart : (i j : ℕ) → i < j → j < length ps → Apart unit transaction range (get_or ps i []) (get_or ps j [])
        apart i j h l k x y =
            (sound_at j l).new i k h (rw (packet_is ps i) (has_it unit transaction range x)) (rw (packet_is ps j) (has_it unit transaction range y))

    none_absent : (k : ℕ) → k < packets_due range → Some (IsPiece unit transaction range k) ps
    none_absent k h =
        elim (some_or_none (λ (q : List ℕ). HasPiece q k) (has_piece_or_not k) ps) [
          | yes s ↦ (let (i, l, x) = some_at (λ (q : List ℕ). HasPiece q k) [] ps s in some_of (IsPiece unit transaction range k) [] ps i l (is_piece i k l x))
          | no n ↦ absurd (none k (missing n))
        ]
      where
        missing : (Some (λ (q : List ℕ). HasPiece q k) ps → ⊥) → Missing bytes lengths k
        missing n =
            record {
              due = λ l. rw (packet_is ps 0) ((due_when range k).1 h);
              first = λ e. absurd (omega (arith, lengths_two_each ps));
              absent = λ i l x. n (some_of (λ (q : List ℕ). HasPiece q k) [] ps i ((listed_when ps i).0 l) (subst (λ (q : List ℕ). HasPiece q k) (packet_is ps i) x));
            }

    whole_of : WholeDump ps
    whole_of =
        let o = put_in_order unit transaction range (packets_due range) ps each_below each_two_apart none_absent in
        let first = its_piece p (subst IsRead (packet_is ps 0) (sound_at 0 (omega arith)).is_read_lem) in
        record {
          unit = unit;
          transaction = transaction;
          range = range;
          some = omega (arith, first.due);
          ordered = o.ordered;
          order = o.order;
          each = o.each;
          all = o.all;
        }

whole_out : (ps : List (List ℕ)) → AllSound (back_to_back ps) (lengths_of ps) → ((k : ℕ) → Missing (back_to_back ps) (lengths_of ps) k → ⊥) → WholeDump ps
whole_out [] sound none = absurd (none 0 (record { due = λ l. omega arith; first = λ e. refl; absent = λ i l h. omega arith }))
whole_out (p ∷ qs) sound none = whole_of p qs sound none

-- packets that end inside the bytes
ends_inside : (n : ℕ) (bytes lengths : List ℕ) → ((i : ℕ) → i < n → bytes_of lengths (suc i) ≤ length bytes) → bytes_of lengths n ≤ length bytes
ends_inside zero bytes lengths f = omega arith
ends_inside (suc i) bytes lengths f = f i (omega arith)

-- TO 0

same_of : (x y a b : ℕ) → x / 4096 ≡ a → x % 4096 ≡ b → y / 4096 ≡ a → y % 4096 ≡ b → x ≡ y
same_of x y a b h k l m = omega arith

pieces_agree : {unit transaction j k : ℕ} {r : Range} {p q : List ℕ} → IsPiece unit transaction r j p → IsPiece unit transaction r k q → Agree p q
pieces_agree {unit} {transaction} {p = p} {q = q} x y = (
  same_of (two p 6) (two q 6) unit transaction x.unit_is x.transaction_is y.unit_is y.transaction_is,
  x.address ∙ sym y.address,
  x.words ∙ sym y.words,
)

-- no piece that both have
abbrev pub NoneShared : List ℕ → List ℕ → Type 0
NoneShared p q = (k : ℕ) → HasPiece p k → HasPiece q k → ⊥

module _ (ps : List (List ℕ)) (w : WholeDump ps) where
  abbrev Piece : ℕ → List ℕ → Type 0
  Piece = IsPiece w.unit w.transaction w.range

  abbrev qs : List (List ℕ)
  qs = w.ordered

  piece_at : (i : ℕ) → i < length qs → Piece i (get_or qs i [])
  piece_at i h = rw zero-add at (in_order_at w.unit w.transaction w.range qs 0 w.each i h)

  abbrev HasSome : List ℕ → Type 0
  HasSome p = (k : ℕ) × Piece k p

  has_some : (i : ℕ) → i < length ps → HasSome (get_or ps i [])
  has_some = all_at HasSome [] ps (all_perm HasSome (Permᴰ.symm w.order) (all_of HasSome [] qs (λ i h. (i, piece_at i h))))

  none_shared : EachTwo NoneShared ps
  none_shared = each_two_perm NoneShared (λ p q n k x y. n k y x) (Permᴰ.symm w.order) (each_two_of NoneShared [] qs apart)
    where
      apart : (i j : ℕ) → i < j → j < length qs → NoneShared (get_or qs i []) (get_or qs j [])
      apart i j h l k x y = let a = piece_at i (omega arith) in let b = piece_at j l in omega (arith, x.1, y.1, a.here, a.address, b.here, b.address)

  there : (k : ℕ) → k < length qs → Some (Piece k) ps
  there k h = some_perm (Piece k) (Permᴰ.symm w.order) (some_of (Piece k) [] qs k h (piece_at k h))

  not_empty : 0 < length qs
  not_empty = rw w.all ((due_when w.range 0).0 w.some)

  few : length ps ≤ 65
  unfolding pieces piece_words
  few =
      let a = piece_at 0 not_empty in
      let b = its_piece (get_or qs 0 []) a.is_read_lem in
      omega (arith, perm_length w.order, w.all, a.words, b.most)

  fits : Fits (back_to_back ps) (lengths_of ps)
  fits =
      record {
        packets = length ps;
        two_each = lengths_two_each ps;
        few = few;
        none_left = rw (bytes_of_is ps (length ps), take-length ps) (omega arith);
      }

  all_sound : AllSound (back_to_back ps) (lengths_of ps)
  all_sound i l =
      let h : i < length ps = (listed_when ps i).0 l in
      let here = (has_some i h).1 in
      record {
        inside = omega (arith, bytes_of_is ps (suc i), before_within ps (suc i));
        is_read_lem = rw (packet_is ps i) here.is_read_lem;
        agrees = rw (packet_is ps 0, packet_is ps i) (pieces_agree (has_some 0 (omega arith)).1 here);
        new = λ j k m x y. each_two_at NoneShared [] ps none_shared j i m h k (rw (packet_is ps j) at x) (rw (packet_is ps i) at y);
      }

  none_missing : (k : ℕ) → Missing (back_to_back ps) (lengths_of ps) k → ⊥
  none_missing k m =
      let long = perm_length w.order in
      let some : 0 < length ps = omega (arith, not_empty) in
      let due = rw (packet_is ps 0) at (m.due ((listed_when ps 0).1 some)) in
      let low : 1016 * k < w.range.words = omega (arith, (has_some 0 some).1.words) in
      let (i, h, x) = some_at (Piece k) [] ps (there k (rw w.all ((due_when w.range k).0 low))) in
      m.absent i ((listed_when ps i).1 h) (rw (packet_is ps i) (has_it w.unit w.transaction w.range x))

pub whole_in : Numbers → (ps : List (List ℕ)) → WholeDump ps → check_dump (back_to_back ps) (lengths_of ps) ≡ 0
whole_in N ps w = (N (back_to_back ps) (lengths_of ps)).zero.1 (fits ps w, all_sound ps w, none_missing ps w)

-- THE WORDS

words_from : (unit transaction : ℕ) (r : Range) (ps : List (List ℕ)) (j : ℕ) → InOrder unit transaction r j ps → j + length ps ≡ packets_due r
    → length (data_of ps) ≡ 4 * (r.words - 1016 * j)
unfolding pieces piece_words
words_from unit transaction r [] j o e = omega arith
words_from unit transaction r (p ∷ ps) j o e =
    let i = its_piece p o.0.is_read_lem in
    let rest = words_from unit transaction r ps (suc j) o.1 (omega arith) in
    let k : i.piece ≡ j = omega (arith, i.has.1, o.0.here, o.0.address) in
    let size : length (read_packet p).part ≡ 4 * min 1016 (r.words - 1016 * j) = rw (← k, ← o.0.words) i.size in
    simp length-append (omega arith)

pub zero_means : Numbers → ZeroMeans
zero_means N = record { whole = λ bytes lengths ok. (out bytes lengths ok, λ (ps, w, e, f). rw (e, f) (whole_in N ps w)); words = words_of }
  where
    words_of : (ps : List (List ℕ)) (w : WholeDump ps) → length (data_of w.ordered) ≡ 4 * w.range.words
    words_of ps w =
        omega (arith, words_from w.unit w.transaction w.range w.ordered 0 w.each (zero-add (length w.ordered) ∙ w.all))

    out : (bytes lengths : List ℕ) → AreBytes lengths → check_dump bytes lengths ≡ 0
        → (ps : List (List ℕ)) × WholeDump ps × (bytes ≡ back_to_back ps) × (lengths ≡ lengths_of ps)
    out bytes lengths ok z =
        let (fit, sound, none) = (N bytes lengths).zero.0 z in
        let n = fit.packets in
        let long = ends_inside n bytes lengths (λ i h. (sound i (omega (arith, fit.two_each))).inside) in
        let (ps, e, f) = packets_of n bytes lengths ok fit.two_each (omega (arith, fit.none_left)) in (
          ps,
          whole_out ps (subst₂ (λ (b l : List ℕ). AllSound b l) e f sound) (subst₂ (λ (b l : List ℕ). (k : ℕ) → Missing b l k → ⊥) e f none),
          e,
          f,
        )
