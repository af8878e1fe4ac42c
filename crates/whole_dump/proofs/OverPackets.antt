-- The numbers over packets as they are handed over, from the cases of the numbers.
-- Assumes nothing.
use mathlib.Core.Path.{◌≡◌, refl, sym, ap, ap₂, subst, subst₂, ◌∙◌}
use mathlib.Core.Logic.{◌≢◌, ◌↔◌, ◌⊎◌, inl, inr}
use mathlib.Core.List.{List, [], ◌∷◌, ◌++◌, append-nil}
use Prim.Native.Nat.{ℕ, zero, suc, ◌+◌, ◌*◌, ◌≤◌, ◌<◌}
use native.Mathlib.Decide.{ℕ_discrete}
use native.Mathlib.Omega.{arith}
use lib.ListN.{length, get_or, take, drop, length-append, get_or-append}
use lib.Seq.{length-take-le, take-length, take-append-le, take_at, take-take, get_or-take, get_or-append_seam}
use Rattle.lists.proofs.Tests.{by_lt}
use Rattle.wire.specs.Bytes.{be_at}
use Rattle.wire.specs.ByByte.{two, four}
use Rattle.wire.proofs.ByByte.{at_two, at_four}
use Rattle.rules.specs.Ground.{packet_fields}
use Rattle.rules.specs.declared.Range.{Range}
use Rattle.whole_dump.specs.Check.{packet_at, check_dump}
use Rattle.whole_dump.specs.Numbers.{bytes_of, Fits, IsRead, HasPiece, Agree, Sound, AllSound, Numbers}
use Rattle.whole_dump.specs.Whole.{back_to_back, lengths_of}
use Rattle.whole_dump.specs.OverPackets.{checked, fields_at, Together, piece_address, OverPackets}
use Rattle.whole_dump.proofs.Tests.{before_is, same_when}
use Rattle.whole_dump.proofs.Orders.{some_at, some_of, some_or_none}
use Rattle.whole_dump.proofs.Handed.{lengths_two_each, length_is, back_to_back_append, before_within, bytes_of_is, packet_is}
use Rattle.whole_dump.proofs.Pieces.{its_piece, has_piece_or_not}
use Rattle.whole_dump.proofs.Whole.{listed_when, NoneShared}

-- TWO PACKETS

module _ (p q : List ℕ) where
  -- of one unit, transaction and range, with data at two addresses
  abbrev Beside : Type 0
  Beside =
      ((packet_fields p).header.unit ≡ (packet_fields q).header.unit)
      × ((packet_fields p).header.transaction ≡ (packet_fields q).header.transaction)
      × ((packet_fields p).range ≡ (packet_fields q).range)
      × ((packet_fields p).here.0 ≢ (packet_fields q).here.0)

  beside_agree : Beside → Agree p q
  beside_agree b = (
    sym (at_two p 6) ∙ (same_when (be_at 2 p 6) (be_at 2 q 6)).0 (b.0, b.1) ∙ at_two q 6,
    sym (at_four p 12) ∙ ap (λ (r : Range). r.start.0) b.2 ∙ at_four q 12,
    sym (at_four p 16) ∙ ap (λ (r : Range). r.words) b.2 ∙ at_four q 16,
  )

  beside_none_shared : Beside → NoneShared p q
  beside_none_shared b k x y =
      let a = (beside_agree b).1 in
      let e : four p 20 ≡ four q 20 = omega (arith, x.1, y.1) in
      b.3 (at_four p 20 ∙ e ∙ sym (at_four q 20))

  beside_of : IsRead p → IsRead q → Agree p q → NoneShared p q → Beside
  beside_of r s a n =
      let u = (same_when (be_at 2 p 6) (be_at 2 q 6)).1 (at_two p 6 ∙ a.0 ∙ sym (at_two q 6)) in (
        u.0,
        u.1,
        ap₂ (λ (x y : ℕ). record { start = record { 0 = x }; words = y }) (at_four p 12 ∙ a.1 ∙ sym (at_four q 12)) (at_four p 16 ∙ a.2 ∙ sym (at_four q 16)),
        λ e.
            let k = its_piece q s in
            let h = k.has.1 in
            let d : four p 20 ≡ four q 20 = sym (at_four p 20) ∙ e ∙ at_four q 20 in
            n k.piece (r, omega (arith, a.1)) k.has,
      )

with_piece : (k : ℕ) {p q : List ℕ} → p ≡ q → HasPiece p k → HasPiece q k
with_piece k = subst (λ (p : List ℕ). HasPiece p k)

-- THE FIRST PACKETS, found in any bytes and lengths

module _ (bytes lengths : List ℕ) (ps : List (List ℕ)) (found : (i : ℕ) → i < length ps → packet_at bytes lengths i ≡ get_or ps i []) where
  sound_of : Together ps → (i : ℕ) → i < length ps → bytes_of lengths i + two lengths (2 * i) ≤ length bytes → Sound bytes lengths i
  sound_of t i h room =
      record {
        inside = room;
        is_read_lem = subst IsRead (sym (found i h)) (t.0 i h);
        agrees = subst₂ Agree (sym (found 0 (omega arith))) (sym (found i h)) (first i h);
        new = λ j k l x y.
            beside_none_shared (get_or ps j []) (get_or ps i []) (t.1 j i l h) k (with_piece k (found j (omega arith)) x) (with_piece k (found i h) y);
      }
    where
      first : (i : ℕ) → i < length ps → Agree (get_or ps 0 []) (get_or ps i [])
      first zero h = (refl, refl, refl)
      first (suc i) h = beside_agree (get_or ps 0 []) (get_or ps (suc i) []) (t.1 0 (suc i) (omega arith) h)

  together_of : ((i : ℕ) → i < length ps → Sound bytes lengths i) → Together ps
  together_of sound = (read, two_of)
    where
      read : (i : ℕ) → i < length ps → IsRead (get_or ps i [])
      read i h = subst IsRead (found i h) (sound i h).is_read_lem

      agrees : (i : ℕ) → i < length ps → Agree (get_or ps 0 []) (get_or ps i [])
      agrees i h = subst₂ Agree (found 0 (omega arith)) (found i h) (sound i h).agrees

      two_of : (i j : ℕ) → i < j → j < length ps → Beside (get_or ps i []) (get_or ps j [])
      two_of i j l h =
          let m : i < length ps = omega arith in
          let a = agrees i m in
          let b = agrees j h in
          beside_of (get_or ps i []) (get_or ps j []) (read i m) (read j h) (sym a.0 ∙ b.0, sym a.1 ∙ b.1, sym a.2 ∙ b.2)
          (λ k x y. (sound j h).new i k l (with_piece k (sym (found i m)) x) (with_piece k (sym (found j h)) y))

-- HANDED OVER

module _ (ps : List (List ℕ)) where
  ends_inside : (i : ℕ) → bytes_of (lengths_of ps) i + two (lengths_of ps) (2 * i) ≤ length (back_to_back ps)
  ends_inside i = omega (arith, bytes_of_is ps (suc i), before_within ps (suc i))

  all_sound : Together ps → AllSound (back_to_back ps) (lengths_of ps)
  all_sound t i l = sound_of (back_to_back ps) (lengths_of ps) ps (λ j h. packet_is ps j) t i ((listed_when ps i).0 l) (ends_inside i)

  all_together : AllSound (back_to_back ps) (lengths_of ps) → Together ps
  all_together s = together_of (back_to_back ps) (lengths_of ps) ps (λ j h. packet_is ps j) (λ i h. s i ((listed_when ps i).1 h))

  -- the same of the first i
  module _ (i : ℕ) (h : i ≤ length ps) where
    found_first : (j : ℕ) → j < length (take i ps) → packet_at (back_to_back ps) (lengths_of ps) j ≡ get_or (take i ps) j []
    found_first j l = let e = length-take-le i ps h in packet_is ps j ∙ sym (get_or-take i ps j [] (omega arith))

    first_sound : Together (take i ps) → (j : ℕ) → j < i → Sound (back_to_back ps) (lengths_of ps) j
    first_sound t j l =
        let e = length-take-le i ps h in
        sound_of (back_to_back ps) (lengths_of ps) (take i ps) found_first t j (omega arith) (ends_inside j)

    first_together : ((j : ℕ) → j < i → Sound (back_to_back ps) (lengths_of ps) j) → Together (take i ps)
    first_together s =
        let e = length-take-le i ps h in
        together_of (back_to_back ps) (lengths_of ps) (take i ps) found_first (λ j l. s j (omega arith))

  -- THE LIST OF LENGTHS

  handed_fits_when : (bytes : List ℕ) → Fits bytes (lengths_of ps) ↔ ((length ps ≤ 65) × (length bytes ≤ length (back_to_back ps)))
  handed_fits_when bytes =
      let d = lengths_two_each ps in
      let all : bytes_of (lengths_of ps) (length ps) ≡ length (back_to_back ps) = rw (bytes_of_is ps (length ps), take-length ps) in (
        λ f.
            let e : f.packets ≡ length ps = let t = f.two_each in omega arith in
            (rw (← e) f.few, rw (← all, ← e) f.none_left),
        λ (few, none). record { packets = length ps; two_each = d; few = few; none_left = rw all none },
      )

-- a packet has piece k exactly if it has its address
address_when : (ps : List (List ℕ)) → AllSound (back_to_back ps) (lengths_of ps) → (i k : ℕ) → i < length ps
    → HasPiece (get_or ps i []) k ↔ ((fields_at ps i).here.0 ≡ piece_address ps k)
address_when ps sound i k h =
    let s = sound i ((listed_when ps i).1 h) in
    let a = (subst₂ Agree (packet_is ps 0) (packet_is ps i) s.agrees).1 in
    let b = at_four (get_or ps i []) 20 in
    let c = at_four (get_or ps 0 []) 12 in
    (λ x. omega (arith, x.1), λ e. (subst IsRead (packet_is ps i) s.is_read_lem, omega arith))

-- WITH MORE BEHIND: other packets in the list, other bytes after theirs

module _ (ps qs : List (List ℕ)) where
  starts_at : (i : ℕ) → i ≤ length ps → bytes_of (lengths_of (ps ++ qs)) i ≡ length (back_to_back (take i ps))
  starts_at i h = bytes_of_is (ps ++ qs) i ∙ ap (λ (l : List (List ℕ)). length (back_to_back l)) (take-append-le i ps qs h)

  lies_at : (bytes : List ℕ) (i : ℕ) → i < length ps
      → packet_at bytes (lengths_of (ps ++ qs)) i ≡ take (length (get_or ps i [])) (drop (length (back_to_back (take i ps))) bytes)
  unfolding packet_at
  lies_at bytes i h =
      ap₂ (λ (n k : ℕ). take n (drop k bytes)) (at_two (lengths_of (ps ++ qs)) (2 * i) ∙ length_is (ps ++ qs) i ∙ ap length (get_or-append ps qs [] i h))
      (before_is (lengths_of (ps ++ qs)) i ∙ starts_at i (omega arith))

packet_among : (ps qs : List (List ℕ)) (part : List ℕ) (i : ℕ) → i < length ps → packet_at (back_to_back ps ++ part) (lengths_of (ps ++ qs)) i ≡ get_or ps i []
packet_among ps qs part i h =
    let last : List (List ℕ) = part ∷ [] in
    lies_at ps qs (back_to_back ps ++ part) i h
    ∙ sym (lies_at ps last (back_to_back ps ++ part) i h)
    ∙ ap (λ (b : List ℕ). packet_at b (lengths_of (ps ++ last)) i) (sym (back_to_back_append ps last ∙ ap (λ (l : List ℕ). back_to_back ps ++ l) (append-nil part)))
    ∙ packet_is (ps ++ last) i
    ∙ get_or-append ps last [] i h

-- THE NUMBERS

module _ (N : Numbers) where
  three_of : (bytes lengths : List ℕ) → (Fits bytes lengths → ⊥) → check_dump bytes lengths ≡ 3
  three_of bytes lengths n = elim (ℕ_discrete (check_dump bytes lengths) 3) [ yes e ↦ e | no m ↦ absurd (n ((N bytes lengths).three.0 m)) ]

  module _ (ps : List (List ℕ)) where
    not_bad : length ps ≤ 65 → Together ps → (checked ps ≡ 0) ⊎ ((k : ℕ) × (checked ps ≡ 131072 + k))
    not_bad few t =
        let number = N (back_to_back ps) (lengths_of ps) in
        elim (ℕ_discrete (checked ps) 0) [
          | yes e ↦ inl e
          | no n ↦ elim (number.others n (number.three.1 ((handed_fits_when ps (back_to_back ps)).1 (few, omega arith)))) [
            | inl (i, l, e) ↦ absurd (let (f, h, m, s) = (number.bad i l).0 e in m (all_sound ps t i h))
            | inr (k, l, e) ↦ inr (k, e)
          ]
        ]

    module _ (i : ℕ) where
      bad_out : i < 65 → checked ps ≡ 65536 + i → Together (take i ps) × (Together (take (suc i) ps) → ⊥)
      bad_out l e =
          let (f, h, n, s) = ((N (back_to_back ps) (lengths_of ps)).bad i l).0 e in
          let m : i < length ps = (listed_when ps i).0 h in
          (first_together ps i (omega arith) s, λ t. n (first_sound ps (suc i) m t i (omega arith)))

      bad_in : length ps ≤ 65 → i < length ps → Together (take i ps) → (Together (take (suc i) ps) → ⊥) → checked ps ≡ 65536 + i
      bad_in few h t n =
          let before = first_sound ps i (omega arith) t in
          ((N (back_to_back ps) (lengths_of ps)).bad i (omega arith)).1 (
            (handed_fits_when ps (back_to_back ps)).1 (few, omega arith),
            (listed_when ps i).1 h,
            λ s. n (first_together ps (suc i) h (λ j l. by_lt j i (before j) (λ m. let e : i ≡ j = omega arith in rw e at s))),
            before,
          )

  after_bad : (ps qs : List (List ℕ)) (i : ℕ) → i < length ps → checked ps ≡ 65536 + i → length (take (suc i) ps ++ qs) ≤ 65
      → checked (take (suc i) ps ++ qs) ≡ 65536 + i
  after_bad ps qs i h e few =
      let size = length-take-le (suc i) ps h in
      let long = length-append (take (suc i) ps) qs in
      let b = bad_out ps i (omega arith) e in
      let before : take i (take (suc i) ps ++ qs) ≡ take i ps = take-append-le i (take (suc i) ps) qs (omega arith) ∙ take-take i (suc i) ps (omega arith) in
      let upto : take (suc i) (take (suc i) ps ++ qs) ≡ take (suc i) ps = take_at (take (suc i) ps) qs (suc i) size in
      bad_in (take (suc i) ps ++ qs) i few (omega arith) (subst Together (sym before) b.0) (λ t. b.1 (subst Together upto t))

  -- CUT SHORT

  module _ (ps qs : List (List ℕ)) (p part : List ℕ) where
    abbrev listed : List (List ℕ)
    listed = ps ++ p ∷ qs

    abbrev given : List ℕ
    given = back_to_back ps ++ part

    cut_short : Together ps → length part < length p → length listed ≤ 65 → check_dump given (lengths_of listed) ≡ 65536 + length ps
    cut_short t short few =
        let n = length-append ps (p ∷ qs) in
        let size = length-append (back_to_back ps) part in
        let all = simp length-append at (ap length (back_to_back_append ps (p ∷ qs))) in
        ((N given (lengths_of listed)).bad (length ps) (omega arith)).1 (
          (handed_fits_when listed given).1 (few, omega arith),
          (listed_when listed (length ps)).1 (omega arith),
          λ s.
              let start = rw take-length at (starts_at ps (p ∷ qs) (length ps) (omega arith)) in
              let long = length_is listed (length ps) ∙ ap length (get_or-append_seam ps p qs []) in
              let room = s.inside in
              omega arith,
          λ i h.
              sound_of given (lengths_of listed) ps (packet_among ps (p ∷ qs) part) t i h
              (let end = starts_at ps (p ∷ qs) (suc i) h in let room = before_within ps (suc i) in omega arith),
        )

  -- MISSING PIECES

  module _ (ps : List (List ℕ)) (k : ℕ) (e : checked ps ≡ 131072 + k) where
    missing : (i : ℕ) → i < length ps → (1016 * k < (fields_at ps 0).range.words) × ((fields_at ps i).here.0 ≢ piece_address ps k)
    missing i h =
        let (f, s, m, n) = ((N (back_to_back ps) (lengths_of ps)).missing k).0 e in (
          rw (at_four (get_or ps 0 []) 16) (subst (λ (p : List ℕ). 1016 * k < four p 16) (packet_is ps 0) (m.due ((listed_when ps 0).1 (omega arith)))),
          λ q. m.absent i ((listed_when ps i).1 h) (with_piece k (sym (packet_is ps i)) ((address_when ps s i k h).1 q)),
        )

    lowest : (j : ℕ) → j < k → (i : ℕ) × (i < length ps) × ((fields_at ps i).here.0 ≡ piece_address ps j)
    lowest j l =
        let (f, s, m, n) = ((N (back_to_back ps) (lengths_of ps)).missing k).0 e in
        elim (some_or_none (λ (p : List ℕ). HasPiece p j) (has_piece_or_not j) ps) [
          | yes y ↦ (let (i, h, x) = some_at (λ (p : List ℕ). HasPiece p j) [] ps y in (i, h, (address_when ps s i j h).0 x))
          | no o ↦ absurd (n j l (record {
            due = λ d. (let r = m.due d in omega arith);
            first = λ z. (let r = m.first z in omega arith);
            absent = λ i d x. o (some_of (λ (p : List ℕ). HasPiece p j) [] ps i ((listed_when ps i).0 d) (with_piece j (packet_is ps i) x));
          }))
        ]

pub over_packets : Numbers → OverPackets
over_packets N =
    record {
      odd = λ ps bytes x. three_of N bytes (lengths_of ps ++ x ∷ [])
          (λ f. let t = f.two_each in let d = lengths_two_each ps in let e = length-append (lengths_of ps) (x ∷ []) in omega arith);
      over = λ ps bytes h. three_of N bytes (lengths_of ps) (λ f. let w = (handed_fits_when ps bytes).0 f in omega arith);
      left_over = λ ps b rest.
          three_of N (back_to_back ps ++ b ∷ rest) (lengths_of ps)
          (λ f. let w = (handed_fits_when ps (back_to_back ps ++ b ∷ rest)).0 f in let e = length-append (back_to_back ps) (b ∷ rest) in omega arith);
      taken = λ ps bytes few none. (N bytes (lengths_of ps)).three.1 ((handed_fits_when ps bytes).1 (few, none));
      together = not_bad N;
      whole = λ ps e. all_together ps ((N (back_to_back ps) (lengths_of ps)).zero.0 e).1;
      pieces = λ ps k e. all_together ps (((N (back_to_back ps) (lengths_of ps)).missing k).0 e).1;
      bad = bad_out N;
      after_bad = after_bad N;
      cut_short = cut_short N;
      missing = missing N;
      lowest = lowest N;
      no_packets = ((N [] []).missing 0).1 (
        (handed_fits_when [] []).1 (omega arith, omega arith),
        λ i l. omega arith,
        record { due = λ l. omega arith; first = λ e. refl; absent = λ i l h. omega arith },
        λ j l m. omega arith,
      );
    }
