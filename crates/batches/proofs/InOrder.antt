-- A batch is the single calls made in order, for every single call that leaves its reply buffer as long as it was.
-- Assumes nothing.
use Rattle.std.specs.Prelude.{Ok, Err}
use mathlib.Core.Path.{◌≡◌, refl, sym, ap, ◌∙◌}
use mathlib.Core.Logic.{◌↔◌}
use mathlib.Core.Bool.{true, false}
use mathlib.Core.List.{List, [], ◌∷◌, ◌++◌, append_assoc, append-nil}
use Prim.Native.Nat.{ℕ, zero, suc, ◌+◌, ◌*◌, ◌-◌, ◌≤◌, ◌<◌}
use native.Mathlib.Omega.{arith}
use lib.ListN.{length, get_or, take, drop, length-append, length-drop, take-append-drop, replicate}
use lib.Seq.{length-take-le, take_all, take-suc, take-append-le, drop-append-le, take_at, drop_at, drop-drop, slice_empty, take-add}
use Rattle.lists.specs.Splice.{splice}
use Rattle.lists.proofs.Tests.{either, contra}
use Rattle.rules.specs.Commands.{CommandArgs}
use Rattle.rules.specs.Results.{verdict_number}
use Rattle.rules.specs.declared.Refusal.TheVariants.{BufferLength}
use Rattle.batches.specs.Batch.{BatchArgs, lends, Single, items_of, bytes_from, packet_of, unfit, Left, left_by, with_item, Batch, batch}
use Rattle.batches.specs.InOrder.{Item, items_along, items, made, makes, last_state, last_image, records_of, replies_of, left_of, InOrder, Fits}
use Rattle.batches.proofs.InPlain.{fits_out, fits_in}

-- THE ITEMS ALONG THE LISTS

items_length : (bytes ss ns replies : List ℕ) → length ns ≡ length ss → length (items_along bytes ss ns replies) ≡ length ss
items_length bytes [] ns replies e = refl
items_length bytes (s ∷ ss) [] replies e = absurd (omega arith)
items_length bytes (s ∷ ss) (n ∷ ns) replies e = ap suc (items_length bytes ss ns (drop 32 replies) (omega arith))

abbrev no_item : Item
no_item = record { packet = []; reply = [] }

item_at : (bytes ss ns replies : List ℕ) (k : ℕ) → length ns ≡ length ss → k < length ss
    → get_or (items_along bytes ss ns replies) k no_item
    ≡ record { packet = bytes_from bytes (get_or ss k 0) (get_or ns k 0); reply = take 32 (drop (32 * k) replies) }
item_at bytes [] ns replies k e h = absurd (omega arith)
item_at bytes (s ∷ ss) [] replies k e h = absurd (omega arith)
item_at bytes (s ∷ ss) (n ∷ ns) replies zero e h = refl
item_at bytes (s ∷ ss) (n ∷ ns) replies (suc k) e h =
    let next : 32 + 32 * k ≡ 32 * suc k = omega arith in
    rw (item_at bytes ss ns (drop 32 replies) k (omega arith) (omega arith), drop-drop, next)

-- items xs then ys, with the replies of xs first
items_append : (bytes xs lxs ys lys us vs : List ℕ) → length lxs ≡ length xs → length us ≡ 32 * length xs
    → items_along bytes (xs ++ ys) (lxs ++ lys) (us ++ vs) ≡ items_along bytes xs lxs us ++ items_along bytes ys lys vs
items_append bytes [] [] ys lys [] vs e f = refl
items_append bytes [] [] ys lys (u ∷ us) vs e f = absurd (omega arith)
items_append bytes [] (n ∷ lxs) ys lys us vs e f = absurd (omega arith)
items_append bytes (x ∷ xs) [] ys lys us vs e f = absurd (omega arith)
items_append bytes (x ∷ xs) (n ∷ lxs) ys lys us vs e f =
    let room : 32 ≤ length us = omega arith in
    let rest : length (drop 32 us) ≡ 32 * length xs = simp length-drop (omega arith) in
    rw (take-append-le 32 us vs room, drop-append-le 32 us vs room, items_append bytes xs lxs ys lys (drop 32 us) vs (omega arith) rest)

-- a write right after some bytes of a buffer
splice_after : (u v r : List ℕ) (at : ℕ) → length u ≡ at → splice (u ++ v) at r ≡ u ++ (r ++ drop (length r) v)
unfolding splice
splice_after u v r at e = rw (take_at u v at e, ← drop-drop (length r) at (u ++ v), drop_at u v at e)

-- what later items leave after earlier ones, and what items leave with the reply buffer past them
abbrev pub then : {S : Type 0} → Left S → Left S → Left S
then l m = record { state = m.state; image = m.image; replies = l.replies ++ m.replies; answers = l.answers ++ m.answers }

abbrev pub before : {S : Type 0} → List ℕ → Left S → Left S
before rest l = record { state = l.state; image = l.image; replies = l.replies ++ rest; answers = l.answers }

module _ {S : Type 0} (call : S → CommandArgs → Single S) where
  -- WHAT THE SINGLE CALLS LEAVE, without the reply buffer past the items

  module _ (symbols : List ℕ) where
    abbrev runs : S → List ℕ → List Item → Left S
    runs s image xs =
        record {
          state = last_state s (made call symbols s image xs);
          image = last_image image (made call symbols s image xs);
          replies = replies_of (made call symbols s image xs);
          answers = records_of (made call symbols s image xs);
        }

    runs_append : (s : S) (image : List ℕ) (xs ys : List Item)
        → runs s image (xs ++ ys) ≡ then (runs s image xs) (runs (runs s image xs).state (runs s image xs).image ys)
    runs_append s image [] ys = refl
    runs_append s image (x ∷ xs) ys =
        let g = (makes call symbols s image x).gave in
        ap (then (record { state = g.state; image = g.image; replies = g.reply; answers = records_of (makes call symbols s image x ∷ []) }))
        (runs_append g.state g.image xs ys)
        ∙ rw append_assoc

  module _ (keeps : (s : S) (c : CommandArgs) → length (call s c).reply ≡ length c.reply) where
    -- ITEM K, after items that left l and the bytes `rest` of the reply buffer
    module _ (a : BatchArgs) (l : Left S) (k : ℕ) (rest : List ℕ) where
      abbrev item : Item
      item = record { packet = packet_of a k; reply = take 32 rest }

      abbrev gave : List ℕ → Single S
      gave lent = call l.state (record { packet = packet_of a k; symbols = a.symbols; image = l.image; reply = lent })

      abbrev more : Left S
      more = then l (runs a.symbols l.state l.image (item ∷ []))

      module _ (size : length l.replies ≡ 32 * k) (room : 32 ≤ length rest) where
        reply_size : length (gave (take 32 rest)).reply ≡ 32
        reply_size = keeps l.state _ ∙ length-take-le 32 rest room

        more_size : length more.replies ≡ 32 * suc k
        more_size = simp (length-append, reply_size) (omega arith)

        item_left : with_item call a (before rest l) k ≡ before (drop 32 rest) more
        item_left =
            ap
            (λ (lent : List ℕ).
            record {
              state = (gave lent).state;
              image = (gave lent).image;
              replies = splice (l.replies ++ rest) (32 * k) (gave lent).reply;
              answers = l.answers ++ (record { number = (gave lent).number; length = (gave lent).length } ∷ []);
            })
            (ap (take 32) (drop_at l.replies rest (32 * k) size))
            ∙ rw (splice_after l.replies rest (gave (take 32 rest)).reply (32 * k) size, reply_size, append-nil, append_assoc)

    -- ALL ITEMS: k of them leave what the first k single calls leave, with the reply buffer past them
    record Upto (s : S) (a : BatchArgs) (k : ℕ) : Type 0 where
      is : left_by call a s k ≡ before (drop (32 * k) a.replies) (runs a.symbols s a.image (take k (items a)))
      size : length (runs a.symbols s a.image (take k (items a))).replies ≡ 32 * k

    module _ (s : S) (a : BatchArgs) (records : ℕ) (fit : Fits a records) where
      all_items : length (items a) ≡ items_of a
      all_items = items_length a.bytes a.starts a.lengths a.replies fit.equal

      upto : (k : ℕ) → k ≤ items_of a → Upto s a k
      unfolding left_by
      upto zero h = record { is = refl; size = refl }
      upto (suc k) h =
          let u : Upto s a k = upto k (omega arith) in
          let l : Left S = runs a.symbols s a.image (take k (items a)) in
          let rest : List ℕ = drop (32 * k) a.replies in
          let room : 32 ≤ length rest = simp length-drop (omega (arith, fit.bytes)) in
          let short : k < length (items a) = rw all_items h in
          let next : 32 * k + 32 ≡ 32 * suc k = omega arith in
          let taken : take (suc k) (items a) ≡ take k (items a) ++ (item a l k rest ∷ []) =
          rw (take-suc (items a) k no_item short, item_at a.bytes a.starts a.lengths a.replies k fit.equal h) in
          let split : runs a.symbols s a.image (take (suc k) (items a)) ≡ more a l k rest = rw taken (runs_append a.symbols s a.image (take k (items a)) _) in
          record {
            is =
                ap (λ (m : Left S). with_item call a m k) u.is
                ∙ item_left a l k rest u.size room
                ∙ ap (before (drop 32 rest)) (sym split)
                ∙ rw (drop-drop, next);
            size = ap (λ (m : Left S). length m.replies) split ∙ more_size a l k rest u.size room;
          }

      all_of : left_by call a s (items_of a) ≡ left_of s a (made call a.symbols s a.image (items a))
      all_of =
          (upto (items_of a) (omega arith)).is
          ∙ ap (λ (xs : List Item). before (drop (32 * items_of a) a.replies) (runs a.symbols s a.image xs)) (take_all (items_of a) (items a) (omega (arith, all_items)))

      in_order_of : batch call s a records ≡ record { verdict = (Ok tt); left = left_of s a (made call a.symbols s a.image (items a)) }
      unfolding batch
      in_order_of = rw (fits_in a records fit) (ap (λ (l : Left S). record { verdict = (Ok tt); left = l }) all_of)

    -- ITEMS XS THEN YS
    module _ (s : S) (bytes xs lxs ys lys symbols image replies : List ℕ) (records : ℕ)
        (ex : length lxs ≡ length xs) (ey : length lys ≡ length ys) (few : length xs + length ys ≤ 64)
        (room : length xs + length ys ≤ records) (long : 32 * (length xs + length ys) ≤ length replies) where
      abbrev at : ℕ
      at = 32 * length xs

      abbrev front : Left S
      front = runs symbols s image (items_along bytes xs lxs (take at replies))

      abbrev back : Left S
      back = runs symbols front.state front.image (items_along bytes ys lys (drop at replies))

      front_long : length (take at replies) ≡ at
      front_long = length-take-le at replies (omega arith)

      both_runs : runs symbols s image (items_along bytes (xs ++ ys) (lxs ++ lys) replies) ≡ then front back
      both_runs =
          ap (λ (r : List ℕ). runs symbols s image (items_along bytes (xs ++ ys) (lxs ++ lys) r)) (sym (take-append-drop at replies))
          ∙ ap (runs symbols s image) (items_append bytes xs lxs ys lys (take at replies) (drop at replies) ex front_long)
          ∙ runs_append symbols s image (items_along bytes xs lxs (take at replies)) (items_along bytes ys lys (drop at replies))

      first_left : (batch call s (lends bytes xs lxs symbols image (take at replies)) (length xs)).left ≡ before [] front
      first_left =
          ap (λ (b : Batch S). b.left)
          (in_order_of s (lends bytes xs lxs symbols image (take at replies)) (length xs)
          (record { few = omega arith; equal = ex; room = omega arith; bytes = omega (arith, front_long) }))
          ∙ ap (λ (r : List ℕ). before r front) (slice_empty at replies)

      second_left : (batch call front.state (lends bytes ys lys symbols front.image (drop at replies)) (records - length xs)).left
          ≡ before (drop (32 * length ys) (drop at replies)) back
      second_left =
          ap (λ (b : Batch S). b.left)
          (in_order_of front.state (lends bytes ys lys symbols front.image (drop at replies)) (records - length xs)
          (record { few = omega arith; equal = ey; room = omega arith; bytes = simp length-drop (omega arith) }))

      both_left : batch call s (lends bytes (xs ++ ys) (lxs ++ lys) symbols image replies) records
          ≡ record { verdict = (Ok tt); left = then (before [] front) (before (drop (32 * length ys) (drop at replies)) back) }
      both_left =
          let n : length (xs ++ ys) ≡ length xs + length ys = length-append xs ys in
          let m : length (lxs ++ lys) ≡ length lxs + length lys = length-append lxs lys in
          let end : at + 32 * length ys ≡ 32 * length (xs ++ ys) = omega arith in
          in_order_of s (lends bytes (xs ++ ys) (lxs ++ lys) symbols image replies) records
          (record { few = omega arith; equal = omega arith; room = omega arith; bytes = omega arith })
          ∙ ap (λ (l : Left S). record { verdict = (Ok tt); left = before (drop (32 * length (xs ++ ys)) replies) l }) both_runs
          ∙ rw (append-nil, drop-drop, end, append_assoc)

      one_after_the_other : (first second : Left S)
          → first ≡ (batch call s (lends bytes xs lxs symbols image (take at replies)) (length xs)).left
          → second ≡ (batch call first.state (lends bytes ys lys symbols first.image (drop at replies)) (records - length xs)).left
          → batch call s (lends bytes (xs ++ ys) (lxs ++ lys) symbols image replies) records ≡ record { verdict = (Ok tt); left = then first second }
      one_after_the_other first second p q =
          let f : first ≡ before [] front = p ∙ first_left in
          let g : second ≡ before (drop (32 * length ys) (drop at replies)) back =
          q
          ∙ ap (λ (l : Left S). (batch call l.state (lends bytes ys lys symbols l.image (drop at replies)) (records - length xs)).left) f
          ∙ second_left in
          rw (f, g) both_left

    nothing_done : (s : S) (a : BatchArgs) (records : ℕ) → unfit a records ≡ true
        → batch call s a records ≡ record { verdict = Err BufferLength; left = record { state = s; image = a.image; replies = a.replies; answers = [] } }
    unfolding batch left_by
    nothing_done s a records h = rw h

    -- the number of the whole call, by the test
    number_fit : (s : S) (a : BatchArgs) (records : ℕ) → unfit a records ≡ false → verdict_number (batch call s a records).verdict ≡ 0
    unfolding batch
    number_fit s a records h = rw h

    number_unfit : (s : S) (a : BatchArgs) (records : ℕ) → unfit a records ≡ true → verdict_number (batch call s a records).verdict ≡ 3
    unfolding batch
    number_unfit s a records h = rw h

    when_taken : (s : S) (a : BatchArgs) (records : ℕ) → (verdict_number (batch call s a records).verdict ≡ 0) ↔ Fits a records
    when_taken s a records =
        either (unfit a records)
        (λ u. let e = number_unfit s a records u in (λ z. absurd (omega arith), λ f. absurd (contra u (fits_in a records f))))
        (λ u. (λ z. fits_out a records u, λ f. number_fit s a records u))

    when_not_taken : (s : S) (a : BatchArgs) (records : ℕ) → (verdict_number (batch call s a records).verdict ≡ 3) ↔ (Fits a records → ⊥)
    when_not_taken s a records =
        either (unfit a records)
        (λ u. (λ z f. contra u (fits_in a records f), λ n. number_unfit s a records u))
        (λ u. let e = number_fit s a records u in (λ z f. absurd (omega arith), λ n. absurd (n (fits_out a records u))))

    pub in_order_lem : InOrder call
    in_order_lem =
        record {
          taken = when_taken;
          not_taken = when_not_taken;
          equals = λ s a records h. in_order_of s a records (fits_out a records h);
          refused = nothing_done;
          none = λ s bytes symbols image replies records.
              in_order_of s (lends bytes [] [] symbols image replies) records
              (record { few = omega arith; equal = refl; room = omega arith; bytes = omega arith });
          one = λ s bytes start n symbols image replies records h k.
              in_order_of s (lends bytes (start ∷ []) (n ∷ []) symbols image replies) records
              (record { few = omega arith; equal = refl; room = h; bytes = k })
              ∙ (let c : Single S = call s (record { packet = bytes_from bytes start n; symbols = symbols; image = image; reply = take 32 replies }) in
              ap
              (λ (r : List ℕ).
              record {
                verdict = (Ok tt);
                left =
                    record {
                      state = c.state;
                      image = c.image;
                      replies = r ++ drop 32 replies;
                      answers = record { number = c.number; length = c.length } ∷ [];
                    };
              })
              (append-nil c.reply));
          joined = one_after_the_other;
        }

-- A CALL THAT ANSWERS 1 and leaves all as it was: so does each item
module _ {S : Type 0} (call : S → CommandArgs → Single S) (s : S) (keeps : (s : S) (c : CommandArgs) → length (call s c).reply ≡ length c.reply)
    (bad : (c : CommandArgs) → call s c ≡ record { number = 1; length = 0; state = s; image = c.image; reply = c.reply }) where
  bad_runs : (symbols image bytes ss ns replies : List ℕ) → length ns ≡ length ss
      → runs call symbols s image (items_along bytes ss ns replies)
      ≡ record { state = s; image = image; replies = take (32 * length ss) replies; answers = replicate (length ss) (record { number = 1; length = 0 }) }
  bad_runs symbols image bytes [] ns replies e = refl
  bad_runs symbols image bytes (x ∷ ss) [] replies e = absurd (omega arith)
  bad_runs symbols image bytes (x ∷ ss) (n ∷ ns) replies e =
      let next : 32 * suc (length ss) ≡ 32 + 32 * length ss = omega arith in
      rw (bad (record { packet = bytes_from bytes x n; symbols = symbols; image = image; reply = take 32 replies }), next, take-add 32 (32 * length ss) replies)
      (ap
      (λ (l : Left S).
      record {
        state = l.state;
        image = l.image;
        replies = take 32 replies ++ l.replies;
        answers = record { number = 1; length = 0 } ∷ l.answers;
      })
      (bad_runs symbols image bytes ss ns (drop 32 replies) (omega arith)))

  pub all_refused : (a : BatchArgs) (records : ℕ) → unfit a records ≡ false
      → batch call s a records
      ≡ record {
        verdict = (Ok tt);
        left =
            record {
              state = s;
              image = a.image;
              replies = a.replies;
              answers = replicate (items_of a) (record { number = 1; length = 0 });
            };
      }
  all_refused a records h =
      (in_order_lem call keeps).equals s a records h
      ∙ ap
      (λ (l : Left S).
      record {
        verdict = (Ok tt);
        left = record { state = l.state; image = l.image; replies = l.replies ++ drop (32 * items_of a) a.replies; answers = l.answers };
      })
      (bad_runs a.symbols a.image a.bytes a.starts a.lengths a.replies (fits_out a records h).equal)
      ∙ rw take-append-drop
