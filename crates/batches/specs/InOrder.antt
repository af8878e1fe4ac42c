-- A1's promises: a batch is the single calls made in order, refused ones included.
use Rattle.std.specs.Prelude.{◌≡◌, ◌↔◌, true, false, List, [], ◌∷◌, ◌++◌, ℕ, ◌+◌, ◌*◌, ◌-◌, ◌≤◌, ◌<◌, length, get_or, take, drop, replicate, Ok, Err}
use Rattle.rules.specs.Commands.{CommandArgs, command_call}
use Rattle.rules.specs.Results.{verdict_number, answer_number, answer_length}
use Rattle.rules.specs.States.{good_state}
use Rattle.rules.specs.declared.Refusal.TheVariants.{BufferLength}
use Rattle.rules.specs.declared.State.{State}
use Rattle.answers.specs.declared.ItemAnswer.{ItemAnswer}
use Rattle.batches.specs.Batch.{BatchArgs, Single, on_state, items_of, bytes_from, unfit, Left, Batch, batch, LeftAs, lends, filled, numbers_of, lengths_of}

-- THE SINGLE CALLS, one after the other along the lists: no index, and no definition of the batch

-- what an item is lent for itself: its packet, and its 32 bytes of the reply buffer
pub record Item : Type 0 where
  pub packet : List ℕ
  pub reply : List ℕ

abbrev pub items_along : List ℕ → List ℕ → List ℕ → List ℕ → List Item
items_along bytes [] ns replies = []
items_along bytes (s ∷ ss) [] replies = []
items_along bytes (s ∷ ss) (n ∷ ns) replies =
    record { packet = bytes_from bytes s n; reply = take 32 replies } ∷ items_along bytes ss ns (drop 32 replies)

abbrev pub items : BatchArgs → List Item
items a = items_along a.bytes a.starts a.lengths a.replies

-- a single call as it was made
pub record Made (S : Type 0) : Type 0 where
  pub given : S
  pub args : CommandArgs
  pub gave : Single S

-- all are lent the one symbol table
module _ {S : Type 0} (call : S → CommandArgs → Single S) (symbols : List ℕ) where
  abbrev pub makes : S → List ℕ → Item → Made S
  makes s image x =
      record {
        given = s;
        args = record { packet = x.packet; symbols = symbols; image = image; reply = x.reply };
        gave = call s (record { packet = x.packet; symbols = symbols; image = image; reply = x.reply });
      }

  -- each is handed the state and the image that the one before left
  abbrev pub made : S → List ℕ → List Item → List (Made S)
  made s image [] = []
  made s image (x ∷ xs) = makes s image x ∷ made (makes s image x).gave.state (makes s image x).gave.image xs

-- what the last of them left
abbrev pub last_state : {S : Type 0} → S → List (Made S) → S
last_state s [] = s
last_state s (m ∷ ms) = last_state m.gave.state ms

abbrev pub last_image : {S : Type 0} → List ℕ → List (Made S) → List ℕ
last_image image [] = image
last_image image (m ∷ ms) = last_image m.gave.image ms

-- their answers, and their reply buffers joined
abbrev pub records_of : {S : Type 0} → List (Made S) → List ItemAnswer
records_of [] = []
records_of (m ∷ ms) = record { number = m.gave.number; length = m.gave.length } ∷ records_of ms

abbrev pub replies_of : {S : Type 0} → List (Made S) → List ℕ
replies_of [] = []
replies_of (m ∷ ms) = m.gave.reply ++ replies_of ms

-- what single calls leave; the reply buffer past the items stays
abbrev pub left_of : {S : Type 0} → S → BatchArgs → List (Made S) → Left S
left_of s a ms =
    record {
      state = last_state s ms;
      image = last_image a.image ms;
      replies = replies_of ms ++ drop (32 * items_of a) a.replies;
      answers = records_of ms;
    }

-- WHEN A BATCH IS TAKEN, in plain words

pub record Fits (a : BatchArgs) (records : ℕ) : Type 0 where
  pub few : length a.starts ≤ 64
  pub equal : length a.lengths ≡ length a.starts
  pub room : length a.starts ≤ records
  pub bytes : 32 * length a.starts ≤ length a.replies

-- THE PROMISES, of a batch of such single calls

pub record InOrder {S : Type 0} (call : S → CommandArgs → Single S) : Type 0 where
  -- the number of the whole call: 0 exactly where the lists and buffers fit, and else 3
  pub taken : (s : S) (a : BatchArgs) (records : ℕ) → (verdict_number (batch call s a records).verdict ≡ 0) ↔ Fits a records
  pub not_taken : (s : S) (a : BatchArgs) (records : ℕ) → (verdict_number (batch call s a records).verdict ≡ 3) ↔ (Fits a records → ⊥)
  -- 0: the single calls in order
  pub equals : (s : S) (a : BatchArgs) (records : ℕ) → unfit a records ≡ false
      → batch call s a records ≡ record { verdict = (Ok tt); left = left_of s a (made call a.symbols s a.image (items a)) }
  -- 3: nothing changes
  pub refused : (s : S) (a : BatchArgs) (records : ℕ) → unfit a records ≡ true
      → batch call s a records
      ≡ record { verdict = Err BufferLength; left = record { state = s; image = a.image; replies = a.replies; answers = [] } }
  -- no item: nothing changes
  pub none : (s : S) (bytes symbols image replies : List ℕ) (records : ℕ)
      → batch call s (lends bytes [] [] symbols image replies) records
      ≡ record { verdict = (Ok tt); left = record { state = s; image = image; replies = replies; answers = [] } }
  -- one item: the single call, and nothing of the definition of the batch
  pub one : (s : S) (bytes : List ℕ) (start n : ℕ) (symbols image replies : List ℕ) (records : ℕ) → 1 ≤ records → 32 ≤ length replies
      → let c = call s (record { packet = bytes_from bytes start n; symbols = symbols; image = image; reply = take 32 replies }) in
      batch call s (lends bytes (start ∷ []) (n ∷ []) symbols image replies) records
      ≡ record {
        verdict = (Ok tt);
        left =
            record {
              state = c.state;
              image = c.image;
              replies = c.reply ++ drop 32 replies;
              answers = record { number = c.number; length = c.length } ∷ [];
            };
      }
  -- items xs then ys in one call: a call with xs, and then one with ys on what it left
  pub joined : (s : S) (bytes xs lxs ys lys symbols image replies : List ℕ) (records : ℕ)
      → length lxs ≡ length xs → length lys ≡ length ys
      → length xs + length ys ≤ 64 → length xs + length ys ≤ records → 32 * (length xs + length ys) ≤ length replies
      → (first second : Left S)
      → first ≡ (batch call s (lends bytes xs lxs symbols image (take (32 * length xs) replies)) (length xs)).left
      → second ≡ (batch call first.state (lends bytes ys lys symbols first.image (drop (32 * length xs) replies)) (records - length xs)).left
      → batch call s (lends bytes (xs ++ ys) (lxs ++ lys) symbols image replies) records
      ≡ record {
        verdict = (Ok tt);
        left =
            record {
              state = second.state;
              image = second.image;
              replies = first.replies ++ second.replies;
              answers = first.answers ++ second.answers;
            };
      }

-- WHAT ITEMS AND REFUSALS ARE, in plain words

pub record InPlain : Type 0 where
  -- 3 exactly where the lists and buffers do not fit
  pub fits : (a : BatchArgs) (records : ℕ) → (unfit a records ≡ false) ↔ Fits a records
  -- an item's packet, byte by byte; one that leaves the buffer is empty
  pub inside : (bytes : List ℕ) (start n : ℕ) → start + n ≤ length bytes
      → (length (bytes_from bytes start n) ≡ n) × ((k : ℕ) → k < n → get_or (bytes_from bytes start n) k 0 ≡ get_or bytes (start + k) 0)
  pub outside : (bytes : List ℕ) (start n : ℕ) → length bytes < start + n → bytes_from bytes start n ≡ []

-- a lent list after a batch: one element for each item, and the rest as it was
pub record FilledIs {A : Type 0} (lent each now : List A) : Type 0 where
  pub as_long : length now ≡ length lent
  pub written : (k : ℕ) (d : A) → k < length each → get_or now k d ≡ get_or each k d
  pub stays : (k : ℕ) (d : A) → length each ≤ k → get_or now k d ≡ get_or lent k d

abbrev pub no_answer : ItemAnswer
no_answer = record { number = 0; length = 0 }

pub record LentLists : Type 0 where
  pub records : (lent each : List ItemAnswer) → length each ≤ length lent → FilledIs lent each (filled lent each)
  pub fills : (lent each : List ℕ) → length each ≤ length lent → FilledIs lent each (filled lent each)
  pub numbers : (rs : List ItemAnswer) (k : ℕ) → (length (numbers_of rs) ≡ length rs) × (get_or (numbers_of rs) k 0 ≡ (get_or rs k no_answer).number)
  pub lengths : (rs : List ItemAnswer) (k : ℕ) → (length (lengths_of rs) ≡ length rs) × (get_or (lengths_of rs) k 0 ≡ (get_or rs k no_answer).length)

pub record Promises : Type 0 where
  pub in_order_lem : InOrder on_state
  pub in_plain : InPlain
  pub lists : LentLists
  -- one item: the command call, with the number and the length of its answer
  pub one_command : (s : State) (bytes : List ℕ) (start n : ℕ) (symbols image replies : List ℕ) (records : ℕ) → 1 ≤ records → 32 ≤ length replies
      → let o = command_call s (record { packet = bytes_from bytes start n; symbols = symbols; image = image; reply = take 32 replies }) in
      batch on_state s (lends bytes (start ∷ []) (n ∷ []) symbols image replies) records
      ≡ record {
        verdict = (Ok tt);
        left =
            record {
              state = o.state;
              image = o.image;
              replies = o.buffer ++ drop 32 replies;
              answers = record { number = answer_number o.answer; length = answer_length o.answer } ∷ [];
            };
      }
  -- what the contracts say by LeftAs
  pub left_as : (o : Batch State) (s : State) (image replies : List ℕ) → LeftAs o s image replies
      → (s ≡ o.left.state) × (image ≡ o.left.image) × (replies ≡ o.left.replies)
  -- a byte of the reply buffer that no item writes stays: of item i's 32 bytes those past its reply's length, and all past the items
  pub unwritten : (s : State) (a : BatchArgs) (records i k : ℕ) → i < items_of a → k < 32
      → (get_or (batch on_state s a records).left.answers i no_answer).length ≤ k
      → get_or (batch on_state s a records).left.replies (32 * i + k) 0 ≡ get_or a.replies (32 * i + k) 0
  pub beyond : (s : State) (a : BatchArgs) (records j : ℕ) → 32 * items_of a ≤ j
      → get_or (batch on_state s a records).left.replies j 0 ≡ get_or a.replies j 0
  -- a state that is not good: every item gets 1, and nothing else changes
  pub not_good : (s : State) (a : BatchArgs) (records : ℕ) → good_state s ≡ false → unfit a records ≡ false
      → batch on_state s a records
      ≡ record {
        verdict = (Ok tt);
        left =
            record {
              state = s;
              image = a.image;
              replies = a.replies;
              answers = replicate (items_of a) (record { number = 1; length = 0 });
            };
      }
