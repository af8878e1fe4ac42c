-- Paper 02, A1: up to 64 commands in one call, which are lent one symbol table (A2). Said once for every single call: the command call on a State, and the one from C on a block.
use Rattle.std.specs.Prelude.{◌≡◌, Bool, not, ◌||◌, cond, List, [], ◌∷◌, ◌++◌, ℕ, zero, suc, ◌+◌, ◌*◌, min, leb, ltb, eqb, length, get_or, take, drop, Result, Ok, Err}
use Rattle.lists.specs.Splice.{splice}
use Rattle.rules.specs.Commands.{CommandArgs, command_call}
use Rattle.rules.specs.Results.{answer_number, answer_length}
use Rattle.rules.specs.declared.Refusal.TheVariants.{BufferLength}
use Rattle.rules.specs.declared.State.{State}
use Rattle.answers.specs.Records.{put_records}
use Rattle.answers.specs.declared.Answered.{Answered}
use Rattle.answers.specs.declared.ItemAnswer.{ItemAnswer}
use Rattle.rules.specs.declared.Refusal.{Refusal}

-- what a batch is lent beside the state and the list of answer records
pub record BatchArgs : Type 0 where
  pub bytes : List ℕ
  pub starts : List ℕ
  pub lengths : List ℕ
  pub symbols : List ℕ
  pub image : List ℕ
  pub replies : List ℕ

abbrev pub lends : List ℕ → List ℕ → List ℕ → List ℕ → List ℕ → List ℕ → BatchArgs
lends bytes starts lengths symbols image replies =
    record { bytes = bytes; starts = starts; lengths = lengths; symbols = symbols; image = image; replies = replies }

-- a single call, on a state of any form: its number, the length of its reply, and what it leaves
pub record Single (S : Type 0) : Type 0 where
  pub number : ℕ
  pub length : ℕ
  pub state : S
  pub image : List ℕ
  pub reply : List ℕ

-- the command call on a State
abbrev pub on_state : State → CommandArgs → Single State
on_state s c =
    record {
      number = answer_number (command_call s c).answer;
      length = answer_length (command_call s c).answer;
      state = (command_call s c).state;
      image = (command_call s c).image;
      reply = (command_call s c).buffer;
    }

-- ITEMS

abbrev pub items_of : BatchArgs → ℕ
items_of a = length a.starts

-- the bytes from a start on, as many as a length says; none where they are not all there
unfoldable pub bytes_from : List ℕ → ℕ → ℕ → List ℕ
bytes_from bytes start n = cond (leb (start + n) (length bytes)) (take n (drop start bytes)) []

-- the packet of item i
abbrev pub packet_of : BatchArgs → ℕ → List ℕ
packet_of a i = bytes_from a.bytes (get_or a.starts i 0) (get_or a.lengths i 0)

-- 3: over 64 items, lists of unequal length, fewer records than items, or under 32 bytes of the reply buffer for each item
abbrev pub unfit_by : ℕ → ℕ → ℕ → ℕ → Bool
unfit_by starts lengths records replies = ltb 64 starts || not (eqb lengths starts) || ltb records starts || ltb replies (32 * starts)

unfoldable pub unfit : BatchArgs → ℕ → Bool
unfit a records = unfit_by (items_of a) (length a.lengths) records (length a.replies)

-- THE SINGLE CALLS IN ORDER

-- what the first items left, with an answer record for each of them
pub record Left (S : Type 0) : Type 0 where
  pub state : S
  pub image : List ℕ
  pub replies : List ℕ
  pub answers : List ItemAnswer

module _ {S : Type 0} (call : S → CommandArgs → Single S) (a : BatchArgs) where
  -- item i is lent its packet, the batch's symbol table, the image as the item before left it, and bytes 32 i to 32 i + 31 of the reply buffer
  abbrev pub item_args : Left S → ℕ → CommandArgs
  item_args l i = record { packet = packet_of a i; symbols = a.symbols; image = l.image; reply = take 32 (drop (32 * i) l.replies) }

  abbrev pub item_call : Left S → ℕ → Single S
  item_call l i = call l.state (item_args l i)

  abbrev pub with_item : Left S → ℕ → Left S
  with_item l i =
      record {
        state = (item_call l i).state;
        image = (item_call l i).image;
        replies = splice l.replies (32 * i) (item_call l i).reply;
        answers = l.answers ++ (record { number = (item_call l i).number; length = (item_call l i).length } ∷ []);
      }

  -- what items 0 to k - 1 left
  unfoldable pub left_by : S → ℕ → Left S
  left_by s zero = record { state = s; image = a.image; replies = a.replies; answers = [] }
  left_by s (suc i) = with_item (left_by s i) i

-- THE BATCH, on a state, with so many answer records lent: 3, and nothing changes; else 0, whatever the items got

pub record Batch (S : Type 0) : Type 0 where
  pub verdict : Result (Unit {0}) Refusal
  pub left : Left S

unfoldable pub batch : {S : Type 0} → (S → CommandArgs → Single S) → S → BatchArgs → ℕ → Batch S
batch call s a records =
    cond (unfit a records)
    (record { verdict = Err BufferLength; left = left_by call a s 0 })
    (record { verdict = (Ok tt); left = left_by call a s (items_of a) })

-- the state, the image and the reply buffer are those that the batch leaves
abbrev pub LeftAs : {S : Type 0} → Batch S → S → List ℕ → List ℕ → Type 0
LeftAs o state image replies = (state ≡ o.left.state) × (image ≡ o.left.image) × (replies ≡ o.left.replies)

-- a lent list with one element for each item; those beyond the items stay
abbrev pub filled : {A : Type 0} → List A → List A → List A
filled lent each = each ++ drop (length each) lent

abbrev pub numbers_of : List ItemAnswer → List ℕ
numbers_of [] = []
numbers_of (r ∷ rs) = r.number ∷ numbers_of rs

abbrev pub lengths_of : List ItemAnswer → List ℕ
lengths_of [] = []
lengths_of (r ∷ rs) = r.length ∷ lengths_of rs

-- answers by value give these records to every lent list of so many
abbrev pub Answers : Answered → ℕ → List ItemAnswer → Type 0
Answers a records each =
    (lent : List ItemAnswer) → length lent ≡ records → put_records lent a (min a.filled (length lent)) ≡ filled lent each
