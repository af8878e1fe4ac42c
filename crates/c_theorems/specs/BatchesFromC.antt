-- What a batch from C is: the single calls from C in order, and on the block of a good state the batch on that state.
use Rattle.std.specs.Prelude.{◌≡◌, true, false, List, [], ◌∷◌, ◌++◌, ℕ, ◌*◌, ◌-◌, ◌≤◌, ◌<◌, length, get_or, take, drop, replicate, Ok}
use Rattle.wire.specs.Bytes.{AreBytes}
use Rattle.rules.specs.GoodWhen.{Good}
use Rattle.rules.specs.States.{good_state}
use Rattle.rules.specs.declared.State.{State}
use Rattle.batches.specs.Batch.{BatchArgs, lends, on_state, items_of, bytes_from, unfit, Batch, batch}
use Rattle.batches.specs.InOrder.{InOrder}
use Rattle.block.specs.Blocks.{block_of, is_block, state_of}
use Rattle.block.specs.Calls.{lg_command}
use Rattle.lent_batch.specs.Batches.{on_block, lg_commands}
use Rattle.c_theorems.specs.FromC.{with_unused}

-- what a batch on a state leaves, with this block of its state
abbrev pub in_block : (State → List ℕ) → Batch State → Batch (List ℕ)
in_block block o =
    record {
      verdict = o.verdict;
      left =
          record { state = block o.left.state; image = o.left.image; replies = o.left.replies; answers = o.left.answers };
    }

pub record BatchesFromC : Type 0 where
  -- a batch: the single calls from C in order; on the block of a good state, the batch on that state
  pub in_order_lem : InOrder on_block
  pub commands : (s : State) → Good s → length s.regions ≡ 16 → length s.pools ≡ 2 → (a : BatchArgs) (records : ℕ) → AreBytes a.bytes
      → lg_commands (block_of s) a records ≡ in_block block_of (batch on_state s a records)
  -- likewise with any words in the entries not in use, which stay
  pub commands_unused : (s : State) → Good s → length s.regions ≡ 16 → length s.pools ≡ 2 → (v : List ℕ) → length v ≡ 48 - 3 * s.count
      → (a : BatchArgs) (records : ℕ) → AreBytes a.bytes
      → lg_commands (with_unused s v) a records ≡ in_block (λ t. with_unused t v) (batch on_state s a records)
  -- one item: the command call of C
  pub one_command : (b bytes : List ℕ) (start n : ℕ) (symbols image replies : List ℕ) (records : ℕ) → 1 ≤ records → 32 ≤ length replies
      → let o = lg_command b (record { packet = bytes_from bytes start n; symbols = symbols; image = image; reply = take 32 replies }) in
      lg_commands b (lends bytes (start ∷ []) (n ∷ []) symbols image replies) records
      ≡ record {
        verdict = (Ok tt);
        left =
            record {
              state = o.state;
              image = o.image;
              replies = o.buffer ++ drop 32 replies;
              answers = record { number = o.number; length = o.bytes } ∷ [];
            };
      }
  -- any other block: each item 1 with length 0, and all stays as it was
  pub no_commands : (b : List ℕ) → ((i : ℕ) → get_or b i 0 < 4294967296) → (is_block b ≡ true → good_state (state_of b) ≡ true → ⊥)
      → (a : BatchArgs) (records : ℕ) → unfit a records ≡ false
      → lg_commands b a records
      ≡ record {
        verdict = (Ok tt);
        left =
            record {
              state = b;
              image = a.image;
              replies = a.replies;
              answers = replicate (items_of a) (record { number = 1; length = 0 });
            };
      }
