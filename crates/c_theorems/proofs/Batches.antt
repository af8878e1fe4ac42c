-- A batch from C: the single calls in order, and on a state's block the batch on the state.
-- Assumes nothing.
use Rattle.std.specs.Prelude.{Ok}
use mathlib.Core.Path.{◌≡◌, refl, ap, ◌∙◌}
use mathlib.Core.Bool.{true}
use mathlib.Core.List.{List, [], ◌∷◌, ◌++◌}
use Prim.Native.Nat.{ℕ, zero, suc, ◌*◌, ◌-◌, ◌<◌}
use native.Mathlib.Omega.{arith}
use lib.Dec.{lit<}
use lib.ListN.{length}
use Rattle.lists.specs.Splice.{splice}
use Rattle.lists.proofs.Tests.{either}
use Rattle.wire.specs.Bytes.{AreBytes}
use Rattle.rules.specs.Commands.{CommandArgs, command_call}
use Rattle.rules.specs.GoodWhen.{Good}
use Rattle.rules.specs.States.{good_state}
use Rattle.rules.specs.declared.State.{State}
use Rattle.rules.proofs.ExactEffect.{demand_2}
use Rattle.rules.proofs.Refusals.{demand_1}
use Rattle.batches.specs.Batch.{BatchArgs, Single, items_of, unfit, Left, item_args, with_item, left_by, batch}
use Rattle.batches.specs.Batch as batches
use Rattle.batches.specs.InOrder.{InOrder}
use Rattle.batches.proofs.Items.{Within}
use Rattle.batches.proofs.InOrder.{in_order_lem, all_refused}
use Rattle.batches.proofs.Kept.{command_kept}
use Rattle.batches.proofs.Lists.{packet_bytes}
use Rattle.block.specs.Blocks.{word, block_of, is_block, state_of}
use Rattle.block.specs.Calls.{CallLeft, on_state}
use Rattle.block.proofs.GoodFits.{good_fits}
use Rattle.lent_batch.specs.Batches.{on_block, lg_commands}
use Rattle.c_theorems.specs.BatchesFromC.{in_block, BatchesFromC}
use Rattle.c_theorems.specs.FromC.{with_unused}
use Rattle.c_theorems.proofs.FromC.{on_block_lem, other, bad_command}
use Rattle.c_theorems.proofs.Unused.{command_with}

-- an item on a block keeps its reply buffer's length, and its number and the length of its reply fit a byte
within : (b : List ℕ) (c : CommandArgs) → Within c (on_block b c)
unfolding on_state
within b c =
    let k = command_kept (state_of b) c in
    either (is_block b)
    (λ e. rw e record { reply_long = (demand_1.command (state_of b) c).lent.1; number_low = k.number; length_low = k.length })
    (λ e. rw e record { reply_long = refl; number_low = lit< tt; length_low = lit< tt })

-- a state of n regions that has a block, and whose calls from C are its calls
record Blocked (n : ℕ) (s : State) : Type 0 where
  good : Good s
  regions : length s.regions ≡ 16
  pools : length s.pools ≡ 2
  count : s.count ≡ n

stays_blocked : (n : ℕ) (s : State) (c : CommandArgs) → AreBytes c.packet → Blocked n s → Blocked n (command_call s c).state
stays_blocked n s c b h =
    let kept = command_kept s c in
    let before = (demand_2.good_when s).1 h.good in
    record {
      good = (demand_2.good_when (command_call s c).state).0 (demand_2.command_good s c b before);
      regions = ap length kept.regions ∙ h.regions;
      pools = ap length kept.pools ∙ h.pools;
      count = kept.count ∙ h.count;
    }

-- WHAT IS LEFT, with this block of the state

abbrev left_in : (State → List ℕ) → Left State → Left (List ℕ)
left_in block l = record { state = block l.state; image = l.image; replies = l.replies; answers = l.answers }

abbrev single_in : (State → List ℕ) → Single State → Single (List ℕ)
single_in block o = record { number = o.number; length = o.length; state = block o.state; image = o.image; reply = o.reply }

abbrev as_single : CallLeft → Single (List ℕ)
as_single o = record { number = o.number; length = o.bytes; state = o.state; image = o.image; reply = o.buffer }

module _ (block : State → List ℕ) (n : ℕ)
    (single-on : (s : State) (c : CommandArgs) → Blocked n s → on_block (block s) c ≡ single_in block (batches.on_state s c)) (s : State) (a : BatchArgs)
    (bytes : AreBytes a.bytes) where
  record Follows (k : ℕ) : Type 0 where
    is : left_by on_block a (block s) k ≡ left_in block (left_by batches.on_state a s k)
    blocked : Blocked n (left_by batches.on_state a s k).state

  follows : Blocked n s → (k : ℕ) → Follows k
  unfolding left_by
  follows h zero = record { is = refl; blocked = h }
  follows h (suc k) =
      let f : Follows k = follows h k in
      let l : Left State = left_by batches.on_state a s k in
      let c : CommandArgs = item_args batches.on_state a l k in
      let p : AreBytes c.packet = packet_bytes a.bytes _ _ bytes in
      record {
        is =
            ap (λ (m : Left (List ℕ)). with_item on_block a m k) f.is
            ∙ ap
            (λ (o : Single (List ℕ)).
            record {
              state = o.state;
              image = o.image;
              replies = splice l.replies (32 * k) o.reply;
              answers = l.answers ++ (record { number = o.number; length = o.length } ∷ []);
            })
            (single-on l.state c f.blocked);
        blocked = stays_blocked n l.state c p f.blocked;
      }

  batch_on : Blocked n s → (records : ℕ) → lg_commands (block s) a records ≡ in_block block (batch batches.on_state s a records)
  unfolding batch left_by
  batch_on h records =
      either (unfit a records)
      (λ e. rw e refl)
      (λ e. rw e (ap (λ (l : Left (List ℕ)). record { verdict = (Ok tt); left = l }) (follows h (items_of a)).is))

-- the state's own block, and that with other words in the entries not in use
single_own : (n : ℕ) (s : State) (c : CommandArgs) → Blocked n s → on_block (block_of s) c ≡ single_in block_of (batches.on_state s c)
single_own n s c h =
    let k = command_kept s c in
    ap as_single (on_block_lem s (good_fits s h.good h.regions h.pools) c.image c.reply (λ s. command_call s c) k.regions k.count)

single_with : (v : List ℕ) (n : ℕ) → length v ≡ 48 - 3 * n → (s : State) (c : CommandArgs) → Blocked n s
    → on_block (with_unused s v) c ≡ single_in (λ t. with_unused t v) (batches.on_state s c)
single_with v n l s c h =
    let m = h.count in
    ap as_single (command_with s (good_fits s h.good h.regions h.pools) v h.good.start.sixteen (omega arith) c)

-- the reply buffer of a call from C keeps its length
reply_kept : (b : List ℕ) (c : CommandArgs) → length (on_block b c).reply ≡ length c.reply
reply_kept b c = (within b c).reply_long

c_in_order : InOrder on_block
c_in_order = in_order_lem on_block reply_kept

-- a block that is no good state
bad_single : (b : List ℕ) → ((i : ℕ) → word b i < 4294967296) → (is_block b ≡ true → good_state (state_of b) ≡ true → ⊥) → (c : CommandArgs)
    → on_block b c ≡ record { number = 1; length = 0; state = b; image = c.image; reply = c.reply }
bad_single b w h c =
    ap as_single (other b c.image c.reply (λ s. command_call s c) w (bad_command b c w) h)

pub batches_from_c : BatchesFromC
batches_from_c =
    record {
      in_order_lem = c_in_order;
      commands = λ s g r p a records bytes.
          batch_on block_of s.count (single_own s.count) s a bytes (record { good = g; regions = r; pools = p; count = refl }) records;
      commands_unused = λ s g r p v l a records bytes.
          batch_on (λ t. with_unused t v) s.count (single_with v s.count l) s a bytes (record { good = g; regions = r; pools = p; count = refl }) records;
      one_command = c_in_order.one;
      no_commands = λ b w h. all_refused on_block b reply_kept (bad_single b w h);
    }
