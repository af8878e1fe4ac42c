-- A command is accepted exactly when the layouts, the unit, the region table, the places, the blocks and the symbol table allow it.
-- Assumes nothing.
use Rattle.std.specs.Prelude.{Option, None}
use mathlib.Core.Path.{◌≡◌, refl}
use mathlib.Core.Logic.{◌↔◌}
use mathlib.Core.Bool.{true}
use Prim.Native.Nat.{◌≤◌}
use lib.ListN.{length}
use Rattle.lists.proofs.Tests.{contra}
use Rattle.rules.specs.Regions.{image_length}
use Rattle.rules.specs.States.{good_state}
use Rattle.rules.specs.Packets.{decode}
use Rattle.rules.specs.Commands.{CommandArgs}
use Rattle.rules.specs.Demand2.{ForThisBox, IsAccepted, AcceptedWhen}
use Rattle.rules.specs.declared.State.{State}
use Rattle.rules.proofs.Passed.{Tested, Passed, passed_out, passed_in, tests_of}
use Rattle.rules.proofs.Allowed.{box_out, box_in, decode_dump, decode_cancel, decode_load, decode_pool, decode_value, decode_by_name, decode_other, dump_out, dump_in, cancel_out, cancel_in, load_out, load_in, pool_out, pool_in, value_out, value_in, by_name_out, by_name_in}
use Rattle.rules.specs.declared.Command.{Command}

module _ (s : State) (c : CommandArgs) (good : good_state s ≡ true) (image : length c.image ≡ image_length s.regions s.count)
    (reply : 32 ≤ length c.reply) where
  -- accepted exactly when the packet is for this box and what its command's tests say holds
  when : {A : Type 0} (d : Option Command) → decode c.packet ≡ d → (Tested s c d → A) → (A → Tested s c d) → IsAccepted s c ↔ (ForThisBox s c.packet × A)
  when {A} d e f g = (there, λ a. passed_in s c (back a.0 a.1))
    where
      there : IsAccepted s c → ForThisBox s c.packet × A
      there h = let p = passed_out s c h in (box_out s c.packet p.shape p.apid p.unit, f (tests_of s c d e h))

      back : ForThisBox s c.packet → A → Passed s c
      back b a =
          record
          { good = good; image = image; reply = reply; shape = box_in s c.packet b; apid = b.apid; unit = b.unit; tests = rw e (g a) }

  pub accepted_when : AcceptedWhen s c
  accepted_when =
      record {
        dump = λ e. when _ (decode_dump c.packet e) (dump_out s c) (dump_in s c);
        cancel = λ e. when _ (decode_cancel c.packet e) (cancel_out s c) (cancel_in s c);
        load = λ e. when _ (decode_load c.packet e) (load_out s c) (load_in s c);
        pool = λ e. when _ (decode_pool c.packet e) (pool_out s c) (pool_in s c);
        value = λ e. when _ (decode_value c.packet e) (value_out s c) (value_in s c);
        by_name = λ e b. when _ (decode_by_name c.packet e) (by_name_out s c b) (by_name_in s c);
        other = λ n₀ n₁ n₄ n₇ n₈ n₉ h. contra refl (tests_of s c None (decode_other c.packet n₀ n₁ n₄ n₇ n₈ n₉) h).laid.known;
      }
