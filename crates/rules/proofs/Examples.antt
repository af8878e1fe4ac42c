-- E1 to E12, computed.
-- Assumes nothing.
use mathlib.Core.Path.{refl}
use Rattle.lists.specs.Splice.{splice}
use Rattle.wire.specs.Bytes.{word_bytes, words_at}
use Rattle.wire.specs.Xor.{xor_all}
use Rattle.rules.specs.Regions.{table_rules, in_one_region, words_below, region_of, image_index, words_of}
use Rattle.rules.specs.States.{start_rules, entries_used, start_up, piece_words, dump_rules, places_rules, count_rules, good_state}
use Rattle.rules.specs.Results.{lowest, lent_rows}
use Rattle.rules.specs.Packets.{well_formed, decode, name_in, field_rules, zero_rules, sealed, command_bytes}
use Rattle.rules.specs.Pools.{blocks_from, reply_bytes}
use Rattle.rules.specs.Commands.{task, any_with, any_idle, command_rows, first_idle, first_with, command_call}
use Rattle.rules.specs.Slots.{any_busy, slot_rows, next_place, next_words, packet_bytes, after_packet, slot_call}
use Rattle.rules.specs.Demand3.{accepts, writes, pieces}
use Rattle.rules.specs.Examples.{Examples}

pub examples : Examples
unfolding splice word_bytes words_at xor_all table_rules in_one_region words_below region_of image_index words_of start_rules entries_used start_up piece_words dump_rules places_rules count_rules good_state lowest lent_rows well_formed decode name_in field_rules zero_rules sealed command_bytes blocks_from reply_bytes task any_with any_idle command_rows first_idle first_with command_call any_busy slot_rows next_place next_words packet_bytes after_packet slot_call accepts writes pieces
examples =
    record {
      e1 = refl;
      e1_e2 = refl;
      e2 = refl;
      e3 = refl;
      e3_answer = refl;
      e3_image = refl;
      e4 = refl;
      e5 = refl;
      e6 = refl;
      e7 = refl;
      e8_one = refl;
      e8_two = refl;
      e8_bytes = refl;
      e8_pieces = refl;
      e8_slots = refl;
      e9 = refl;
      e10 = refl;
      e11 = λ w x y z. refl;
      e11_answer = λ w x y z. refl;
      e12 = refl;
    }
