-- The examples where rules meet, computed.
-- Assumes nothing.
use mathlib.Core.Path.{refl}
use Rattle.lists.specs.Splice.{splice}
use Rattle.wire.specs.Bytes.{word_bytes, words_at}
use Rattle.wire.specs.Xor.{xor_all}
use Rattle.rules.specs.Regions.{table_rules, in_one_region, words_below, region_of, image_index, words_of}
use Rattle.rules.specs.States.{start_rules, entries_used, start_up, piece_words, dump_rules, places_rules, count_rules, good_state}
use Rattle.rules.specs.Results.{lowest, lent_rows}
use Rattle.rules.specs.Packets.{well_formed, decode, name_in, field_rules, zero_rules, sealed, command_bytes}
use Rattle.rules.specs.Pools.{blocks_from, reply_bytes}
use Rattle.rules.specs.Commands.{task, any_with, any_idle, command_rows, first_idle, first_with, command_call}
use Rattle.symbols.specs.Table.{symbol_table, resolved_by, has_name, record_of, value_of}
use Rattle.rules.specs.Values.{value_bytes}
use Rattle.rules.specs.Slots.{any_busy, slot_rows, next_place, next_words, packet_bytes, after_packet, slot_call}
use Rattle.rules.specs.Ground.{header_rules, writer_rows, write_command, reader_rows, read_command, cut_rules, packet_rows, read_packet}
use Rattle.rules.specs.Demand3.{accepts, cancels, writes, counts}
use Rattle.rules.specs.EdgeExamples.{EdgeExamples}

pub edge_examples : EdgeExamples
unfolding splice word_bytes words_at xor_all table_rules in_one_region words_below region_of image_index words_of start_rules entries_used start_up piece_words dump_rules places_rules count_rules good_state lowest lent_rows well_formed decode name_in field_rules zero_rules sealed command_bytes blocks_from reply_bytes task any_with any_idle command_rows first_idle first_with command_call any_busy slot_rows next_place next_words packet_bytes after_packet slot_call accepts cancels writes counts header_rules writer_rows write_command reader_rows read_command cut_rules packet_rows read_packet symbol_table resolved_by has_name record_of value_of value_bytes
edge_examples =
    record { two_faults = refl; four_first = refl; table_after_unit = refl; right_before_number = refl; packet_words = refl; load_into_dump = refl; cancel_half_sent = refl; unused_read = refl; nines = refl; replies_stay = refl; pool_reply_stays = refl; packets_stay = refl; last_stays = refl; counts_stay = refl; accepted_counts = refl; unused_zero = refl; refused_unit = refl; unused_judged = refl }
