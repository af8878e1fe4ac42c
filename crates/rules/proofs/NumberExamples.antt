-- The examples of every number, computed.
-- Assumes nothing.
use mathlib.Core.Path.{refl}
use Rattle.lists.specs.Splice.{splice}
use Rattle.wire.specs.Bytes.{word_bytes, words_at}
use Rattle.wire.specs.Xor.{xor_all}
use Rattle.rules.specs.Regions.{table_rules, in_one_region, words_below, region_of, image_index, words_of}
use Rattle.rules.specs.States.{start_rules, entries_used, start_up, piece_words, dump_rules, places_rules, count_rules, good_state}
use Rattle.rules.specs.Results.{lowest, lent_rows}
use Rattle.rules.specs.Packets.{well_formed, decode, name_in, field_rules, zero_rules, sealed, command_bytes}
use Rattle.rules.specs.Pools.{blocks_from, reply_bytes}
use Rattle.rules.specs.Commands.{task, any_with, any_idle, command_rows, first_idle, first_with, command_call}
use Rattle.symbols.specs.Table.{symbol_table, resolved_by, has_name, record_of, value_of}
use Rattle.rules.specs.Values.{value_bytes}
use Rattle.rules.specs.Slots.{any_busy, slot_rows, next_place, next_words, packet_bytes, after_packet, slot_call}
use Rattle.rules.specs.Ground.{header_rules, writer_rows, write_command, reader_rows, read_command, cut_rules, packet_rows, read_packet}
use Rattle.rules.specs.Demand3.{accepts, cancels, writes, counts}
use Rattle.rules.specs.NumberExamples.{NumberExamples}

pub number_examples : NumberExamples
unfolding splice word_bytes words_at xor_all table_rules in_one_region words_below region_of image_index words_of start_rules entries_used start_up piece_words dump_rules places_rules count_rules good_state lowest lent_rows well_formed decode name_in field_rules zero_rules sealed command_bytes blocks_from reply_bytes task any_with any_idle command_rows first_idle first_with command_call any_busy slot_rows next_place next_words packet_bytes after_packet slot_call accepts cancels writes counts header_rules writer_rows write_command reader_rows read_command cut_rules packet_rows read_packet symbol_table resolved_by has_name record_of value_of value_bytes
number_examples =
    record { one_fault = refl; one_fault_counted = refl; in_order_lem = refl; in_order_counted = refl; headers = refl; lent = refl; lent_counted = refl; slot_short = refl; reader = refl; reader_headers = refl; packet_layout = refl; packet_cut = refl; pools_overlap = refl; eleven = refl; seven = refl; value = refl; seen_numbers = refl; seen_accepts = refl; seen_cancels = refl; seen_writes = refl; seen_others = refl; seen_packets = refl; seen_slots = refl }
