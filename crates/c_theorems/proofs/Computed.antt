-- The C interface on literal blocks, computed.
-- Assumes nothing.
use mathlib.Core.Path.{refl}
use Rattle.lists.specs.Splice.{splice}
use Rattle.wire.specs.Bytes.{word_bytes, words_at}
use Rattle.wire.specs.Xor.{xor_all}
use Rattle.symbols.specs.Table.{symbol_table, resolved_by, has_name, record_of, value_of}
use Rattle.rules.specs.Regions.{table_rules, in_one_region, words_below, region_of, image_index, words_of}
use Rattle.rules.specs.States.{start_rules, entries_used, start_up, piece_words, dump_rules, places_rules, count_rules, good_state}
use Rattle.rules.specs.Results.{lowest, lent_rows}
use Rattle.rules.specs.Packets.{well_formed, decode, name_in, field_rules, zero_rules, sealed, command_bytes}
use Rattle.rules.specs.Pools.{blocks_from, reply_bytes}
use Rattle.rules.specs.Commands.{task, any_with, any_idle, command_rows, first_idle, first_with, command_call}
use Rattle.rules.specs.Values.{value_bytes}
use Rattle.rules.specs.Slots.{any_busy, slot_rows, next_place, next_words, packet_bytes, after_packet, slot_call}
use Rattle.rules.specs.Ground.{header_rules, writer_rows, write_command, reader_rows, read_command, cut_rules, packet_rows, read_packet}
use Rattle.block.specs.Runs.{runs}
use Rattle.block.specs.Blocks.{block_of, state_of, regions_bounds, place_bounds, is_block, block_over, is_table}
use Rattle.block.specs.Calls.{table_of}
use Rattle.batches.specs.Batch.{bytes_from, unfit, left_by, batch}
use Rattle.ground_blocks.specs.Fields.{command_in}
use Rattle.block.specs.Calls.{lg_start_up, on_state}
use Rattle.capi.specs.Commands.{lg_write_command, lg_read_command, lg_read_packet}
use Rattle.c_theorems.specs.Examples.{Examples}

pub computed : Examples
unfolding splice word_bytes words_at xor_all table_rules in_one_region words_below region_of image_index words_of start_rules entries_used start_up piece_words dump_rules places_rules count_rules good_state lowest lent_rows well_formed decode name_in field_rules zero_rules sealed command_bytes symbol_table resolved_by has_name record_of value_of blocks_from reply_bytes value_bytes task any_with any_idle command_rows first_idle first_with command_call any_busy slot_rows next_place next_words packet_bytes after_packet slot_call header_rules writer_rows write_command reader_rows read_command cut_rules packet_rows read_packet runs block_of state_of regions_bounds place_bounds is_block block_over is_table table_of command_in lg_start_up on_state lg_write_command lg_read_command lg_read_packet bytes_from unfit left_by batch
computed =
    record { start = refl; start_sixteen = refl; start_bounds = refl; start_lengths = refl; start_state = refl; slot_number = refl; slot_bytes = refl; slot_packet = refl; slot_state = refl; slot_unused = refl; no_state = refl; rights = refl; dump_state = refl; refused_state = refl; runs_out_lem = refl; runs_out_state = refl; load_image = refl; pool_left = refl; value_left = refl; values = refl; unknown_left = refl; unknown_state = refl; by_name_state = refl; by_name_back = refl; batch_left = refl; batch_no_state = refl; batch_refused = refl; write_e1 = refl; write_e3 = refl; write_cancel = refl; write_by_name = refl; write_pool = refl; write_numbers = refl; read_e3 = refl; read_pool = refl; read_by_name = refl; read_lengths = refl; packet_read = refl; packet_lengths = refl }
