-- The examples of codes 8 and 9, computed.
-- Assumes nothing.
use mathlib.Core.Path.{refl}
use Rattle.lists.specs.Splice.{splice}
use Rattle.wire.specs.Bytes.{word_bytes, words_at}
use Rattle.wire.specs.Xor.{xor_all}
use Rattle.rules.specs.Regions.{table_rules, in_one_region, words_below, region_of, image_index, words_of}
use Rattle.rules.specs.States.{start_rules, entries_used, start_up, piece_words, dump_rules, places_rules, count_rules, good_state}
use Rattle.rules.specs.Results.{lowest, lent_rows}
use Rattle.rules.specs.Packets.{well_formed, decode, name_in, field_rules, zero_rules, sealed, command_bytes}
use Rattle.rules.specs.Pools.{blocks_from, reply_bytes}
use Rattle.rules.specs.Commands.{task, any_with, any_idle, command_rows, first_idle, first_with, command_call}
use Rattle.symbols.specs.Table.{symbol_table, resolved_by, has_name, record_of, value_of}
use Rattle.rules.specs.Values.{value_bytes}
use Rattle.rules.specs.Slots.{any_busy, slot_rows, next_place, next_words, packet_bytes, after_packet, slot_call}
use Rattle.rules.specs.Ground.{header_rules, writer_rows, write_command, reader_rows, read_command, cut_rules, packet_rows, read_packet}
use Rattle.rules.specs.Demand3.{accepts, writes, pieces}
use Rattle.rules.specs.SymbolExamples.{SymbolExamples}

pub symbol_examples : SymbolExamples
unfolding splice word_bytes words_at xor_all table_rules in_one_region words_below region_of image_index words_of start_rules entries_used start_up piece_words dump_rules places_rules count_rules good_state lowest lent_rows well_formed decode name_in field_rules zero_rules sealed command_bytes blocks_from reply_bytes task any_with any_idle command_rows first_idle first_with command_call any_busy slot_rows next_place next_words packet_bytes after_packet slot_call accepts writes pieces header_rules writer_rows write_command reader_rows read_command cut_rules packet_rows read_packet symbol_table resolved_by has_name record_of value_of value_bytes
symbol_examples =
    record {
      alias_command = refl;
      alias_reply = refl;
      back_command = refl;
      back_packet = refl;
      prefix = refl;
      unknown = refl;
      order = refl;
      offsets = refl;
      runs_out_lem = refl;
      counted = refl;
      tables = refl;
      zero_byte = refl;
      zero_byte_values = refl;
      set_bits = refl;
      read = refl;
      read_words = refl;
      beyond = refl;
      unread = refl;
    }
