-- The examples of batches, computed.
-- Assumes nothing.
use mathlib.Core.Path.{refl}
use Rattle.lists.specs.Splice.{splice}
use Rattle.wire.specs.Bytes.{word_bytes, words_at}
use Rattle.wire.specs.Xor.{xor_all}
use Rattle.rules.specs.Regions.{table_rules, in_one_region, words_below, region_of, image_index, words_of}
use Rattle.rules.specs.States.{start_rules, entries_used, start_up, piece_words, dump_rules, places_rules, count_rules, good_state}
use Rattle.rules.specs.Results.{lowest, lent_rows}
use Rattle.rules.specs.Packets.{well_formed, decode, name_in, field_rules, zero_rules, sealed, command_bytes}
use Rattle.rules.specs.Pools.{blocks_from, reply_bytes}
use Rattle.rules.specs.Commands.{task, any_with, any_idle, command_rows, first_idle, command_call}
use Rattle.rules.specs.Values.{value_bytes}
use Rattle.symbols.specs.Table.{symbol_table, resolved_by, has_name, record_of, value_of}
use Rattle.batches.specs.Batch.{bytes_from, unfit, left_by, batch}
use Rattle.batches.specs.Examples.{BatchExamples}

pub batch_examples : BatchExamples
unfolding splice word_bytes words_at xor_all table_rules in_one_region words_below region_of image_index words_of start_rules entries_used start_up piece_words dump_rules places_rules count_rules good_state lowest lent_rows well_formed decode name_in field_rules zero_rules sealed command_bytes blocks_from reply_bytes task any_with any_idle command_rows first_idle command_call value_bytes symbol_table resolved_by has_name record_of value_of bytes_from unfit left_by batch
batch_examples =
    record {
      mixed_answers = refl;
      mixed_image = refl;
      mixed_counts = refl;
      mixed_replies = refl;
      figures_replies = λ w x y z. refl;
      figures_records = λ w x y z. refl;
      figures_numbers = λ w x y z. refl;
      figures_lengths = λ w x y z. refl;
      told_answers = refl;
      told_replies = refl;
      far_start = refl;
      far_end = refl;
      far_answers = refl;
      most = refl;
      room = refl;
      unequal = refl;
      refused_start_lem = refl;
    }
