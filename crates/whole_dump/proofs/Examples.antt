-- The examples of the check, computed.
-- Assumes nothing.
use mathlib.Core.Path.{refl}
use Rattle.rules.specs.States.{piece_words}
use Rattle.rules.specs.Demand3.{pieces}
use Rattle.rules.specs.Results.{lowest}
use Rattle.rules.specs.Ground.{cut_rules, packet_rows, read_packet}
use Rattle.whole_dump.specs.Check.{bytes_before, packet_at, unfit, agree, piece_of, has, is_bad, pieces_due, is_missing, check_dump}
use Rattle.whole_dump.specs.Examples.{CheckExamples}

pub check_examples : CheckExamples
unfolding piece_words pieces lowest cut_rules packet_rows read_packet bytes_before packet_at unfit agree piece_of has is_bad pieces_due is_missing check_dump
check_examples =
    record {
      e2_whole = refl;
      e2_twice = refl;
      no_packets = refl;
      in_order_lem = refl;
      other_order = refl;
      first_alone = refl;
      second_alone = refl;
      same_counts = refl;
      lowest = refl;
      other_unit = refl;
      far_unit = refl;
      other_transaction = refl;
      far_transaction = refl;
      same_address = refl;
      other_address = refl;
      other_words = refl;
      empty_first = refl;
      empty_last = refl;
      odd_list = refl;
      one_over = refl;
      bytes_alone = refl;
      one_short = refl;
      past_the_end = refl;
      first_bad = refl;
      third_bad = refl;
      bad_and_missing = refl;
      odd_and_bad = refl;
      left_over_and_bad = refl;
      most = refl;
      over = refl;
      far_over = refl;
    }
