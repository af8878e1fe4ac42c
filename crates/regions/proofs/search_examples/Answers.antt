-- `regions::search_examples` computes the examples of the search.
-- Assumes nothing.
use mathlib.Core.Path.{refl}
use Rattle.rules.specs.Regions.{table_rules, words_below, region_of}
use Rattle.regions.specs.Halving.{find_by_halving, region_by_halving, compared, candidate, one_left, comparisons}
use Rattle.regions.proofs.search_examples.Goals as goal

pub returns : goal.returns
unfolding find_by_halving words_below region_by_halving compared candidate one_left comparisons table_rules region_of
returns c =
    record {
      whole = refl;
      last_word = refl;
      fewer = refl;
      past = refl;
      outside = refl;
      found = refl;
      index = refl;
      runs_out_lem = refl;
      starts_outside = refl;
      with_region_0 = refl;
      with_region_10 = refl;
      with_region_15 = refl;
      of_one = refl;
      of_three = refl;
      not_in_order = (refl, refl, refl);
    }
