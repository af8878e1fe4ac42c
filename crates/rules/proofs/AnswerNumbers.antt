-- The numbers and lengths of answers, case by case.
-- Assumes nothing.
use mathlib.Core.Path.{refl}
use Rattle.rules.specs.AnswerNumbers.{AnswerNumbers}

pub answer_numbers : AnswerNumbers
answer_numbers =
    record {
      lent = (refl, refl, refl);
      packet = (refl, refl, refl, refl, refl, refl);
      command = (refl, refl, refl, refl, refl, refl);
      others = (refl, refl, refl, refl);
      handed_in = (refl, refl, refl, refl, refl, refl);
      one_more = (refl, refl, refl, refl, refl, refl, refl, refl, refl, refl, refl, refl, refl);
      done = λ w. (refl, refl);
      refused = λ r. (refl, refl);
      started = (refl, λ r. refl);
      command_read = λ f. refl;
      command_unread = λ r. refl;
      packet_read = λ f. refl;
      packet_unread = λ r. refl;
      returns = λ o. (refl, refl);
    }
