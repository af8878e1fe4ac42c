-- The words beside the command reader's answer.
use Rattle.std.specs.Prelude.{List, ℕ, Result, Ok, Err}
use Rattle.rules.specs.Ground.{no_words, words_beside}
use Rattle.rules.specs.declared.Refusal.{Refusal}
use Rattle.rules.specs.declared.Telecommand.{Telecommand}

abbrev pub words_with : List ℕ → Result Telecommand Refusal → List ℕ
words_with p (Err r) = no_words
words_with p (Ok f) = words_beside p f.command
