-- `rules::plain_words` states what the shared definitions say in plain words, which proofs/PlainWords.antt proves.
-- Assumes nothing.
use Rattle.rules.proofs.PlainWords.{plain_words}
use Rattle.rules.proofs.plain_words.Goals as goal

pub returns : goal.returns
returns c = plain_words
