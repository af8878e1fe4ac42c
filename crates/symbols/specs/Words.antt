-- The name field of a symbol, eight bytes at a time.
use Rattle.std.specs.Prelude.{Bool, ◌&&◌, List, [], ◌∷◌, ℕ, ◌+◌, ◌*◌, eqb, get_or}
use Rattle.lists.specs.Below.{all_below}
use Rattle.wire.specs.Bytes.{be_at}
use Rattle.symbols.specs.Table.{name_length_at}
use Rattle.symbols.specs.declared.NameWords.{NameWords}

-- word k of it
unfoldable pub word : List ℕ → ℕ → ℕ
word r k = be_at 8 r (4 + 8 * k)

abbrev pub name_words : List ℕ → NameWords
name_words r = record { n = name_length_at r 0; words = word r 0 ∷ word r 1 ∷ word r 2 ∷ word r 3 ∷ word r 4 ∷ word r 5 ∷ [] }

-- a symbol has these
abbrev pub has_first : ℕ → List ℕ → Bool
has_first a r = eqb (word r 0) a

abbrev pub has_word : NameWords → List ℕ → ℕ → Bool
has_word w r k = eqb (word r k) (get_or w.words k 0)

abbrev pub has_words : NameWords → List ℕ → Bool
has_words w r = all_below (has_word w r) 6 && eqb (name_length_at r 0) w.n
