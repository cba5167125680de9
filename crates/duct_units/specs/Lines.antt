-- Lines of words, as every printed text has them.
use Rattle.std.specs.Prelude.{ℕ, List, [], ◌∷◌, ◌++◌}

-- a space before each word, and a line feed
abbrev pub words_after : List (List ℕ) → List ℕ
words_after [] = 10 ∷ []
words_after (word ∷ words) = 32 ∷ (word ++ words_after words)

-- the words with a space between each two, and a line feed
unfoldable pub line : List ℕ → List (List ℕ) → List ℕ
line first words = first ++ words_after words
