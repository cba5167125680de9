-- The words behind a command's name, one after another.
use Rattle.std.proofs.Common.{◌≡◌, ℕ, ◌-◌, ◌≤◌, refl, arith, ap, sym, ◌∙◌, length, take, drop, get_or, map, List, [], ◌∷◌, Some, None}
use Rattle.std.proofs.lemmas.List.{take_all}
use Rattle.command_words.specs.declared.arguments.OptionName.{OptionName}
use Rattle.command_words.specs.Arguments.{Arguments, arguments_from, option_named, with_file, with_value}

-- an option takes the word behind it as its value
pub option_next : (a more : Arguments) (word value : List ℕ) (words : List (List ℕ)) (option : OptionName) → option_named word ≡ Some option
    → with_value a option value ≡ Some more → arguments_from a (word ∷ value ∷ words) ≡ arguments_from more words
option_next a more word value words option named given = rw named (rw given refl)

-- every other word is a file
pub file_next : (a more : Arguments) (word value : List ℕ) (words : List (List ℕ)) → option_named word ≡ None
    → with_file a word ≡ Some more → arguments_from a (word ∷ value ∷ words) ≡ arguments_from more (value ∷ words)
file_next a more word value words named given = rw named (rw given refl)

-- words that are kept in any form, as `spelled` says
module _ {A : Type 0} (spelled : A → List ℕ) where
  abbrev behind : List A → List A
  behind words = take (length words - 2) (drop 2 words)

  -- the first word, the one behind it, and those behind both
  two_first : (words : List A) (w v : A) → 2 ≤ length words → w ≡ get_or words 0 w → v ≡ get_or words 1 v
      → map spelled words ≡ spelled w ∷ spelled v ∷ map spelled (behind words)
  two_first [] w v many is other = absurd (omega arith)
  two_first (x ∷ []) w v many is other = absurd (omega arith)
  two_first (x ∷ y ∷ rest) w v many is other =
      ap (λ a. spelled a ∷ spelled y ∷ map spelled rest) (sym is)
      ∙ ap (λ b. spelled w ∷ spelled b ∷ map spelled rest) (sym other)
      ∙ ap (λ ws. spelled w ∷ spelled v ∷ map spelled ws) (sym (take_all (length (x ∷ y ∷ rest) - 2) rest (omega arith)))

  -- all words but the first
  but_first : (words : List A) (v : A) → 2 ≤ length words → v ≡ get_or words 1 v
      → map spelled (take (length words - 1) (drop 1 words)) ≡ spelled v ∷ map spelled (behind words)
  but_first [] v many other = absurd (omega arith)
  but_first (x ∷ []) v many other = absurd (omega arith)
  but_first (x ∷ y ∷ rest) v many other =
      ap (map spelled) (take_all (length (x ∷ y ∷ rest) - 1) (y ∷ rest) (omega arith))
      ∙ ap (λ b. spelled b ∷ map spelled rest) (sym other)
      ∙ ap (λ ws. spelled v ∷ map spelled ws) (sym (take_all (length (x ∷ y ∷ rest) - 2) rest (omega arith)))

  module _ (a more : Arguments) (words : List A) (w v : A) (many : 2 ≤ length words) (is : w ≡ get_or words 0 w) (other : v ≡ get_or words 1 v) where
    pub option_taken : (option : OptionName) → option_named (spelled w) ≡ Some option → with_value a option (spelled v) ≡ Some more
        → arguments_from a (map spelled words) ≡ arguments_from more (map spelled (behind words))
    option_taken option named given =
        ap (arguments_from a) (two_first words w v many is other) ∙ option_next a more (spelled w) (spelled v) (map spelled (behind words)) option named given

    pub file_taken : option_named (spelled w) ≡ None → with_file a (spelled w) ≡ Some more
        → arguments_from a (map spelled words) ≡ arguments_from more (map spelled (take (length words - 1) (drop 1 words)))
    file_taken named given =
        ap (arguments_from a) (two_first words w v many is other) ∙ file_next a more (spelled w) (spelled v) (map spelled (behind words)) named given
        ∙ ap (arguments_from more) (sym (but_first words v many other))
