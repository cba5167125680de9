-- Lines of words, and what stands behind them.
use Rattle.std.proofs.Common.{◌≡◌, ℕ, true, List, [], ◌∷◌, ◌++◌, refl, sym, ap, ◌∙◌, append_assoc}
use Rattle.std.specs.Prelude.{IsTrue}
use Rattle.std.specs.List.{list_all}
use Rattle.duct_units.specs.Name.{is_name, is_name_byte}
use Rattle.duct_units.specs.Lines.{line, words_after}
use Rattle.line_words.specs.Readers.{IsFree, IsLine}
use Rattle.line_words.proofs.WordLaws.{free-append, free_of_kind, name_free}

-- ---- a line and what stands behind it

-- the words behind the first, the line feed, and the rest
abbrev pub behind : List (List ℕ) → List ℕ → List ℕ
behind [] rest = 10 ∷ rest
behind (word ∷ words) rest = 32 ∷ (word ++ behind words rest)

behind-words : (words : List (List ℕ)) (rest : List ℕ) → words_after words ++ rest ≡ behind words rest
behind-words [] rest = refl
behind-words (word ∷ words) rest =
    ap (λ (x : List ℕ). 32 ∷ x) (append_assoc word (words_after words) rest ∙ ap (λ (x : List ℕ). word ++ x) (behind-words words rest))

pub line-behind : (first : List ℕ) (words : List (List ℕ)) (rest : List ℕ) → line first words ++ rest ≡ first ++ behind words rest
unfolding line
line-behind first words rest = append_assoc first (words_after words) rest ∙ ap (λ (x : List ℕ). first ++ x) (behind-words words rest)

-- no word has a line feed
abbrev pub AreOfLine : List (List ℕ) → Type 0
AreOfLine [] = Unit {0}
AreOfLine (word ∷ words) = IsFree 10 word × AreOfLine words

words_are : (words : List (List ℕ)) → AreOfLine words → IsLine (words_after words)
words_are [] free = record { before = []; free = tt; whole = refl }
words_are (word ∷ words) free =
    let others = words_are words free.1 in
    record {
      before = 32 ∷ (word ++ others.before);
      free = (refl, free-append 10 word others.before free.0 others.free);
      whole = ap (λ (x : List ℕ). 32 ∷ x) (ap (λ (x : List ℕ). word ++ x) others.whole ∙ sym (append_assoc word others.before (10 ∷ [])));
    }

pub line_is : (first : List ℕ) (words : List (List ℕ)) → IsFree 10 first → AreOfLine words → IsLine (line first words)
unfolding line
line_is first words free others =
    let rest = words_are words others in
    record {
      before = first ++ rest.before;
      free = free-append 10 first rest.before free rest.free;
      whole = ap (λ (x : List ℕ). first ++ x) rest.whole ∙ sym (append_assoc first rest.before (10 ∷ []));
    }

-- ---- words

-- a name ends where the line does
pub name_ends : (name : List ℕ) → IsTrue (is_name name) → IsFree 10 name
name_ends name is = name_free 10 name refl is

-- a word that has no space and no line feed
pub record IsWord (word : List ℕ) : Type 0 where
  pub space : IsFree 32 word
  pub end : IsFree 10 word

pub word_is : (word : List ℕ) → list_all is_name_byte word ≡ true → IsWord word
word_is word of_name = record { space = free_of_kind 32 is_name_byte word refl of_name; end = free_of_kind 10 is_name_byte word refl of_name }
