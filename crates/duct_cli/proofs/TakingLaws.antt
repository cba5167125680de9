-- One file more that is taken: the names asked for, the bytes, and the first that is too long.
use Rattle.std.proofs.Common.{◌≡◌, ℕ, ◌+◌, ◌<◌, ◌≤◌, true, false, cond, refl, arith, ap, sym, ◌∙◌, subst, length, take, drop, get_or, List, [], ◌∷◌, ◌++◌, Option, Some, None, IfSome, map, append_assoc}
use Rattle.std.specs.Prelude.{nat_lt}
use Rattle.std.proofs.lemmas.Bool.{le-ltb, lt-ltb}
use Rattle.std.proofs.lemmas.List.{take_more, drop_more, take-append-drop, map-append}
use Rattle.duct_ports.specs.Reading.{Contents, Holds, HoldsMoreThan}
use Rattle.duct_ports.specs.declared.read.TheConstants.{MAX_FILE_BYTES}
use Rattle.command_words.specs.declared.commands.FileWord.{FileWord}
use Rattle.duct_cli.specs.Taking.{AreWhole, AsksOn, first_too_long, names_seen}
use Rattle.command_words.specs.Commands.{NamedFile}
use Rattle.command_words.specs.WordsSeen.{file_seen}

name_seen : FileWord → List ℕ
name_seen word = word.name.now

-- where the names of the first words were asked for, those of the others are left
pub AsksOn-part : (before : List (List ℕ)) (words : List FileWord) (n : ℕ) (asked : List (List ℕ))
    → asked ≡ before ++ names_seen (take n words) → AsksOn before (names_seen words) asked
AsksOn-part before words n asked is = (
  names_seen (drop n words),
  ap (λ names. names ++ names_seen (drop n words)) is
      ∙ append_assoc before (names_seen (take n words)) (names_seen (drop n words))
      ∙ ap (λ names. before ++ names)
      (sym (map-append (λ (word : FileWord). word.name.now) (take n words) (drop n words)) ∙ ap names_seen (take-append-drop n words)),
)

-- a file that is short goes over to the next ones
too_long-past : (contents : Contents) (files others : List NamedFile) → first_too_long contents files ≡ None
    → first_too_long contents (files ++ others) ≡ first_too_long contents others
too_long-past contents [] others short = refl
too_long-past contents (file ∷ files) others short =
    elim (nat_lt MAX_FILE_BYTES (length (contents file.name)))
    as (λ b. cond b (Some file.kind) (first_too_long contents files) ≡ None
    → cond b (Some file.kind) (first_too_long contents (files ++ others)) ≡ first_too_long contents others)
    [ true ↦ λ is. absurd (cc is) | false ↦ λ is. too_long-past contents files others is ] short

module _ (words : List FileWord) (i : ℕ) (d : FileWord) (within : i < length words) where
  -- the next word
  abbrev next : FileWord
  next = get_or words i d

  pub asked_next : (before asked new : List (List ℕ)) → asked ≡ before ++ names_seen (take i words) → new ≡ asked ++ next.name.now ∷ []
      → new ≡ before ++ names_seen (take (i + 1) words)
  asked_next before asked new was is =
      is ∙ ap (λ names. names ++ next.name.now ∷ []) was
      ∙ append_assoc before (names_seen (take i words)) (next.name.now ∷ [])
      ∙ ap (λ names. before ++ names)
      (sym (map-append (λ (word : FileWord). word.name.now) (take i words) (next ∷ [])) ∙ ap names_seen (sym (take_more words i d within)))

  files_next : map file_seen (take (i + 1) words) ≡ map file_seen (take i words) ++ file_seen next ∷ []
  files_next = ap (map file_seen) (take_more words i d within) ∙ map-append file_seen (take i words) (next ∷ [])

  files_split : map file_seen words ≡ map file_seen (take i words) ++ file_seen next ∷ map file_seen (drop (i + 1) words)
  files_split =
      ap (map file_seen) (sym (take-append-drop i words))
      ∙ map-append file_seen (take i words) (drop i words)
      ∙ ap (λ rest. map file_seen (take i words) ++ map file_seen rest) (drop_more words i d within)

  module _ (contents : Contents) (bytes : List (List ℕ)) (whole : AreWhole contents (take i words) bytes) where
    -- the next file is the first that is too long
    too_long_here : MAX_FILE_BYTES < length (contents next.name.now) → first_too_long contents (map file_seen words) ≡ Some next.kind
    too_long_here long =
        ap (first_too_long contents) files_split
        ∙ too_long-past contents (map file_seen (take i words)) (file_seen next ∷ map file_seen (drop (i + 1) words)) whole.short
        ∙ ap (λ b. cond b (Some next.kind) (first_too_long contents (map file_seen (drop (i + 1) words)))) (lt-ltb MAX_FILE_BYTES (length (contents next.name.now)) long)

    -- or it is whole
    whole_next : (more : List ℕ) → more ≡ contents next.name.now → length more ≤ MAX_FILE_BYTES → AreWhole contents (take (i + 1) words) (bytes ++ more ∷ [])
    whole_next more is short = record {
      held =
          ap (λ bs. bs ++ more ∷ []) whole.held
          ∙ ap (λ b. map contents (names_seen (take i words)) ++ b ∷ []) is
          ∙ sym (map-append contents (names_seen (take i words)) (next.name.now ∷ []))
          ∙ ap (map contents) (sym (map-append (λ (word : FileWord). word.name.now) (take i words) (next ∷ [])) ∙ ap names_seen (sym (take_more words i d within)));
      short =
          ap (first_too_long contents) files_next
          ∙ too_long-past contents (map file_seen (take i words)) (file_seen next ∷ []) whole.short
          ∙ ap (λ b. cond b (Some next.kind) None) is_short;
    } where
      is_short : nat_lt MAX_FILE_BYTES (length (contents next.name.now)) ≡ false
      is_short = le-ltb MAX_FILE_BYTES (length (contents next.name.now)) (let same : length more ≡ length (contents next.name.now) = ap length is in omega arith)

  -- the same where the files tell what they hold
  pub is_too_long : (held now : Option Contents) (bytes : List (List ℕ)) → now ≡ held → IfSome held (λ contents. AreWhole contents (take i words) bytes)
      → HoldsMoreThan MAX_FILE_BYTES now next.name.now → IfSome held (λ contents. first_too_long contents (map file_seen words) ≡ Some next.kind)
  is_too_long held now bytes same whole long = by_cases held whole (subst (λ (h : Option Contents). HoldsMoreThan MAX_FILE_BYTES h next.name.now) same long) where
    by_cases : (h : Option Contents) → IfSome h (λ contents. AreWhole contents (take i words) bytes) → HoldsMoreThan MAX_FILE_BYTES h next.name.now
        → IfSome h (λ contents. first_too_long contents (map file_seen words) ≡ Some next.kind)
    by_cases None whole long = tt
    by_cases (Some contents) whole long = too_long_here contents bytes whole long

  pub are_whole : (held now : Option Contents) (bytes : List (List ℕ)) (more : List ℕ) → now ≡ held → IfSome held (λ contents. AreWhole contents (take i words) bytes)
      → Holds now next.name.now more → length more ≤ MAX_FILE_BYTES → IfSome held (λ contents. AreWhole contents (take (i + 1) words) (bytes ++ more ∷ []))
  are_whole held now bytes more same whole is short = by_cases held whole (subst (λ (h : Option Contents). Holds h next.name.now more) same is) where
    by_cases : (h : Option Contents) → IfSome h (λ contents. AreWhole contents (take i words) bytes) → Holds h next.name.now more
        → IfSome h (λ contents. AreWhole contents (take (i + 1) words) (bytes ++ more ∷ []))
    by_cases None whole is = tt
    by_cases (Some contents) whole is = whole_next contents bytes whole more is short
