-- The first bad line of bytes whose texts go on differently after their first line.
--   After InRange spelled Is b bytes   a line in range, and behind it what may follow this line
use Rattle.std.proofs.Common.{◌≡◌, ℕ, suc, List, [], ◌∷◌, ◌++◌, Option, Some, None, refl, sym, ap, subst, ◌∙◌, append_assoc}
use Rattle.std.proofs.lemmas.Option.{none-some, same_Some, some_pair_parts}
use Rattle.duct_units.specs.Options.{◌>>=◌}
use Rattle.line_words.specs.Words.{cut}
use Rattle.line_words.specs.Readers.{IsLine, IsReaderOf}
use Rattle.line_words.proofs.WordLaws.{bind_some, cut-at, cut-found}
use Rattle.design_text.specs.Texts.{first_lines, Begins}

-- the bytes are a text of some value
abbrev pub Texts : {B : Type 0} → (B → List ℕ → Type 0) → List ℕ → Type 0
Texts {B} Is bytes = (b : B) × Is b bytes

-- a line in range, and behind it what may follow this line
pub record After {A B : Type 0} (InRange : A → Type 0) (spelled : A → List ℕ) (Is : A → B → List ℕ → Type 0) (b : B) (bytes : List ℕ) : Type 0 where
  pub value : A
  pub fits : InRange value
  pub rest : List ℕ
  pub parts : bytes ≡ spelled value ++ rest
  pub is : Is value b rest

-- a line is cut at its line feed
pub line_cut : (bytes rest : List ℕ) → (is : IsLine bytes) → cut 10 (bytes ++ rest) ≡ Some (is.before, rest)
line_cut bytes rest is =
    ap (cut 10) (ap (λ (x : List ℕ). x ++ rest) is.whole ∙ append_assoc is.before (10 ∷ []) rest) ∙ cut-at 10 is.before rest is.free

-- the first lines are the first line and those behind it
pub record FirstOf (n : ℕ) (bytes lines : List ℕ) : Type 0 where
  pub first : List ℕ
  pub rest : List ℕ
  pub others : List ℕ
  pub found : cut 10 bytes ≡ Some (first, rest)
  pub more : first_lines n rest ≡ Some others
  pub whole : lines ≡ first ++ 10 ∷ others

pub first_of : (n : ℕ) (bytes lines : List ℕ) → first_lines (suc n) bytes ≡ Some lines → FirstOf n bytes lines
unfolding first_lines
first_of n bytes lines e =
    let a = bind_some (cut 10 bytes) (λ line. first_lines n line.1 >>= λ more. Some (line.0 ++ 10 ∷ more)) lines e in
    let b = bind_some (first_lines n a.0.1) (λ more. Some (a.0.0 ++ 10 ∷ more)) lines a.2 in
    record { first = a.0.0; rest = a.0.1; others = b.0; found = a.1; more = b.1; whole = sym (same_Some _ _ b.2) }

pub lines_onto : (n : ℕ) (bytes first rest others : List ℕ) → cut 10 bytes ≡ Some (first, rest) → first_lines n rest ≡ Some others
    → first_lines (suc n) bytes ≡ Some (first ++ 10 ∷ others)
unfolding first_lines
lines_onto n bytes first rest others found more = rw (found, more) refl

pub no_lines : (bytes : List ℕ) → first_lines 0 bytes ≡ Some []
unfolding first_lines
no_lines bytes = refl

-- a text begins with none of its lines
pub begins_none : (Is : List ℕ → Type 0) (bytes text : List ℕ) → Is text → Begins Is 0 bytes
begins_none Is bytes text is = record { lines = []; first = no_lines bytes; rest = text; is = is }

-- where the bytes begin with no line in range, no text begins with their first line
pub bad_here : {A B : Type 0} (InRange : A → Type 0) (spelled : A → List ℕ) (read : List ℕ → Option (A × List ℕ)) (Is : A → B → List ℕ → Type 0) (n : ℕ) (bytes : List ℕ)
    → IsReaderOf InRange spelled read → read bytes ≡ None → Begins (Texts (After InRange spelled Is)) (suc n) bytes → ⊥
bad_here InRange spelled read Is n bytes reader none begun =
    let of = first_of n bytes begun.lines begun.first in
    let text = begun.is.1 in
    let first = reader.lines text.value text.fits in
    let here : cut 10 (begun.lines ++ begun.rest) ≡ Some (of.first, of.others ++ begun.rest) =
    ap (cut 10) (ap (λ (x : List ℕ). x ++ begun.rest) of.whole ∙ append_assoc of.first (10 ∷ of.others) begun.rest)
    ∙ cut-at 10 of.first (of.others ++ begun.rest) (cut-found 10 bytes of.first of.rest of.found).1 in
    let there : cut 10 (begun.lines ++ begun.rest) ≡ Some (first.before, text.rest) = ap (cut 10) text.parts ∙ line_cut (spelled text.value) text.rest first in
    let same = some_pair_parts of.first first.before (of.others ++ begun.rest) text.rest (sym here ∙ there) in
    let front : bytes ≡ spelled text.value ++ of.rest =
    (cut-found 10 bytes of.first of.rest of.found).0 ∙ ap (λ (x : List ℕ). x ++ 10 ∷ of.rest) same.0
    ∙ sym (append_assoc first.before (10 ∷ []) of.rest) ∙ ap (λ (x : List ℕ). x ++ of.rest) (sym first.whole) in
    none-some (text.value, of.rest) (sym none ∙ ap read front ∙ reader.again text.value of.rest text.fits)

-- a text that begins with the lines behind the first begins with it and them
pub good_later : {A B : Type 0} (InRange : A → Type 0) (spelled : A → List ℕ) (Is : A → B → List ℕ → Type 0) (n : ℕ) (a : A) (rest : List ℕ)
    → InRange a → IsLine (spelled a) → Begins (Texts (Is a)) n rest → Begins (Texts (After InRange spelled Is)) (suc n) (spelled a ++ rest)
good_later InRange spelled Is n a rest fits line begun =
    let regroup : (line.before ++ 10 ∷ begun.lines) ++ begun.rest ≡ spelled a ++ (begun.lines ++ begun.rest) =
    append_assoc line.before (10 ∷ begun.lines) begun.rest ∙ sym (append_assoc line.before (10 ∷ []) (begun.lines ++ begun.rest))
    ∙ ap (λ (x : List ℕ). x ++ (begun.lines ++ begun.rest)) (sym line.whole) in
    record {
      lines = line.before ++ 10 ∷ begun.lines;
      first = lines_onto n (spelled a ++ rest) line.before rest begun.lines (line_cut (spelled a) rest line) begun.first;
      rest = begun.rest;
      is = (begun.is.0, record { value = a; fits = fits; rest = begun.lines ++ begun.rest; parts = regroup; is = begun.is.1 });
    }

-- whatever begins with the first lines begins with the first of them
pub front_kept : {A : Type 0} (InRange : A → Type 0) (spelled : A → List ℕ) (read : List ℕ → Option (A × List ℕ)) (n : ℕ) (a : A) (rest lines more : List ℕ)
    → InRange a → IsReaderOf InRange spelled read → first_lines (suc n) (spelled a ++ rest) ≡ Some lines → (behind : List ℕ) × (lines ++ more ≡ spelled a ++ behind)
front_kept InRange spelled read n a rest lines more fits reader e =
    let of = first_of n (spelled a ++ rest) lines e in
    let line = reader.lines a fits in
    let cuts = some_pair_parts of.first line.before of.rest rest (sym of.found ∙ line_cut (spelled a) rest line) in (
      of.others ++ more,
      ap (λ (x : List ℕ). x ++ more) of.whole ∙ append_assoc of.first (10 ∷ of.others) more
          ∙ ap (λ (x : List ℕ). x ++ 10 ∷ (of.others ++ more)) cuts.0
          ∙ sym (append_assoc line.before (10 ∷ []) (of.others ++ more)) ∙ ap (λ (x : List ℕ). x ++ (of.others ++ more)) (sym line.whole),
    )

-- and the other way round
pub bad_later : {A B : Type 0} (InRange : A → Type 0) (spelled : A → List ℕ) (read : List ℕ → Option (A × List ℕ)) (Is : A → B → List ℕ → Type 0) (n : ℕ) (a : A) (rest : List ℕ)
    → InRange a → IsReaderOf InRange spelled read → Begins (Texts (After InRange spelled Is)) (suc n) (spelled a ++ rest) → Begins (Texts (Is a)) n rest
bad_later InRange spelled read Is n a rest fits reader begun =
    let of = first_of n (spelled a ++ rest) begun.lines begun.first in
    let text = begun.is.1 in
    let line = reader.lines a fits in
    let cuts = some_pair_parts of.first line.before of.rest rest (sym of.found ∙ line_cut (spelled a) rest line) in
    let more : first_lines n rest ≡ Some of.others = ap (first_lines n) (sym cuts.1) ∙ of.more in
    let regroup : begun.lines ++ begun.rest ≡ spelled a ++ (of.others ++ begun.rest) =
    ap (λ (x : List ℕ). x ++ begun.rest) of.whole ∙ append_assoc of.first (10 ∷ of.others) begun.rest
    ∙ ap (λ (x : List ℕ). x ++ 10 ∷ (of.others ++ begun.rest)) cuts.0
    ∙ sym (append_assoc line.before (10 ∷ []) (of.others ++ begun.rest)) ∙ ap (λ (x : List ℕ). x ++ (of.others ++ begun.rest)) (sym line.whole) in
    let same = some_pair_parts text.value a text.rest (of.others ++ begun.rest)
    (sym (reader.again text.value text.rest text.fits) ∙ ap read (sym text.parts ∙ regroup) ∙ reader.again a (of.others ++ begun.rest) fits) in
    let is : Is a begun.is.0 (of.others ++ begun.rest) =
    subst (Is a begun.is.0) same.1 (subst (λ x. Is x begun.is.0 text.rest) same.0 text.is) in
    record { lines = of.others; first = more; rest = begun.rest; is = (begun.is.0, is) }
