-- Lines of sections, as many as there may be, and the lines behind them, read exactly.
use Rattle.std.proofs.Common.{◌≡◌, inl, inr, ℕ, zero, suc, ◌+◌, ◌≤◌, List, [], ◌∷◌, ◌++◌, length, Option, Some, None, Result, Err, refl, sym, ap, subst, ◌∙◌, arith, append_assoc, length-append}
use Rattle.std.specs.List.{flat_map, AllByRecursion}
use Rattle.std.proofs.lemmas.List.{append-nil}
use Rattle.std.proofs.lemmas.List.Concat.{flat_map-cons}
use Rattle.duct_units.specs.Rules.{line_fault}
use Rattle.duct_units.specs.declared.fault.Fault.{Fault}
use Rattle.duct_units.specs.declared.fault.Reason.TheVariants.{Form}
use Rattle.duct_definitions.specs.declared.listed.ListedSection.{ListedSection}
use Rattle.duct_definitions.specs.DesignText.{section_line}
use Rattle.design_text.specs.Texts.{IsListedSection}
use Rattle.design_text.specs.Fields.{section_at, sections_at}
use Rattle.std.specs.Prelude.{codes}
use Rattle.design_text.proofs.LineLaws.{section_reader}
use Rattle.design_text.proofs.BadLines.{After}
use Rattle.design_text.proofs.Readers.{IsReader, reader_same, at_once}
use Rattle.design_text.proofs.SectionTexts.{Either, IsOther, or_else_read, either_read}

-- some more sections, so that there is one at least, and what stands behind all of them
pub record More {B : Type 0} (left : ℕ) (front : List ListedSection) (Is : List ListedSection → B → List ℕ → Type 0) (b : B) (bytes : List ℕ) : Type 0 where
  pub sections : List ListedSection
  pub fits : AllByRecursion IsListedSection sections
  pub few : length sections ≤ left
  pub some : 1 ≤ length (front ++ sections)
  pub rest : List ℕ
  pub parts : bytes ≡ flat_map section_line sections ++ rest
  pub is : Is (front ++ sections) b rest

-- what stands behind the sections is read exactly, from line k on where there are none
pub record IsTail {B : Type 0} (most k : ℕ) (Is : List ListedSection → B → List ℕ → Type 0) (tail : List ListedSection → List ℕ → Result B Fault) : Type 0 where
  pub reader : (ss : List ListedSection) → 1 ≤ length ss → length ss ≤ most → IsReader (Is ss) (k + length ss) (tail ss)
  pub none : (bytes : List ℕ) → tail [] bytes ≡ Err (line_fault k Form)
  pub apart : (ss : List ListedSection) (b : B) (bytes : List ℕ) → Is ss b bytes → section_at bytes ≡ None

-- what is read behind the sections in front and those at the front of the bytes
abbrev pub run_from : {B : Type 0} → (List ListedSection → List ℕ → Result B Fault) → List ListedSection → ℕ → List ℕ → Result B Fault
run_from tail front left bytes = tail (front ++ (sections_at left bytes).0) (sections_at left bytes).1

-- ---- no further section

full_to : {B : Type 0} (front : List ListedSection) (Is : List ListedSection → B → List ℕ → Type 0) → 1 ≤ length front → (b : B) (bytes : List ℕ) → Is front b bytes → More 0 front Is b bytes
full_to front Is some b bytes is = record {
  sections = [];
  fits = tt;
  few = omega arith;
  some = rw append-nil some;
  rest = bytes;
  parts = refl;
  is = subst (λ ss. Is ss b bytes) (sym (append-nil front)) is;
}

full_parts : {B : Type 0} (front : List ListedSection) (Is : List ListedSection → B → List ℕ → Type 0) (sections : List ListedSection) (b : B) (rest bytes : List ℕ)
    → length sections ≤ 0 → bytes ≡ flat_map section_line sections ++ rest → Is (front ++ sections) b rest → Is front b bytes
full_parts front Is [] b rest bytes few parts is = subst (λ ss. Is ss b bytes) (append-nil front) (subst (Is (front ++ []) b) (sym parts) is)
full_parts front Is (s ∷ sections) b rest bytes few parts is = absurd (omega (arith, few))

full_alike : {B : Type 0} (tail : List ListedSection → List ℕ → Result B Fault) (front : List ListedSection) (bytes : List ℕ) → run_from tail front 0 bytes ≡ tail front bytes
unfolding sections_at
full_alike tail front bytes = ap (λ (ss : List ListedSection). tail ss bytes) (append-nil front)

-- ---- a further section, or none

-- behind a further section
abbrev Further : {B : Type 0} → ℕ → List ListedSection → (List ListedSection → B → List ℕ → Type 0) → B → List ℕ → Type 0
Further left front Is = After IsListedSection section_line (λ s. More left (front ++ s ∷ []) Is)

-- where there is a section already
abbrev Enough : {B : Type 0} → List ListedSection → (List ListedSection → B → List ℕ → Type 0) → B → List ℕ → Type 0
Enough front Is b bytes = (1 ≤ length front) × Is front b bytes

more_to : {B : Type 0} (left : ℕ) (front : List ListedSection) (Is : List ListedSection → B → List ℕ → Type 0) (b : B) (bytes : List ℕ)
    → Either (Further left front Is) (Enough front Is) b bytes → More (suc left) front Is b bytes
more_to left front Is b bytes is = elim is [
  | inl after ↦ record {
    sections = after.value ∷ after.is.sections;
    fits = (after.fits, after.is.fits);
    few = omega (arith, after.is.few);
    some = rw (← append_assoc front (after.value ∷ []) after.is.sections) after.is.some;
    rest = after.is.rest;
    parts = after.parts ∙ ap (λ (x : List ℕ). section_line after.value ++ x) after.is.parts
        ∙ sym (append_assoc (section_line after.value) (flat_map section_line after.is.sections) after.is.rest)
        ∙ ap (λ (x : List ℕ). x ++ after.is.rest) (sym (flat_map-cons section_line after.value after.is.sections));
    is = subst (λ ss. Is ss b after.is.rest) (append_assoc front (after.value ∷ []) after.is.sections) after.is.is;
  }
  | inr enough ↦ record {
    sections = [];
    fits = tt;
    few = omega arith;
    some = rw append-nil enough.0;
    rest = bytes;
    parts = refl;
    is = subst (λ ss. Is ss b bytes) (sym (append-nil front)) enough.1;
  }
]

more_parts : {B : Type 0} (left : ℕ) (front : List ListedSection) (Is : List ListedSection → B → List ℕ → Type 0) (sections : List ListedSection) (b : B) (rest bytes : List ℕ)
    → AllByRecursion IsListedSection sections → length sections ≤ suc left → 1 ≤ length (front ++ sections) → bytes ≡ flat_map section_line sections ++ rest → Is (front ++ sections) b rest
    → Either (Further left front Is) (Enough front Is) b bytes
more_parts left front Is [] b rest bytes fits few some parts is =
    inr (rw append-nil at some, subst (λ ss. Is ss b bytes) (append-nil front) (subst (Is (front ++ []) b) (sym parts) is))
more_parts left front Is (s ∷ sections) b rest bytes fits few some parts is = inl (record {
  value = s;
  fits = fits.0;
  rest = flat_map section_line sections ++ rest;
  parts = parts ∙ ap (λ (x : List ℕ). x ++ rest) (flat_map-cons section_line s sections) ∙ append_assoc (section_line s) (flat_map section_line sections) rest;
  is = record {
    sections = sections;
    fits = fits.1;
    few = omega (arith, few);
    some = rw (append_assoc front (s ∷ []) sections) some;
    rest = rest;
    parts = refl;
    is = subst (λ ss. Is ss b rest) (sym (append_assoc front (s ∷ []) sections)) is;
  };
})

-- what is read is read of the first section and of the others
run_alike : {B : Type 0} (tail : List ListedSection → List ℕ → Result B Fault) (front : List ListedSection) (left : ℕ) (bytes : List ℕ) (o : Option (ListedSection × List ℕ)) → section_at bytes ≡ o
    → run_from tail front (suc left) bytes ≡ or_else_read o (λ x. run_from tail (front ++ x.0 ∷ []) left x.1) (tail front bytes)
unfolding sections_at
run_alike tail front left bytes None e = rw e (ap (λ (ss : List ListedSection). tail ss bytes) (append-nil front))
run_alike tail front left bytes (Some x) e = rw e (ap (λ (ss : List ListedSection). tail ss (sections_at left x.1).1) (sym (append_assoc front (x.0 ∷ []) (sections_at left x.1).0)))

-- where there is no section yet, nothing else may stand
other_of : {B : Type 0} (most k : ℕ) (Is : List ListedSection → B → List ℕ → Type 0) (tail : List ListedSection → List ℕ → Result B Fault) (front : List ListedSection)
    → IsTail most k Is tail → length front ≤ most → IsOther (Enough front Is) (k + length front) (tail front)
other_of most k Is tail [] is few =
    inr ((λ bytes. is.none bytes ∙ ap (λ n. Err (line_fault n Form)) (let e : k ≡ k + 0 = omega arith in e)), λ b bytes enough. absurd (omega (arith, enough.0)))
other_of most k Is tail (s ∷ front) is few =
    inl (reader_same (Is (s ∷ front)) (Enough (s ∷ front) Is) (k + length (s ∷ front)) (k + length (s ∷ front)) (tail (s ∷ front)) (tail (s ∷ front))
    (record { to = λ b bytes there. (omega arith, there); from = λ b bytes enough. enough.1 }) refl (λ bytes. refl) (is.reader (s ∷ front) (omega arith) few))

-- a section to be there
pub sample : ListedSection
sample = record { name = codes "s"; size = codes "k"; loss = 0; price = 0; damper = 0 }

sample_fits : IsListedSection sample
unfolding sample
sample_fits = record { name = refl; size = refl; loss = omega arith; price = omega arith; damper = omega arith }

pub run_read : {B : Type 0} (most k : ℕ) (Is : List ListedSection → B → List ℕ → Type 0) (tail : List ListedSection → List ℕ → Result B Fault) (left : ℕ) (front : List ListedSection)
    → 1 ≤ most → IsTail most k Is tail → length front + left ≡ most → IsReader (More left front Is) (k + length front) (run_from tail front left)
run_read most k Is tail zero front some is all =
    let enough : 1 ≤ length front = omega (arith, all, some) in
    reader_same (Is front) (More 0 front Is) (k + length front) (k + length front) (tail front) (run_from tail front 0)
    (record { to = full_to front Is enough; from = λ b bytes more. full_parts front Is more.sections b more.rest bytes more.few more.parts more.is })
    refl (full_alike tail front) (is.reader front enough (omega (arith, all)))
run_read most k Is tail (suc left) front some is all =
    let next : ListedSection × List ℕ → Result _ Fault = λ x. run_from tail (front ++ x.0 ∷ []) left x.1 in
    let either = either_read IsListedSection section_line section_at (λ s. More left (front ++ s ∷ []) Is) (Enough front Is) (k + length front) next (tail front) sample
    sample_fits section_reader
    (λ s fits. at_once (More left (front ++ s ∷ []) Is) (k + length (front ++ s ∷ [])) (k + length front + 1) (run_from tail (front ++ s ∷ []) left)
    (omega (arith, length-append front (s ∷ [])))
    (run_read most k Is tail left (front ++ s ∷ []) some is (omega (arith, length-append front (s ∷ []), all))))
    (other_of most k Is tail front is (omega (arith, all)))
    (λ b bytes enough. is.apart front b bytes enough.1) in
    reader_same (Either (Further left front Is) (Enough front Is)) (More (suc left) front Is) (k + length front) (k + length front) _ (run_from tail front (suc left))
    (record { to = more_to left front Is; from = λ b bytes more. more_parts left front Is more.sections b more.rest bytes more.fits more.few more.some more.parts more.is })
    refl (λ bytes. run_alike tail front left bytes (section_at bytes) refl) either
