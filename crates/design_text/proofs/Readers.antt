-- Readers of texts: what is read is a text, what is a text is read, and a fault names the first bad line.
use Rattle.std.proofs.Common.{◌≡◌, ◌⊎◌, inl, inr, ℕ, zero, suc, ◌+◌, ◌<◌, List, ◌++◌, Option, Some, None, Result, Ok, Err, refl, sym, ap, subst, ◌∙◌, arith}
use Rattle.duct_units.specs.Rules.{line_fault}
use Rattle.duct_units.specs.declared.fault.Fault.{Fault}
use Rattle.duct_units.specs.declared.fault.Reason.TheVariants.{Form}
use Rattle.design_text.specs.Texts.{Begins, IsFirstBad}
use Rattle.duct_units.specs.Results.{◌>>=◌}
use Rattle.design_text.specs.Reading.{at_line}
use Rattle.line_words.specs.Readers.{IsLine, IsReaderOf}
use Rattle.design_text.proofs.BadLines.{Texts, After, begins_none, bad_here, good_later, bad_later}

-- the fault is that of the first bad line of the bytes, of which the first is line k of the file
pub record Refuses {B : Type 0} (Is : B → List ℕ → Type 0) (k : ℕ) (bytes : List ℕ) (fault : Fault) : Type 0 where
  pub bad : ℕ
  pub line : ℕ
  pub place : line + 1 ≡ k + bad
  pub says : fault ≡ line_fault line Form
  pub first : IsFirstBad (Texts Is) bad bytes

-- the texts from line k on are read exactly
pub record IsReader {B : Type 0} (Is : B → List ℕ → Type 0) (k : ℕ) (read : List ℕ → Result B Fault) : Type 0 where
  pub ok : (bytes : List ℕ) (b : B) → read bytes ≡ Ok b → Is b bytes
  pub all : (bytes : List ℕ) (b : B) → Is b bytes → read bytes ≡ Ok b
  pub err : (bytes : List ℕ) (fault : Fault) → read bytes ≡ Err fault → Refuses Is k bytes fault
  pub value : B
  pub text : List ℕ
  pub some : Is value text

pub ok_err : {B : Type 0} (b : B) (f : Fault) → ◌≡◌ {A = Result B Fault} (Err f) (Ok b) → ⊥
ok_err b f e = cc

pub same_Err : {B : Type 0} (f g : Fault) → ◌≡◌ {A = Result B Fault} (Err f) (Err g) → f ≡ g
same_Err f g e = cc

-- ---- the same texts, read the same

-- two kinds of text are one
pub record AreSame {B : Type 0} (Is Other : B → List ℕ → Type 0) : Type 0 where
  pub to : (b : B) (bytes : List ℕ) → Is b bytes → Other b bytes
  pub from : (b : B) (bytes : List ℕ) → Other b bytes → Is b bytes

begins_same : {B : Type 0} (Is Other : B → List ℕ → Type 0) (n : ℕ) (bytes : List ℕ) → ((b : B) (bytes : List ℕ) → Is b bytes → Other b bytes)
    → Begins (Texts Is) n bytes → Begins (Texts Other) n bytes
begins_same Is Other n bytes to begun =
    record { lines = begun.lines; first = begun.first; rest = begun.rest; is = (begun.is.0, to begun.is.0 (begun.lines ++ begun.rest) begun.is.1) }

pub reader_same : {B : Type 0} (Is Other : B → List ℕ → Type 0) (k l : ℕ) (read reads : List ℕ → Result B Fault) → AreSame Is Other → k ≡ l → ((bytes : List ℕ) → reads bytes ≡ read bytes)
    → IsReader Is k read → IsReader Other l reads
reader_same Is Other k l read reads same at alike reader = record {
  ok = λ bytes b e. same.to b bytes (reader.ok bytes b (sym (alike bytes) ∙ e));
  all = λ bytes b is. alike bytes ∙ reader.all bytes b (same.from b bytes is);
  err = λ bytes fault e.
      let refused = reader.err bytes fault (sym (alike bytes) ∙ e) in
      record {
        bad = refused.bad;
        line = refused.line;
        place = omega (arith, refused.place, at);
        says = refused.says;
        first = record {
          before = λ i lt. begins_same Is Other i bytes same.to (refused.first.before i lt);
          bad = λ begun. refused.first.bad (begins_same Other Is refused.bad bytes same.from begun);
        };
      };
  value = reader.value;
  text = reader.text;
  some = same.to reader.value reader.text reader.some;
}

-- the same under another name of the line's number
pub at_once : {B : Type 0} (Is : B → List ℕ → Type 0) (k l : ℕ) (read : List ℕ → Result B Fault) → k ≡ l → IsReader Is k read → IsReader Is l read
at_once Is k l read same reader = subst (λ n. IsReader Is n read) same reader

-- ---- a line, and then what may follow it

-- what is read behind the line that was found
abbrev pub line_then : {A B : Type 0} → ℕ → (List ℕ → Option (A × List ℕ)) → (A × List ℕ → Result B Fault) → List ℕ → Result B Fault
line_then k read next bytes = at_line k (read bytes) >>= next

pub before_later : {A B : Type 0} (InRange : A → Type 0) (spelled : A → List ℕ) (Is : A → B → List ℕ → Type 0) (n : ℕ) (a : A) (rest bytes text : List ℕ) (b : B)
    → InRange a → IsLine (spelled a) → bytes ≡ spelled a ++ rest → After InRange spelled Is b text → ((i : ℕ) → i < n → Begins (Texts (Is a)) i rest)
    → (i : ℕ) → i < suc n → Begins (Texts (After InRange spelled Is)) i bytes
before_later InRange spelled Is n a rest bytes text b fits line parts some earlier zero lt = begins_none (Texts (After InRange spelled Is)) bytes text (b, some)
before_later InRange spelled Is n a rest bytes text b fits line parts some earlier (suc j) lt =
    subst (Begins (Texts (After InRange spelled Is)) (suc j)) (sym parts) (good_later InRange spelled Is j a rest fits line (earlier j (omega (arith, lt))))

-- where the first line is found, its fault is that of what follows
later_refused : {A B : Type 0} (InRange : A → Type 0) (spelled : A → List ℕ) (read : List ℕ → Option (A × List ℕ)) (Is : A → B → List ℕ → Type 0) (k : ℕ) (a : A) (rest bytes text : List ℕ) (b : B) (fault : Fault)
    → InRange a → IsReaderOf InRange spelled read → bytes ≡ spelled a ++ rest → After InRange spelled Is b text
    → Refuses (Is a) (k + 1) rest fault → Refuses (After InRange spelled Is) k bytes fault
later_refused InRange spelled read Is k a rest bytes text b fault fits line parts some refused = record {
  bad = suc refused.bad;
  line = refused.line;
  place = omega (arith, refused.place);
  says = refused.says;
  first = record {
    before = before_later InRange spelled Is refused.bad a rest bytes text b fits (line.lines a fits) parts some refused.first.before;
    bad = λ begun. refused.first.bad (bad_later InRange spelled read Is refused.bad a rest fits line (subst (Begins (Texts (After InRange spelled Is)) (suc refused.bad)) parts begun));
  };
}

-- where it isn't found, the fault is its own
pub here_refused : {A B : Type 0} (InRange : A → Type 0) (spelled : A → List ℕ) (read : List ℕ → Option (A × List ℕ)) (Is : A → B → List ℕ → Type 0) (k : ℕ) (bytes text : List ℕ) (b : B)
    → IsReaderOf InRange spelled read → After InRange spelled Is b text → read bytes ≡ None → Refuses (After InRange spelled Is) k bytes (line_fault k Form)
here_refused InRange spelled read Is k bytes text b line some none = record {
  bad = 1;
  line = k;
  place = refl;
  says = refl;
  first = record {
    before = λ i lt. subst (λ n. Begins (Texts (After InRange spelled Is)) n bytes) (let e : 0 ≡ i = omega (arith, lt) in e) (begins_none (Texts (After InRange spelled Is)) bytes text (b, some));
    bad = bad_here InRange spelled read Is 0 bytes line none;
  };
}

-- what was found, or nothing
pub found_or_none : {A : Type 0} (o : Option A) → ((x : A) × (o ≡ Some x)) ⊎ (o ≡ None)
found_or_none None = inr refl
found_or_none (Some x) = inl (x, refl)

-- a line, and behind it what is read exactly
pub then_read : {A B : Type 0} (InRange : A → Type 0) (spelled : A → List ℕ) (read : List ℕ → Option (A × List ℕ)) (Is : A → B → List ℕ → Type 0) (k : ℕ) (next : A × List ℕ → Result B Fault) (a : A)
    → InRange a → IsReaderOf InRange spelled read → ((x : A) → InRange x → IsReader (Is x) (k + 1) (λ rest. next (x, rest)))
    → IsReader (After InRange spelled Is) k (line_then k read next)
then_read InRange spelled read Is k next a fits line others =
    let first = others a fits in
    let some : After InRange spelled Is first.value (spelled a ++ first.text) = record { value = a; fits = fits; rest = first.text; parts = refl; is = first.some } in
    record {
      ok = λ bytes b e. elim (found_or_none (read bytes)) [
        | inl found ↦
            let t = line.takes bytes found.0.0 found.0.1 found.1 in
            record { value = found.0.0; fits = t.0; rest = found.0.1; parts = t.1; is = (others found.0.0 t.0).ok found.0.1 b (sym (ap (λ o. at_line k o >>= next) found.1) ∙ e) }
        | inr none ↦ absurd (ok_err b (line_fault k Form) (sym (ap (λ o. at_line k o >>= next) none) ∙ e))
      ];
      all = λ bytes b is.
          ap (λ o. at_line k o >>= next) (ap read is.parts ∙ line.again is.value is.rest is.fits) ∙ (others is.value is.fits).all is.rest b is.is;
      err = λ bytes fault e. elim (found_or_none (read bytes)) [
        | inl found ↦
            let t = line.takes bytes found.0.0 found.0.1 found.1 in
            later_refused InRange spelled read Is k found.0.0 found.0.1 bytes (spelled a ++ first.text) first.value fault t.0 line t.1 some
            ((others found.0.0 t.0).err found.0.1 fault (sym (ap (λ o. at_line k o >>= next) found.1) ∙ e))
        | inr none ↦
            subst (Refuses (After InRange spelled Is) k bytes) (same_Err (line_fault k Form) fault (sym (ap (λ o. at_line k o >>= next) none) ∙ e))
            (here_refused InRange spelled read Is k bytes (spelled a ++ first.text) first.value line some none)
      ];
      value = first.value;
      text = spelled a ++ first.text;
      some = some;
    }
