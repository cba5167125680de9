-- Lines of sections and what stands behind them, read exactly.
use Rattle.std.proofs.Common.{◌≡◌, ◌⊎◌, inl, inr, ℕ, zero, suc, ◌+◌, List, ◌++◌, Option, Some, None, Result, Ok, Err, refl, sym, ap, subst, ◌∙◌, arith}
use Rattle.std.proofs.lemmas.Option.{none-some}
use Rattle.duct_units.specs.Rules.{line_fault}
use Rattle.duct_units.specs.declared.fault.Fault.{Fault}
use Rattle.duct_units.specs.declared.fault.Reason.TheVariants.{Form}
use Rattle.design_text.specs.Texts.{first_lines, Begins}
use Rattle.line_words.specs.Readers.{IsReaderOf}
use Rattle.design_text.proofs.BadLines.{Texts, After, begins_none, bad_here, bad_later, front_kept}
use Rattle.design_text.proofs.Readers.{Refuses, IsReader, found_or_none, same_Err, ok_err, before_later, here_refused}

-- ---- a line, or else something other

abbrev pub Either : {B : Type 0} → (B → List ℕ → Type 0) → (B → List ℕ → Type 0) → B → List ℕ → Type 0
Either Is Other b bytes = Is b bytes ⊎ Other b bytes

-- what follows the line, where it is there, or else the other
abbrev pub or_else_read : {A B : Type 0} → Option (A × List ℕ) → (A × List ℕ → Result B Fault) → Result B Fault → Result B Fault
or_else_read None next other = other
or_else_read (Some x) next other = next x

-- the other is read exactly, or never there
abbrev pub IsOther : {B : Type 0} → (B → List ℕ → Type 0) → ℕ → (List ℕ → Result B Fault) → Type 0
IsOther {B} Other k other = IsReader Other k other ⊎ (((bytes : List ℕ) → other bytes ≡ Err (line_fault k Form)) × ((b : B) (bytes : List ℕ) → Other b bytes → ⊥))

-- a text of either kind begins with these lines where one of a kind does
begins_left : {B : Type 0} (Is Other : B → List ℕ → Type 0) (n : ℕ) (bytes : List ℕ) → Begins (Texts Is) n bytes → Begins (Texts (Either Is Other)) n bytes
begins_left Is Other n bytes begun = record { lines = begun.lines; first = begun.first; rest = begun.rest; is = (begun.is.0, inl begun.is.1) }

begins_right : {B : Type 0} (Is Other : B → List ℕ → Type 0) (n : ℕ) (bytes : List ℕ) → Begins (Texts Other) n bytes → Begins (Texts (Either Is Other)) n bytes
begins_right Is Other n bytes begun = record { lines = begun.lines; first = begun.first; rest = begun.rest; is = (begun.is.0, inr begun.is.1) }

begins_one : {B : Type 0} (Is Other : B → List ℕ → Type 0) (n : ℕ) (bytes : List ℕ) → Begins (Texts (Either Is Other)) n bytes → Begins (Texts Is) n bytes ⊎ Begins (Texts Other) n bytes
begins_one Is Other n bytes begun = elim begun.is.1 [
  | inl is ↦ inl (record { lines = begun.lines; first = begun.first; rest = begun.rest; is = (begun.is.0, is) })
  | inr is ↦ inr (record { lines = begun.lines; first = begun.first; rest = begun.rest; is = (begun.is.0, is) })
]

-- bytes that begin with a line in range have no other text with this line
not_other : {A B : Type 0} (InRange : A → Type 0) (spelled : A → List ℕ) (read : List ℕ → Option (A × List ℕ)) (Other : B → List ℕ → Type 0) (n : ℕ) (a : A) (rest bytes : List ℕ)
    → InRange a → IsReaderOf InRange spelled read → bytes ≡ spelled a ++ rest → ((b : B) (bytes : List ℕ) → Other b bytes → read bytes ≡ None)
    → Begins (Texts Other) (suc n) bytes → ⊥
not_other InRange spelled read Other n a rest bytes fits line parts apart begun =
    let kept = front_kept InRange spelled read n a rest begun.lines begun.rest fits line (ap (first_lines (suc n)) (sym parts) ∙ begun.first) in
    none-some (a, kept.0) (sym (apart begun.is.0 (begun.lines ++ begun.rest) begun.is.1) ∙ ap read kept.1 ∙ line.again a kept.0 fits)

left_refused : {A B : Type 0} (InRange : A → Type 0) (spelled : A → List ℕ) (read : List ℕ → Option (A × List ℕ)) (Is : A → B → List ℕ → Type 0) (Other : B → List ℕ → Type 0) (k : ℕ) (a : A) (rest bytes text : List ℕ) (b : B) (fault : Fault)
    → InRange a → IsReaderOf InRange spelled read → bytes ≡ spelled a ++ rest → After InRange spelled Is b text → ((b : B) (bytes : List ℕ) → Other b bytes → read bytes ≡ None)
    → Refuses (Is a) (k + 1) rest fault → Refuses (Either (After InRange spelled Is) Other) k bytes fault
left_refused InRange spelled read Is Other k a rest bytes text b fault fits line parts some apart refused = record {
  bad = suc refused.bad;
  line = refused.line;
  place = omega (arith, refused.place);
  says = refused.says;
  first = record {
    before = λ i lt. begins_left (After InRange spelled Is) Other i bytes (before_later InRange spelled Is refused.bad a rest bytes text b fits (line.lines a fits) parts some refused.first.before i lt);
    bad = λ begun. elim (begins_one (After InRange spelled Is) Other (suc refused.bad) bytes begun) [
      | inl is ↦ refused.first.bad (bad_later InRange spelled read Is refused.bad a rest fits line (subst (Begins (Texts (After InRange spelled Is)) (suc refused.bad)) parts is))
      | inr other ↦ not_other InRange spelled read Other refused.bad a rest bytes fits line parts apart other
    ];
  };
}

-- where no line in range is the first, the fault of the other stands
not_after : {A B : Type 0} (InRange : A → Type 0) (spelled : A → List ℕ) (read : List ℕ → Option (A × List ℕ)) (Is : A → B → List ℕ → Type 0) (Other : B → List ℕ → Type 0) (n : ℕ) (bytes text : List ℕ) (b : B)
    → IsReaderOf InRange spelled read → read bytes ≡ None → Other b text → (Begins (Texts Other) n bytes → ⊥) → Begins (Texts (After InRange spelled Is)) n bytes → ⊥
not_after InRange spelled read Is Other zero bytes text b line none some bad begun = bad (begins_none (Texts Other) bytes text (b, some))
not_after InRange spelled read Is Other (suc n) bytes text b line none some bad begun = bad_here InRange spelled read Is n bytes line none begun

right_refused : {A B : Type 0} (InRange : A → Type 0) (spelled : A → List ℕ) (read : List ℕ → Option (A × List ℕ)) (Is : A → B → List ℕ → Type 0) (Other : B → List ℕ → Type 0) (k : ℕ) (bytes text : List ℕ) (b : B) (fault : Fault)
    → IsReaderOf InRange spelled read → read bytes ≡ None → Other b text → Refuses Other k bytes fault → Refuses (Either (After InRange spelled Is) Other) k bytes fault
right_refused InRange spelled read Is Other k bytes text b fault line none some refused = record {
  bad = refused.bad;
  line = refused.line;
  place = refused.place;
  says = refused.says;
  first = record {
    before = λ i lt. begins_right (After InRange spelled Is) Other i bytes (refused.first.before i lt);
    bad = λ begun. elim (begins_one (After InRange spelled Is) Other refused.bad bytes begun) [
      | inl is ↦ not_after InRange spelled read Is Other refused.bad bytes text b line none some refused.first.bad is
      | inr other ↦ refused.first.bad other
    ];
  };
}

-- the fault of the line, where no other text is
alone_refused : {A B : Type 0} (InRange : A → Type 0) (spelled : A → List ℕ) (read : List ℕ → Option (A × List ℕ)) (Is : A → B → List ℕ → Type 0) (Other : B → List ℕ → Type 0) (k : ℕ) (bytes text : List ℕ) (b : B)
    → IsReaderOf InRange spelled read → After InRange spelled Is b text → read bytes ≡ None → ((b : B) (bytes : List ℕ) → Other b bytes → ⊥)
    → Refuses (Either (After InRange spelled Is) Other) k bytes (line_fault k Form)
alone_refused InRange spelled read Is Other k bytes text b line some none never =
    let refused = here_refused InRange spelled read Is k bytes text b line some none in
    record {
      bad = refused.bad;
      line = refused.line;
      place = refused.place;
      says = refused.says;
      first = record {
        before = λ i lt. begins_left (After InRange spelled Is) Other i bytes (refused.first.before i lt);
        bad = λ begun. elim (begins_one (After InRange spelled Is) Other refused.bad bytes begun) [
          | inl is ↦ refused.first.bad is
          | inr other ↦ never other.is.0 (other.lines ++ other.rest) other.is.1
        ];
      };
    }

-- a line and what is read exactly behind it, or else the other
pub either_read : {A B : Type 0} (InRange : A → Type 0) (spelled : A → List ℕ) (read : List ℕ → Option (A × List ℕ)) (Is : A → B → List ℕ → Type 0) (Other : B → List ℕ → Type 0) (k : ℕ) (next : A × List ℕ → Result B Fault) (other : List ℕ → Result B Fault) (a : A)
    → InRange a → IsReaderOf InRange spelled read → ((x : A) → InRange x → IsReader (Is x) (k + 1) (λ rest. next (x, rest)))
    → IsOther Other k other → ((b : B) (bytes : List ℕ) → Other b bytes → read bytes ≡ None)
    → IsReader (Either (After InRange spelled Is) Other) k (λ bytes. or_else_read (read bytes) next (other bytes))
either_read InRange spelled read Is Other k next other a fits line others or apart =
    let first = others a fits in
    let some : After InRange spelled Is first.value (spelled a ++ first.text) = record { value = a; fits = fits; rest = first.text; parts = refl; is = first.some } in
    record {
      ok = λ bytes b e. elim (found_or_none (read bytes)) [
        | inl found ↦
            let t = line.takes bytes found.0.0 found.0.1 found.1 in
            inl (record { value = found.0.0; fits = t.0; rest = found.0.1; parts = t.1; is = (others found.0.0 t.0).ok found.0.1 b (sym (ap (λ o. or_else_read o next (other bytes)) found.1) ∙ e) })
        | inr none ↦
            let e2 : other bytes ≡ Ok b = sym (ap (λ o. or_else_read o next (other bytes)) none) ∙ e in
            elim or [ inl reader ↦ inr (reader.ok bytes b e2) | inr never ↦ absurd (ok_err b (line_fault k Form) (sym (never.0 bytes) ∙ e2)) ]
      ];
      all = λ bytes b is. elim is [
        | inl after ↦ ap (λ o. or_else_read o next (other bytes)) (ap read after.parts ∙ line.again after.value after.rest after.fits) ∙ (others after.value after.fits).all after.rest b after.is
        | inr there ↦ ap (λ o. or_else_read o next (other bytes)) (apart b bytes there) ∙ elim or [ inl reader ↦ reader.all bytes b there | inr never ↦ absurd (never.1 b bytes there) ]
      ];
      err = λ bytes fault e. elim (found_or_none (read bytes)) [
        | inl found ↦
            let t = line.takes bytes found.0.0 found.0.1 found.1 in
            left_refused InRange spelled read Is Other k found.0.0 found.0.1 bytes (spelled a ++ first.text) first.value fault t.0 line t.1 some apart
            ((others found.0.0 t.0).err found.0.1 fault (sym (ap (λ o. or_else_read o next (other bytes)) found.1) ∙ e))
        | inr none ↦
            let e2 : other bytes ≡ Err fault = sym (ap (λ o. or_else_read o next (other bytes)) none) ∙ e in
            elim or [
              | inl reader ↦ right_refused InRange spelled read Is Other k bytes reader.text reader.value fault line none reader.some (reader.err bytes fault e2)
              | inr never ↦ subst (Refuses (Either (After InRange spelled Is) Other) k bytes) (same_Err (line_fault k Form) fault (sym (never.0 bytes) ∙ e2))
                  (alone_refused InRange spelled read Is Other k bytes (spelled a ++ first.text) first.value line some none never.1)
            ]
      ];
      value = first.value;
      text = spelled a ++ first.text;
      some = inl some;
    }
