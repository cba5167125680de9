-- The lines that are read, one after the other, are a design text, and a design text has these lines.
use Rattle.std.proofs.Common.{◌≡◌, ℕ, zero, suc, ◌≤◌, List, [], ◌∷◌, ◌++◌, length, Option, Some, None, decimal, refl, sym, ap, subst, ◌∙◌, arith}
use Rattle.std.specs.Prelude.{codes, IsTrue, IfSome}
use Rattle.std.specs.List.{flat_map, AllByRecursion}
use Rattle.std.proofs.lemmas.Fmt.{decimal_digit}
use Rattle.std.proofs.lemmas.List.{append-nil}
use Rattle.duct_units.specs.Lines.{line}
use Rattle.duct_units.specs.Name.{is_name}
use Rattle.duct_definitions.specs.declared.limits.TheConstants.{MAX_SECTIONS}
use Rattle.duct_definitions.specs.declared.listed.Listed.{Listed}
use Rattle.duct_definitions.specs.declared.listed.ListedFan.{ListedFan}
use Rattle.duct_definitions.specs.declared.listed.ListedSection.{ListedSection}
use Rattle.duct_definitions.specs.DesignText.{fan_line, section_line, text, form_of, first_fan, back_line}
use Rattle.design_text.specs.declared.words.TheConstants.{MAX_NUMBER}
use Rattle.design_text.specs.Texts.{IsListedFan, IsListedSection, IsInRange, IsTextOf}
use Rattle.design_text.proofs.Readers.{AreSame}
use Rattle.design_text.proofs.TextReading.{SupplyOf, AreNumbers, numbers_line}
use Rattle.design_text.proofs.WholeTexts.{BackOf, WholeOf, IsForm, fields_of, regroup}

-- ---- the lines from the supply side's numbers on

abbrev Maker : Type 0
Maker = ℕ × ℕ → ℕ × ℕ → List ListedSection → ℕ → Listed

-- these lines, in order
abbrev supply_text : ℕ × ℕ → ℕ × ℕ → List ListedSection → ℕ → List ℕ
supply_text supply return sections total =
    numbers_line (codes "supply") supply ++ (numbers_line (codes "return") return
    ++ (flat_map section_line sections ++ (line (codes "cost") (decimal total ∷ []) ++ line (codes "end") [])))

-- the fields on them
record SupplyFields (made : Maker) (b : Listed) (bytes : List ℕ) : Type 0 where
  supply : ℕ × ℕ
  return : ℕ × ℕ
  sections : List ListedSection
  total : ℕ
  supply_fits : AreNumbers supply
  return_fits : AreNumbers return
  fits : AllByRecursion IsListedSection sections
  few : length sections ≤ MAX_SECTIONS
  some : 1 ≤ length sections
  total_fits : total ≤ MAX_NUMBER
  is : b ≡ made supply return sections total
  parts : bytes ≡ supply_text supply return sections total

supply_fields : (made : Maker) (b : Listed) (bytes : List ℕ) → SupplyOf made b bytes → SupplyFields made b bytes
supply_fields made b bytes s =
    let r = s.is in
    let more = r.is in
    let cost = more.is in
    let last = cost.is in
    record {
      supply = s.value;
      return = r.value;
      sections = more.sections;
      total = cost.value;
      supply_fits = s.fits;
      return_fits = r.fits;
      fits = more.fits;
      few = more.few;
      some = more.some;
      total_fits = cost.fits;
      is = last.is.0;
      parts = s.parts ∙ ap (λ (x : List ℕ). numbers_line (codes "supply") s.value ++ x)
          (r.parts ∙ ap (λ (x : List ℕ). numbers_line (codes "return") r.value ++ x)
          (more.parts ∙ ap (λ (x : List ℕ). flat_map section_line more.sections ++ x)
          (cost.parts ∙ ap (λ (x : List ℕ). line (codes "cost") (decimal cost.value ∷ []) ++ x)
          (last.parts ∙ ap (λ (x : List ℕ). line (codes "end") [] ++ x) last.is.1 ∙ append-nil (line (codes "end") [])))));
    }

supply_lines : (made : Maker) (b : Listed) (supply return : ℕ × ℕ) (sections : List ListedSection) (total : ℕ) → AreNumbers supply → AreNumbers return
    → AllByRecursion IsListedSection sections → length sections ≤ MAX_SECTIONS → 1 ≤ length sections → total ≤ MAX_NUMBER → b ≡ made supply return sections total
    → SupplyOf made b (supply_text supply return sections total)
supply_lines made b supply return sections total supply_fits return_fits fits few some total_fits is =
    let end = line (codes "end") [] in
    let cost = line (codes "cost") (decimal total ∷ []) ++ end in
    let ss = flat_map section_line sections ++ cost in
    record {
      value = supply;
      fits = supply_fits;
      rest = numbers_line (codes "return") return ++ ss;
      parts = refl;
      is = record {
        value = return;
        fits = return_fits;
        rest = ss;
        parts = refl;
        is = record {
          sections = sections;
          fits = fits;
          few = few;
          some = some;
          rest = cost;
          parts = refl;
          is = record {
            value = total;
            fits = total_fits;
            rest = end;
            parts = refl;
            is = record { value = tt; fits = tt; rest = []; parts = sym (append-nil end); is = (is, refl) };
          };
        };
      };
    }

-- ---- the whole text

-- the lines of a text, in order
abbrev lines_of : List ℕ → ListedFan → Option ListedFan → List ℕ → List ℕ
lines_of project fan back rest =
    line (codes "design") (form_of back ∷ []) ++ (line (codes "project") (project ∷ []) ++ (fan_line (codes "fan") fan ++ (back_line back ++ rest)))

-- lines of fields in range are a text
made_text : (project : List ℕ) (fan : ListedFan) (back : Option ListedFan) (b : Listed) (rest bytes : List ℕ) → IsTrue (is_name project) → IsListedFan fan → IfSome back IsListedFan
    → SupplyFields (fields_of project fan back) b rest → bytes ≡ lines_of project fan back rest → IsTextOf b bytes
made_text project fan back b rest bytes named fan_fits back_fits s parts =
    let l = fields_of project fan back s.supply s.return s.sections s.total in
    let fits : IsInRange l = record {
      project = named;
      fan = fan_fits;
      back = back_fits;
      supply_worst = s.supply_fits.0;
      supply_head = s.supply_fits.1;
      return_worst = s.return_fits.0;
      return_head = s.return_fits.1;
      some = s.some;
      few = s.few;
      sections = s.fits;
      total = s.total_fits;
    } in
    let spelled : bytes ≡ text l = parts ∙ ap (lines_of project fan back) s.parts
    ∙ sym (regroup (line (codes "design") (form_of back ∷ [])) (line (codes "project") (project ∷ [])) (fan_line (codes "fan") fan) (back_line back)
    (numbers_line (codes "supply") s.supply) (numbers_line (codes "return") s.return) (flat_map section_line s.sections) (line (codes "cost") (decimal s.total ∷ [])) (line (codes "end") [])) in
    let found : IsTextOf l bytes = record { in_range = fits; spelled = spelled } in
    subst (λ x. IsTextOf x bytes) (sym s.is) found

one_is : decimal 1 ≡ codes "1"
one_is = decimal_digit 1 (omega arith)

two_is : decimal 2 ≡ codes "2"
two_is = decimal_digit 2 (omega arith)

-- the lines of a text of each form are its text
text_of_form : (form : ℕ) (project : List ℕ) (fan : ListedFan) (b : Listed) (rest bytes : List ℕ) → IsForm form → IsTrue (is_name project) → IsListedFan fan
    → BackOf form (fields_of project fan) b rest
    → bytes ≡ line (codes "design") (decimal form ∷ []) ++ (line (codes "project") (project ∷ []) ++ (fan_line (codes "fan") fan ++ rest)) → IsTextOf b bytes
text_of_form zero project fan b rest bytes form named fits back parts = absurd (omega (arith, form.0))
text_of_form (suc zero) project fan b rest bytes form named fits back parts =
    made_text project fan None b rest bytes named fits tt (supply_fields (fields_of project fan None) b rest back)
    (parts ∙ ap (λ (w : List ℕ). line (codes "design") (w ∷ []) ++ (line (codes "project") (project ∷ []) ++ (fan_line (codes "fan") fan ++ rest))) one_is)
text_of_form (suc (suc zero)) project fan b rest bytes form named fits back parts =
    made_text project fan (Some back.value) b back.rest bytes named fits back.fits (supply_fields (fields_of project fan (Some back.value)) b back.rest back.is)
    (parts ∙ ap (λ (x : List ℕ). line (codes "design") (decimal 2 ∷ []) ++ (line (codes "project") (project ∷ []) ++ (fan_line (codes "fan") fan ++ x))) back.parts
    ∙ ap (λ (w : List ℕ). line (codes "design") (w ∷ []) ++ (line (codes "project") (project ∷ []) ++ (fan_line (codes "fan") fan ++ (back_line (Some back.value) ++ back.rest)))) two_is)
text_of_form (suc (suc (suc n))) project fan b rest bytes form named fits back parts = absurd (omega (arith, form.1))

text_to : (b : Listed) (bytes : List ℕ) → WholeOf b bytes → IsTextOf b bytes
text_to b bytes w =
    text_of_form w.value w.is.value w.is.is.value b w.is.is.rest bytes w.fits w.is.fits w.is.is.fits w.is.is.is
    (w.parts ∙ ap (λ (x : List ℕ). line (codes "design") (decimal w.value ∷ []) ++ x)
    (w.is.parts ∙ ap (λ (x : List ℕ). line (codes "project") (w.is.value ∷ []) ++ x) w.is.is.parts))

-- the numbers of a record, as they stand on two lines
abbrev supply_of : Listed → ℕ × ℕ
supply_of l = (l.supply_worst, l.supply_head)

abbrev return_of : Listed → ℕ × ℕ
return_of l = (l.return_worst, l.return_head)

abbrev tail_of : Listed → List ℕ
tail_of l = supply_text (supply_of l) (return_of l) l.sections l.total

spelled_lines : (l : Listed) (bytes : List ℕ) (back : Option ListedFan) → l.back ≡ back → IsTextOf l bytes → bytes ≡ lines_of l.project (first_fan l) back (tail_of l)
spelled_lines l bytes back e is =
    is.spelled
    ∙ regroup (line (codes "design") (form_of l.back ∷ [])) (line (codes "project") (l.project ∷ [])) (fan_line (codes "fan") (first_fan l)) (back_line l.back)
    (numbers_line (codes "supply") (supply_of l)) (numbers_line (codes "return") (return_of l)) (flat_map section_line l.sections) (line (codes "cost") (decimal l.total ∷ [])) (line (codes "end") [])
    ∙ ap (λ (o : Option ListedFan). lines_of l.project (first_fan l) o (tail_of l)) e

tail_is : (l : Listed) (bytes : List ℕ) (back : Option ListedFan) → l.back ≡ back → IsTextOf l bytes → SupplyOf (fields_of l.project (first_fan l) back) l (tail_of l)
tail_is l bytes back e is =
    let r = is.in_range in
    supply_lines (fields_of l.project (first_fan l) back) l (supply_of l) (return_of l) l.sections l.total (r.supply_worst, r.supply_head) (r.return_worst, r.return_head)
    r.sections r.few r.some r.total (ap (λ (o : Option ListedFan). fields_of l.project (first_fan l) o (supply_of l) (return_of l) l.sections l.total) e)

text_from : (l : Listed) (bytes : List ℕ) (back : Option ListedFan) → l.back ≡ back → IsTextOf l bytes → WholeOf l bytes
text_from l bytes None e is = record {
  value = 1;
  fits = (omega arith, omega arith);
  rest = line (codes "project") (l.project ∷ []) ++ (fan_line (codes "fan") (first_fan l) ++ tail_of l);
  parts = spelled_lines l bytes None e is
      ∙ ap (λ (w : List ℕ). line (codes "design") (w ∷ []) ++ (line (codes "project") (l.project ∷ []) ++ (fan_line (codes "fan") (first_fan l) ++ tail_of l))) (sym one_is);
  is = record {
    value = l.project;
    fits = is.in_range.project;
    rest = fan_line (codes "fan") (first_fan l) ++ tail_of l;
    parts = refl;
    is = record { value = first_fan l; fits = is.in_range.fan; rest = tail_of l; parts = refl; is = tail_is l bytes None e is };
  };
}
text_from l bytes (Some fan) e is = record {
  value = 2;
  fits = (omega arith, omega arith);
  rest = line (codes "project") (l.project ∷ []) ++ (fan_line (codes "fan") (first_fan l) ++ (fan_line (codes "return-fan") fan ++ tail_of l));
  parts = spelled_lines l bytes (Some fan) e is
      ∙ ap (λ (w : List ℕ). line (codes "design") (w ∷ []) ++ (line (codes "project") (l.project ∷ []) ++ (fan_line (codes "fan") (first_fan l) ++ (fan_line (codes "return-fan") fan ++ tail_of l)))) (sym two_is);
  is = record {
    value = l.project;
    fits = is.in_range.project;
    rest = fan_line (codes "fan") (first_fan l) ++ (fan_line (codes "return-fan") fan ++ tail_of l);
    parts = refl;
    is = record {
      value = first_fan l;
      fits = is.in_range.fan;
      rest = fan_line (codes "return-fan") fan ++ tail_of l;
      parts = refl;
      is = record { value = fan; fits = subst (λ (o : Option ListedFan). IfSome o IsListedFan) e is.in_range.back; rest = tail_of l; parts = refl; is = tail_is l bytes (Some fan) e is };
    };
  };
}

-- the lines that are read are those of a text
pub texts_same : AreSame WholeOf IsTextOf
texts_same = record { to = text_to; from = λ b bytes is. text_from b bytes b.back refl is }
