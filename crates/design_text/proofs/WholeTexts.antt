-- The lines of a whole design text, read exactly, and that they are its text.
use Rattle.std.proofs.Common.{◌≡◌, ℕ, zero, suc, ◌≤◌, List, [], ◌∷◌, ◌++◌, Option, Some, None, Result, decimal, refl, arith, append_assoc}
use Rattle.std.specs.Prelude.{codes, IsTrue}
use Rattle.duct_units.specs.Lines.{line}
use Rattle.duct_units.specs.Name.{is_name}
use Rattle.duct_units.specs.declared.fault.Fault.{Fault}
use Rattle.duct_definitions.specs.declared.listed.Listed.{Listed}
use Rattle.duct_definitions.specs.declared.listed.ListedFan.{ListedFan}
use Rattle.duct_definitions.specs.declared.listed.ListedSection.{ListedSection}
use Rattle.duct_definitions.specs.DesignText.{fan_line}
use Rattle.design_text.specs.Texts.{IsListedFan}
use Rattle.design_text.specs.Fields.{name_at, form_at, fan_at}
use Rattle.duct_units.specs.Results.{◌>>=◌}
use Rattle.design_text.specs.Reading.{at_line, with_back, back_at, reading}
use Rattle.line_words.proofs.LineLaws.{word_is}
use Rattle.design_text.proofs.LineLaws.{name_reader, form_reader, fan_reader}
use Rattle.design_text.proofs.BadLines.{After}
use Rattle.design_text.proofs.Readers.{IsReader, reader_same, line_then, then_read}
use Rattle.design_text.proofs.TextReading.{SupplyOf, supply_at, supply_read}

-- ---- the return fan

-- the lines from the return fan's on, where there is one
abbrev pub BackOf : ℕ → (Option ListedFan → ℕ × ℕ → ℕ × ℕ → List ListedSection → ℕ → Listed) → Listed → List ℕ → Type 0
BackOf zero made b bytes = SupplyOf (made None) b bytes
BackOf (suc zero) made b bytes = SupplyOf (made None) b bytes
BackOf (suc (suc n)) made b bytes = After IsListedFan (fan_line (codes "return-fan")) (λ fan. SupplyOf (made (Some fan))) b bytes

abbrev pub back_then : ℕ → (Option ListedFan → ℕ × ℕ → ℕ × ℕ → List ListedSection → ℕ → Listed) → List ℕ → Result Listed Fault
back_then form made bytes = at_line 4 (back_at form bytes) >>= λ back. supply_at form (made back.0) back.1

sample_fan : ListedFan
sample_fan = record { name = codes "f"; pressure = 0; cost = 0 }

sample_fan_fits : IsListedFan sample_fan
unfolding sample_fan
sample_fan_fits = record { name = refl; pressure = omega arith; cost = omega arith }

back_alike : (o : Option (ListedFan × List ℕ)) (f : Option ListedFan × List ℕ → Result Listed Fault)
    → (at_line 4 (with_back o) >>= f) ≡ (at_line 4 o >>= λ fan. f (Some fan.0, fan.1))
back_alike None f = refl
back_alike (Some x) f = refl

back_read : (form : ℕ) (made : Option ListedFan → ℕ × ℕ → ℕ × ℕ → List ListedSection → ℕ → Listed) → 1 ≤ form → form ≤ 2 → IsReader (BackOf form made) 4 (back_then form made)
back_read zero made low high = absurd (omega (arith, low))
back_read (suc zero) made low high = supply_read 1 (made None)
back_read (suc (suc zero)) made low high =
    reader_same (BackOf 2 made) (BackOf 2 made) 4 4 (line_then 4 (fan_at (codes "return-fan")) (λ fan. supply_at 2 (made (Some fan.0)) fan.1)) (back_then 2 made) (record { to = λ b bytes is. is; from = λ b bytes is. is }) refl
    (λ bytes. back_alike (fan_at (codes "return-fan") bytes) (λ back. supply_at 2 (made back.0) back.1))
    (then_read IsListedFan (fan_line (codes "return-fan")) (fan_at (codes "return-fan")) (λ fan. SupplyOf (made (Some fan))) 4 (λ fan. supply_at 2 (made (Some fan.0)) fan.1)
    sample_fan sample_fan_fits (fan_reader (codes "return-fan") (word_is (codes "return-fan") refl)) (λ fan fits. supply_read 2 (made (Some fan))))
back_read (suc (suc (suc n))) made low high = absurd (omega (arith, high))

-- ---- the lines before it

-- the fields of a text
abbrev pub fields_of : List ℕ → ListedFan → Option ListedFan → ℕ × ℕ → ℕ × ℕ → List ListedSection → ℕ → Listed
fields_of project fan back supply return sections total = record {
  project = project;
  fan = fan.name;
  pressure = fan.pressure;
  fan_cost = fan.cost;
  back = back;
  supply_worst = supply.0;
  supply_head = supply.1;
  return_worst = return.0;
  return_head = return.1;
  sections = sections;
  total = total;
}

abbrev pub FanOf : ℕ → List ℕ → Listed → List ℕ → Type 0
FanOf form project = After IsListedFan (fan_line (codes "fan")) (λ fan. BackOf form (fields_of project fan))

abbrev pub ProjectOf : ℕ → Listed → List ℕ → Type 0
ProjectOf form = After (λ name. IsTrue (is_name name)) (λ name. line (codes "project") (name ∷ [])) (FanOf form)

abbrev pub IsForm : ℕ → Type 0
IsForm n = (1 ≤ n) × (n ≤ 2)

abbrev pub WholeOf : Listed → List ℕ → Type 0
WholeOf = After IsForm (λ n. line (codes "design") (decimal n ∷ [])) ProjectOf

abbrev pub fan_then : ℕ → List ℕ → List ℕ → Result Listed Fault
fan_then form project = line_then 3 (fan_at (codes "fan")) (λ fan. back_then form (fields_of project fan.0) fan.1)

abbrev pub project_then : ℕ → List ℕ → Result Listed Fault
project_then form = line_then 2 (name_at (codes "project")) (λ project. fan_then form project.0 project.1)

fan_read : (form : ℕ) (project : List ℕ) → IsForm form → IsReader (FanOf form project) 3 (fan_then form project)
fan_read form project is =
    then_read IsListedFan (fan_line (codes "fan")) (fan_at (codes "fan")) (λ fan. BackOf form (fields_of project fan)) 3 (λ fan. back_then form (fields_of project fan.0) fan.1)
    sample_fan sample_fan_fits (fan_reader (codes "fan") (word_is (codes "fan") refl)) (λ fan fits. back_read form (fields_of project fan) is.0 is.1)

project_read : (form : ℕ) → IsForm form → IsReader (ProjectOf form) 2 (project_then form)
project_read form is =
    then_read (λ name. IsTrue (is_name name)) (λ name. line (codes "project") (name ∷ [])) (name_at (codes "project")) (FanOf form) 2 (λ project. fan_then form project.0 project.1)
    (codes "p") refl (name_reader (codes "project") (word_is (codes "project") refl)) (λ project fits. fan_read form project is)

pub whole_read : IsReader WholeOf 1 (line_then 1 form_at (λ form. project_then form.0 form.1))
whole_read = then_read IsForm (λ n. line (codes "design") (decimal n ∷ [])) form_at ProjectOf 1 (λ form. project_then form.0 form.1)
    1 (omega arith, omega arith) form_reader (λ form is. project_read form is)

pub reading_is : (bytes : List ℕ) → reading bytes ≡ line_then 1 form_at (λ form. project_then form.0 form.1) bytes
unfolding reading
reading_is bytes = refl

-- ---- its text

pub regroup : (h p f b s r ss c e : List ℕ) → h ++ p ++ f ++ b ++ s ++ r ++ ss ++ c ++ e ≡ h ++ (p ++ (f ++ (b ++ (s ++ (r ++ (ss ++ (c ++ e)))))))
regroup h p f b s r ss c e = simp append_assoc refl
