-- What `takeoff` answers: the material list of a design of a project.
--   AnswersTakeoff project design   for the bytes of a project file and of a design text
use Rattle.std.specs.Prelude.{◌≡◌, ℕ, ◌+◌, ◌⊎◌, List, map, MatchResult}
use Rattle.duct_units.specs.Rules.{section_fault}
use Rattle.duct_units.specs.declared.fault.Reason.TheVariants.{UnknownSection}
use Rattle.duct_definitions.specs.declared.listed.Listed.{Listed}
use Rattle.project_file.specs.declared.project.Project.{Project}
use Rattle.project_file.specs.ProjectFile.{project_of}
use Rattle.design_text.specs.Reading.{reading}
use Rattle.material_takeoff.specs.Agreement.{section_names, IsFirstDifference}
use Rattle.material_takeoff.specs.TakeOffText.{takeoff_text, no_cost_text}
use Rattle.material_takeoff.specs.Uses.{take_off, fans_cost, sections_price}
use Rattle.command_words.specs.RefusalText.{refusal_line}
use Rattle.command_words.specs.declared.commands.FileKind.TheVariants.{Project as project_file, Design as text_file}
use Rattle.duct_cli.specs.declared.status.TheConstants.{FOUND, REFUSED, NONE_FOUND}
use Rattle.duct_cli.specs.Says.{Says}

-- the names of a project's sections, in file order
abbrev pub names_of : Project → List (List ℕ)
names_of p = map (λ row. row.name) p.sections

-- their lengths, mm
abbrev pub lengths_of : Project → List ℕ
lengths_of p = map (λ row. row.length) p.sections

-- the listed total is the sum of the listed prices and of the fans' costs
abbrev pub IsSum : Listed → Type 0
IsSum l = l.total ≡ sections_price l + fans_cost l

-- the first listed section that is not the project's; else the material list, or that the listed total is not the sum
abbrev pub AnswersMaterial : Project → Listed → ℕ → List ℕ → Type 0
AnswersMaterial p l status answer =
    ((n : ℕ) × IsFirstDifference (names_of p) (section_names l) n
    × Says REFUSED (refusal_line text_file (section_fault n UnknownSection)) status answer)
    ⊎ ((names_of p ≡ section_names l) × IsSum l × Says FOUND (takeoff_text (take_off (lengths_of p) l) l) status answer)
    ⊎ ((names_of p ≡ section_names l) × (IsSum l → ⊥) × Says NONE_FOUND no_cost_text status answer)

-- the answer for the bytes of a text of a design of the project
abbrev pub AnswersText : Project → List ℕ → ℕ → List ℕ → Type 0
AnswersText p text status answer =
    MatchResult (reading text)
    (λ l. AnswersMaterial p l status answer)
    (λ fault. Says REFUSED (refusal_line text_file fault) status answer)

-- the answer for the bytes of a project file and of a design text
abbrev pub AnswersTakeoff : List ℕ → List ℕ → ℕ → List ℕ → Type 0
AnswersTakeoff project design status answer =
    MatchResult (project_of project)
    (λ p. AnswersText p design status answer)
    (λ fault. Says REFUSED (refusal_line project_file fault) status answer)
