-- What `edit` answers: the design of a project, and the one after each edit of a script.
--   line_edit now l              the edit that a line asks for, or none where no section of the project has the name
--   after_line now l             the project and its catalogues after the line
--   first_refused now lines      the fault of the first line that is refused on the project as it then is
--   IsStepText rules now k t     t is the text of the project as it is now
--   AreStepTexts rules now k lines t   that text, and those after each line, one after the other
--   AnswersEdit rules bytes script     for the bytes of a project, its catalogues and a script
use Rattle.std.specs.Prelude.{◌≡◌, ℕ, ◌+◌, ◌⊎◌, List, [], ◌∷◌, ◌++◌, length, codes, Option, Some, None, option_map, Result, Ok, Err, MatchOption, MatchResult}
use Rattle.std.specs.Fmt.{decimal}
use Rattle.duct_units.specs.Lines.{line}
use Rattle.duct_units.specs.Rules.{first_broken, line_fault}
use Rattle.duct_units.specs.declared.fault.Fault.{Fault}
use Rattle.duct_units.specs.declared.fault.Reason.{Reason}
use Rattle.duct_units.specs.declared.fault.Reason.TheVariants.{UnknownSection}
use Rattle.duct_units.specs.declared.fault.ReadError.{ReadError}
use Rattle.duct_units.specs.declared.fault.ReadError.TheVariants.{Refused, NoMemory}
use Rattle.duct_definitions.specs.Network.{Network}
use Rattle.duct_definitions.specs.Tree.{section_count}
use Rattle.duct_definitions.specs.declared.listed.RuleCount.{RuleCount}
use Rattle.name_index.specs.Places.{place_of}
use Rattle.net_build.specs.Built.{network_of}
use Rattle.net_build.specs.Catalogues.{Catalogues}
use Rattle.net_build.specs.Joining.{joining_rules}
use Rattle.net_build.specs.Refusals.{refusals}
use Rattle.edit_script.specs.Scripts.{IsReading}
use Rattle.edit_script.specs.declared.script.ScriptLine.{ScriptLine}
use Rattle.project_edit.specs.Refusals.{edit_refusal}
use Rattle.project_edit.specs.Touched.{touched}
use Rattle.project_edit.specs.declared.edit.Edit.{Edit}
use Rattle.edit_session.specs.Current.{Basis, after}
use Rattle.command_words.specs.Commands.{DesignFiles}
use Rattle.command_words.specs.RefusalText.{refusal_line}
use Rattle.command_words.specs.declared.commands.FileKind.TheVariants.{Project as project_file, Script as script_file}
use Rattle.duct_cli.specs.declared.status.TheConstants.{FOUND, REFUSED}
use Rattle.duct_cli.specs.declared.designing.DesignData.{DesignData}
use Rattle.duct_cli.specs.BestDesign.{AnswersDesign}
use Rattle.duct_cli.specs.Designing.{Rules, data_of}
use Rattle.duct_cli.specs.Says.{Says}
use Rattle.duct_cli.specs.TakingOff.{names_of}

-- the catalogues that were read
abbrev pub catalogues_of : DesignData → Catalogues
catalogues_of said = record { sizes = said.sizes; friction = said.friction; fittings = said.fittings }

-- the project and its catalogues before the first edit
abbrev pub before_edits : DesignData → Basis
before_edits said = record { project = said.project; catalogues = catalogues_of said; fans = said.fans; edits = 0 }

-- ---- one line

-- the edit that the line asks for; none where no section of the project has the name
abbrev pub line_edit : Basis → ScriptLine → Option Edit
line_edit now l = option_map (λ s. record { section = s; change = l.change }) (place_of l.section (names_of now.project))

-- the reason for which the edit is refused, or none
abbrev pub refusal_of : Basis → Option Edit → Option Reason
refusal_of now None = Some UnknownSection
refusal_of now (Some e) = edit_refusal now.project now.catalogues.sizes e

-- the project and its catalogues after the edit
abbrev pub after_edit : Basis → Option Edit → Basis
after_edit now None = now
after_edit now (Some e) = after e now

-- the same after the line
abbrev pub after_line : Basis → ScriptLine → Basis
after_line now l = after_edit now (line_edit now l)

-- how many sections the edit touches
abbrev pub touches : Basis → Option Edit → ℕ
touches now None = 0
touches now (Some e) = length (touched now.project now.fans e)

-- ---- all lines

-- what follows where nothing is refused, or the fault of line n
abbrev pub unless_refused_at : ℕ → Option Reason → Option Fault → Option Fault
unless_refused_at n None later = later
unless_refused_at n (Some reason) later = Some (line_fault n reason)

-- the fault of the first line that is refused on the project as it then is
abbrev pub first_refused : Basis → List ScriptLine → Option Fault
first_refused now [] = None
first_refused now (l ∷ lines) =
    unless_refused_at (now.edits + 1) (refusal_of now (line_edit now l)) (first_refused (after_line now l) lines)

-- the project's network under these rules
abbrev pub network_now : Rules → Basis → Network
network_now rules now = network_of now.project now.catalogues now.fans rules.meanings

-- how many pairs of it each rule refuses first
abbrev pub refusals_now : Rules → Basis → List RuleCount
refusals_now rules now = refusals now.project now.catalogues rules.meanings rules.names

-- how many edits were applied, the text of the best design or of none, and that k sections were condensed for it
abbrev pub IsStepText : Rules → Basis → ℕ → List ℕ → Type 0
IsStepText rules now k text =
    (status : ℕ) × (answer : List ℕ) × AnswersDesign (network_now rules now) (refusals_now rules now) status answer
    × (text ≡ line (codes "edit") (decimal now.edits ∷ []) ++ answer ++ line (codes "again") (decimal k ∷ []))

-- that text, and those after each of these lines, one after the other
abbrev pub AreStepTexts : Rules → Basis → ℕ → List ScriptLine → List ℕ → Type 0
AreStepTexts rules now k [] text = IsStepText rules now k text
AreStepTexts rules now k (l ∷ lines) text =
    (first : List ℕ) × (later : List ℕ) × IsStepText rules now k first
    × AreStepTexts rules (after_line now l) (touches now (line_edit now l)) lines later × (text ≡ first ++ later)

-- the texts before the first edit and after each; or the line that is refused, and nothing else
abbrev pub AnswersLines : Rules → Basis → List ScriptLine → ℕ → List ℕ → Type 0
AnswersLines rules now lines status answer =
    MatchOption (first_refused now lines)
    ((status ≡ FOUND) × AreStepTexts rules now (section_count now.project.tree) lines answer)
    (λ fault. Says REFUSED (refusal_line script_file fault) status answer)

-- the same, where every name of the project joins something
abbrev pub AnswersScript : Rules → Basis → List ScriptLine → ℕ → List ℕ → Type 0
AnswersScript rules now lines status answer =
    MatchOption (first_broken (joining_rules now.project now.catalogues))
    (AnswersLines rules now lines status answer)
    (λ fault. Says REFUSED (refusal_line project_file fault) status answer)

-- the answer for what the files say, and for the bytes of a script
abbrev pub AnswersEdits : Rules → Basis → List ℕ → ℕ → List ℕ → Type 0
AnswersEdits rules now script status answer =
    ((lines : List ScriptLine) × IsReading script (Ok lines) × AnswersScript rules now lines status answer)
    ⊎ ((fault : Fault) × IsReading script (Err fault) × Says REFUSED (refusal_line script_file fault) status answer)

-- the answer for the bytes of a project, its catalogues and a script
abbrev pub AnswersEdit : Rules → DesignFiles → List ℕ → ℕ → List ℕ → Type 0
AnswersEdit rules bytes script status answer =
    MatchResult (data_of bytes)
    (λ said. AnswersEdits rules (before_edits said) script status answer)
    (λ refusal. Says REFUSED (refusal_line refusal.file refusal.fault) status answer)

-- ---- what a call adds

-- a line was applied, and so many sections were touched; or it was refused as the next line
abbrev pub Applies : Basis → ScriptLine → Option Basis → Result ℕ ReadError → Type 0
Applies now l new (Ok k) =
    (refusal_of now (line_edit now l) ≡ None) × (k ≡ touches now (line_edit now l)) × (new ≡ Some (after_line now l))
Applies now l new (Err (Refused fault)) =
    (reason : Reason) × (refusal_of now (line_edit now l) ≡ Some reason) × (fault ≡ line_fault (now.edits + 1) reason)
Applies now l new (Err NoMemory) = Unit {0}

-- the text of the project as it is now was added
abbrev pub AddsStep : Rules → Basis → ℕ → List ℕ → List ℕ → Type 0
AddsStep rules now k old new = (more : List ℕ) × IsStepText rules now k more × (new ≡ old ++ more)

-- the texts of the project as it is now and after each line were added; or the first line that is refused is told
abbrev pub AddsSteps : {Y : Type 0} → Rules → Basis → ℕ → List ScriptLine → List ℕ → List ℕ → Result Y ReadError → Type 0
AddsSteps rules now k lines old new (Ok done) =
    (first_refused now lines ≡ None) × ((more : List ℕ) × AreStepTexts rules now k lines more × (new ≡ old ++ more))
AddsSteps rules now k lines old new (Err (Refused fault)) = first_refused now lines ≡ Some fault
AddsSteps rules now k lines old new (Err NoMemory) = Unit {0}
