-- From the bytes of the files of a design to its answer.
use Rattle.std.proofs.Common.{◌≡◌, ℕ, List, Option, Some, None, Result, Ok, Err, map, refl, sym, ap, ◌∙◌, subst, ◌-◌, length, take, get_or}
use Rattle.std.specs.Prelude.{IfOk, IsErrAnd, MatchResult}
use Rattle.duct_units.specs.declared.fault.NoMemory.{NoMemory}
use Rattle.duct_definitions.specs.declared.listed.RuleCount.{RuleCount}
use Rattle.duct_definitions.specs.declared.listed.Listed.{Listed}
use Rattle.duct_definitions.specs.Network.{Network}
use Rattle.design_check.specs.Verdicts.{verdict}
use Rattle.duct_cli.specs.declared.answers.Answer.{Answer}
use Rattle.duct_cli.specs.declared.status.TheConstants.{REFUSED}
use Rattle.duct_cli.specs.declared.designing.Refusal.{Refusal}
use Rattle.duct_cli.specs.declared.designing.Unread.{Unread}
use Rattle.duct_cli.specs.declared.designing.Unread.TheVariants as unread
use Rattle.duct_cli.specs.Answer.{AnswersCheck, AnswersProject, IsRefusalLine}
use Rattle.duct_cli.specs.BestDesign.{AnswersDesign}
use Rattle.duct_cli.specs.Says.{Says}
use Rattle.duct_cli.specs.Checking.{checking, verdict_line, verdict_status}
use Rattle.command_words.specs.Commands.{DesignFiles, design, check, edit, names_of}
use Rattle.duct_cli.specs.DesignBytes.{bytes_at}
use Rattle.duct_units.specs.Results.{◌>>=◌}
use Rattle.duct_cli.specs.Editing.{AnswersEdit}
use Rattle.duct_cli.specs.Designing.{Rules, Yields, designing, held_by}
use Rattle.command_words.specs.RefusalText.{refusal_line}

-- the bytes of the files, by their places in the order of the words, are what the named files hold
in_order : (contents : List ℕ → List ℕ) (project sizes rates fittings fans : List ℕ) (back : Option (List ℕ)) → (
    let files : DesignFiles = record { project = project; sizes = sizes; friction = rates; fittings = fittings; fans = fans; return_fans = back } in
    bytes_at (map contents (names_of (design files))) ≡ held_by contents files
    )
in_order contents project sizes rates fittings fans None = refl
in_order contents project sizes rates fittings fans (Some name) = refl

pub bytes_in_order : (contents : List ℕ → List ℕ) (files : DesignFiles) → bytes_at (map contents (names_of (design files))) ≡ held_by contents files
bytes_in_order contents files = in_order contents files.project files.sizes files.friction files.fittings files.fans files.return_fans

-- the same of a design text, which is the last file, and of the files before it
module _ (contents : List ℕ → List ℕ) (text : List ℕ) where
  abbrev check_bytes : DesignFiles → List (List ℕ)
  check_bytes files = map contents (names_of (check files text))

  before_in_order : (project sizes rates fittings fans : List ℕ) (back : Option (List ℕ)) → (
      let files : DesignFiles = record { project = project; sizes = sizes; friction = rates; fittings = fittings; fans = fans; return_fans = back } in
      bytes_at (take (length (check_bytes files) - 1) (check_bytes files)) ≡ held_by contents files
      )
  before_in_order project sizes rates fittings fans None = refl
  before_in_order project sizes rates fittings fans (Some name) = refl

  text_in_order : (project sizes rates fittings fans : List ℕ) (back : Option (List ℕ)) (d : List ℕ) → (
      let files : DesignFiles = record { project = project; sizes = sizes; friction = rates; fittings = fittings; fans = fans; return_fans = back } in
      get_or (check_bytes files) (length (check_bytes files) - 1) d ≡ contents text
      )
  text_in_order project sizes rates fittings fans None d = refl
  text_in_order project sizes rates fittings fans (Some name) d = refl

  pub files_before : (files : DesignFiles) → bytes_at (take (length (check_bytes files) - 1) (check_bytes files)) ≡ held_by contents files
  files_before files = before_in_order files.project files.sizes files.friction files.fittings files.fans files.return_fans

  pub text_behind : (files : DesignFiles) (d : List ℕ) → get_or (check_bytes files) (length (check_bytes files) - 1) d ≡ contents text
  text_behind files d = text_in_order files.project files.sizes files.friction files.fittings files.fans files.return_fans d

-- what is refused first stays refused, whatever follows
pub refused_first : {A B : Type 0} (unread : Unread) (said : Result A Refusal) (next : A → Result B Refusal)
    → Yields {A = A} (Err unread) said → Yields {A = B} (Err unread) (said >>= next)
refused_first (unread.Refused refusal) said next is = rw is refl
refused_first unread.NoMemory said next is = tt

-- what is handed on is the same refusal
pub handed_on : {A : Type 0} (result : Result A Unread) (unread : Unread) (said : Result A Refusal) → IsErrAnd result (λ error. error ≡ unread)
    → Yields {A = A} (Err unread) said → Yields result said
handed_on (Ok value) unread said is yields = absurd is
handed_on (Err error) unread said is yields = subst (λ e. Yields (Err e) said) (sym is) yields

-- what follows from the value
pub follows : {A B : Type 0} (value : A) (said : Result A Refusal) (next : A → Result B Refusal) (found : Result B Unread)
    → Yields {A = A} (Ok value) said → Yields found (next value) → Yields found (said >>= next)
follows value said next found is then = rw is then

module _ (rules : Rules) (bytes : DesignFiles) where
  abbrev Answered : Result (Network × List RuleCount) Refusal → Answer → Type 0
  Answered said a =
      MatchResult said (λ found. AnswersDesign found.0 found.1 a.status a.text)
      (λ refusal. Says REFUSED (refusal_line refusal.file refusal.fault) a.status a.text)

  abbrev Checked : Result (Network × Listed) Refusal → Answer → Type 0
  Checked said a =
      MatchResult said (λ found. Says (verdict_status (verdict found.0 found.1)) (verdict_line found.0 (verdict found.0 found.1)) a.status a.text)
      (λ refusal. Says REFUSED (refusal_line refusal.file refusal.fault) a.status a.text)

  -- the design of the network is the answer
  pub design_answers : (found : Network × List RuleCount) (answer : Result Answer NoMemory) → Yields (Ok found) (designing rules bytes)
      → IfOk answer (λ a. AnswersDesign found.0 found.1 a.status a.text) → IfOk answer (λ a. AnswersProject rules bytes a.status a.text)
  design_answers found (Ok a) is best = subst (λ said. Answered said a) (sym is) best
  design_answers found (Err error) is best = tt

  -- the line of a verdict is the answer
  pub verdict_answers : (text : List ℕ) (found : Network × Listed) (answer : Result Answer NoMemory) → Yields (Ok found) (checking rules bytes text)
      → IfOk answer (λ a. (a.status ≡ verdict_status (verdict found.0 found.1)) × (a.text ≡ verdict_line found.0 (verdict found.0 found.1)))
      → IfOk answer (λ a. AnswersCheck rules bytes text a.status a.text)
  verdict_answers text found (Ok a) is says = subst (λ said. Checked said a) (sym is) says
  verdict_answers text found (Err error) is says = tt

  check_line : (text : List ℕ) (unread : Unread) (a : Answer) → Yields {A = Network × Listed} (Err unread) (checking rules bytes text)
      → IsRefusalLine unread a.status a.text → AnswersCheck rules bytes text a.status a.text
  check_line text (unread.Refused refusal) a is line = subst (λ said. Checked said a) (sym is) line
  check_line text unread.NoMemory a is line = absurd line

  -- the line of the file that is refused first is the answer
  pub check_refused : (text : List ℕ) (unread : Unread) (answer : Result Answer NoMemory) → Yields {A = Network × Listed} (Err unread) (checking rules bytes text)
      → IfOk answer (λ a. IsRefusalLine unread a.status a.text) → IfOk answer (λ a. AnswersCheck rules bytes text a.status a.text)
  check_refused text unread (Ok a) is line = check_line text unread a is line
  check_refused text unread (Err error) is line = tt

  line_answers : (unread : Unread) (a : Answer) → Yields {A = Network × List RuleCount} (Err unread) (designing rules bytes)
      → IsRefusalLine unread a.status a.text → AnswersProject rules bytes a.status a.text
  line_answers (unread.Refused refusal) a is line = subst (λ said. Answered said a) (sym is) line
  line_answers unread.NoMemory a is line = absurd line

  -- the line of the file that is refused first is the answer
  pub refusal_answers : (unread : Unread) (answer : Result Answer NoMemory) → Yields {A = Network × List RuleCount} (Err unread) (designing rules bytes)
      → IfOk answer (λ a. IsRefusalLine unread a.status a.text) → IfOk answer (λ a. AnswersProject rules bytes a.status a.text)
  refusal_answers unread (Ok a) is line = line_answers unread a is line
  refusal_answers unread (Err error) is line = tt

-- a script is named where a design text is
script_like_text : (text project sizes rates fittings fans : List ℕ) (back : Option (List ℕ)) → (
    let files : DesignFiles = record { project = project; sizes = sizes; friction = rates; fittings = fittings; fans = fans; return_fans = back } in
    names_of (edit files text) ≡ names_of (check files text)
    )
script_like_text text project sizes rates fittings fans None = refl
script_like_text text project sizes rates fittings fans (Some name) = refl

-- what holds of files and a text that lie one behind the other holds of what the named files hold
by_name : (Holds : DesignFiles → List ℕ → Type 0) (files : DesignFiles) (text : List ℕ) (bytes : List (List ℕ)) (last : List ℕ)
    → last ≡ get_or bytes (length bytes - 1) last → Holds (bytes_at (take (length bytes - 1) bytes)) last
    → (contents : List ℕ → List ℕ) → bytes ≡ map contents (names_of (check files text)) → Holds (held_by contents files) (contents text)
by_name Holds files text bytes last back holds contents are =
    let front_is : bytes_at (take (length bytes - 1) bytes) ≡ held_by contents files =
    ap (λ (bs : List (List ℕ)). bytes_at (take (length bs - 1) bs)) are ∙ files_before contents text files in
    let text_is : last ≡ contents text =
    back ∙ ap (λ (bs : List (List ℕ)). get_or bs (length bs - 1) last) are ∙ text_behind contents text files last in
    subst (λ held. Holds held (contents text)) front_is (subst (λ held. Holds (bytes_at (take (length bytes - 1) bytes)) held) text_is holds)

pub check_answers : (rules : Rules) (files : DesignFiles) (text : List ℕ) (bytes : List (List ℕ)) (last : List ℕ) (answer : Result Answer NoMemory)
    → last ≡ get_or bytes (length bytes - 1) last
    → IfOk answer (λ a. AnswersCheck rules (bytes_at (take (length bytes - 1) bytes)) last a.status a.text)
    → IfOk answer (λ a. (contents : List ℕ → List ℕ) → bytes ≡ map contents (names_of (check files text))
    → AnswersCheck rules (held_by contents files) (contents text) a.status a.text)
check_answers rules files text bytes last (Ok a) back says = by_name (λ held t. AnswersCheck rules held t a.status a.text) files text bytes last back says
check_answers rules files text bytes last (Err error) back says = tt

pub edit_answers : (rules : Rules) (files : DesignFiles) (script : List ℕ) (bytes : List (List ℕ)) (last : List ℕ) (answer : Result Answer NoMemory)
    → last ≡ get_or bytes (length bytes - 1) last
    → IfOk answer (λ a. AnswersEdit rules (bytes_at (take (length bytes - 1) bytes)) last a.status a.text)
    → IfOk answer (λ a. (contents : List ℕ → List ℕ) → bytes ≡ map contents (names_of (edit files script))
    → AnswersEdit rules (held_by contents files) (contents script) a.status a.text)
edit_answers rules files script bytes last (Ok a) back says = λ contents are.
    by_name (λ held t. AnswersEdit rules held t a.status a.text) files script bytes last back says contents
    (are ∙ ap (map contents) (script_like_text script files.project files.sizes files.friction files.fittings files.fans files.return_fans))
edit_answers rules files script bytes last (Err error) back says = tt
