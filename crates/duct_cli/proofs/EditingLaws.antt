-- What the steps of `edit` add up to.
use Rattle.std.proofs.Common.{◌≡◌, ℕ, zero, suc, ◌+◌, ◌<◌, ◌≤◌, List, [], ◌∷◌, ◌++◌, length, map, take, drop, Bool, true, false, Option, Some, None, Ok, Err, refl, ap, sym, ◌∙◌, subst, arith}
use Rattle.std.specs.Prelude.{codes, Result, option_map, slice_get, if◌then◌else◌, IfOk, IfSome, IsErrAnd, MatchOption, OnOk}
use Rattle.std.specs.Fmt.{decimal}
use Rattle.std.specs.Str.{bytes_eq}
use Rattle.std.proofs.lemmas.List.{append_assoc, drop_all, length-map}
use Rattle.duct_units.specs.Lines.{line}
use Rattle.duct_units.specs.Rules.{first_broken, line_fault, unless_refused}
use Rattle.duct_units.specs.declared.fault.NoMemory.{NoMemory as NoMemoryError}
use Rattle.duct_units.specs.declared.fault.Fault.{Fault}
use Rattle.duct_units.specs.declared.fault.Reason.{Reason}
use Rattle.duct_units.specs.declared.fault.ReadError.{ReadError}
use Rattle.duct_units.specs.declared.fault.ReadError.TheVariants.{Refused, NoMemory}
use Rattle.duct_definitions.specs.declared.listed.RuleCount.{RuleCount}
use Rattle.duct_definitions.specs.Network.{Network}
use Rattle.duct_definitions.specs.Tree.{section_count}
use Rattle.file_definitions.proofs.ElementLaws.{drop_at}
use Rattle.name_index.specs.Places.{place_of}
use Rattle.name_index.proofs.PlaceLaws.{place_of-within}
use Rattle.project_file.specs.declared.section_row.SectionRow.{SectionRow}
use Rattle.design_rules.specs.Meanings.{Meaning, SameRules}
use Rattle.edit_script.specs.declared.script.Change.{Change}
use Rattle.edit_script.specs.declared.script.ScriptLine.{ScriptLine}
use Rattle.net_build.specs.Joining.{joining_rules}
use Rattle.net_build.specs.Rows.{row_at}
use Rattle.project_edit.proofs.Rows.{all-kept, row-kept}
use Rattle.edit_session.specs.declared.limits.TheConstants.{MAX_EDITS}
use Rattle.edit_session.specs.declared.state.State.{State}
use Rattle.edit_session.specs.Current.{Basis, IsCurrent, after, basis, basis_of}
use Rattle.command_words.specs.RefusalText.{refusal_line}
use Rattle.command_words.specs.declared.commands.FileKind.TheVariants.{Project as project_file, Script as script_file}
use Rattle.duct_cli.specs.declared.answers.Answer.{Answer}
use Rattle.duct_cli.specs.declared.status.TheConstants.{FOUND, REFUSED}
use Rattle.duct_cli.specs.BestDesign.{AnswersDesign}
use Rattle.duct_cli.specs.Designing.{Rules, rules_of}
use Rattle.duct_cli.specs.Says.{Says}
use Rattle.duct_cli.specs.TakingOff.{names_of}
use Rattle.duct_cli.specs.Editing.{AddsStep, AddsSteps, AnswersLines, AnswersScript, Applies, AreStepTexts, after_edit, after_line, first_refused, line_edit, network_now, refusal_of, refusals_now, touches, unless_refused_at}

-- ---- the place of a name

not_first : (is : Bool) (o : Option ℕ) → (if is then Some 0 else option_map (λ place. place + 1) o) ≡ None → (is ≡ false) × (o ≡ None)
not_first true o e = absurd (cc e)
not_first false None e = (refl, refl)
not_first false (Some n) e = absurd (cc e)

-- no name before place i is this one, and the one there is
pub place-at : (name : List ℕ) (names : List (List ℕ)) (i : ℕ) (x : List ℕ) → place_of name (take i names) ≡ None → slice_get names i ≡ Some x → bytes_eq x name ≡ true → place_of name names ≡ Some i
place-at name [] i x none at same = absurd (cc at)
place-at name (first ∷ names) zero x none at same =
    (let is : first ≡ x = cc at in
    ap (λ b. if b then Some 0 else option_map (λ place. place + 1) (place_of name names)) (ap (λ f. bytes_eq f name) is ∙ same))
place-at name (first ∷ names) (suc i) x none at same =
    (let parts = not_first (bytes_eq first name) (place_of name (take i names)) none in
    ap (λ b. if b then Some 0 else option_map (λ place. place + 1) (place_of name names)) parts.0
    ∙ ap (option_map (λ place. place + 1)) (place-at name names i x parts.1 at same) ∙ ap (λ n. Some n) (omega arith))

-- nor is it the one there
pub place-past : (name : List ℕ) (names : List (List ℕ)) (i : ℕ) (x : List ℕ) → place_of name (take i names) ≡ None → slice_get names i ≡ Some x → bytes_eq x name ≡ false → place_of name (take (suc i) names) ≡ None
place-past name [] i x none at other = refl
place-past name (first ∷ names) zero x none at other =
    (let is : first ≡ x = cc at in
    ap (λ b. if b then Some 0 else option_map (λ place. place + 1) (place_of name [])) (ap (λ f. bytes_eq f name) is ∙ other))
place-past name (first ∷ names) (suc i) x none at other =
    (let parts = not_first (bytes_eq first name) (place_of name (take i names)) none in
    ap (λ b. if b then Some 0 else option_map (λ place. place + 1) (place_of name (take (suc i) names))) parts.0
    ∙ ap (option_map (λ place. place + 1)) (place-past name names i x parts.1 at other))

-- ---- the rules

pub rules-same : {B : Type 0} (allows : B → Meaning) (label : B → List ℕ) (old new : List B) → SameRules allows label old new → rules_of allows label new ≡ rules_of allows label old
rules-same allows label old new same =
    ap (λ (meanings : List Meaning). record { meanings = meanings; names = map label new }) same.meanings
    ∙ ap (λ (names : List (List ℕ)). record { meanings = map allows old; names = names }) same.names

-- ---- the steps

pub on-ok : {T E : Type 0} (result : Result T E) (P Q : Type 0) → OnOk result P → (P → Q) → OnOk result Q
on-ok (Ok value) P Q holds next = next holds
on-ok (Err error) P Q holds next = tt

-- the line of the edits, the text of the design and the line of the sections were added, one after the other
pub step-added : (rules : Rules) (state : Option Basis) (k edits shown : ℕ) (net : Network) (refusals listed : List RuleCount) (status : ℕ) (answer old one two new : List ℕ)
    → IfSome state (λ now. net ≡ network_now rules now) → IfSome state (λ now. refusals ≡ refusals_now rules now) → listed ≡ refusals → IfSome state (λ now. edits ≡ now.edits) → shown ≡ edits
    → AnswersDesign net listed status answer → one ≡ old ++ line (codes "edit") (decimal shown ∷ []) → two ≡ one ++ answer → new ≡ two ++ line (codes "again") (decimal k ∷ [])
    → IfSome state (λ now. AddsStep rules now k old new)
step-added rules None k edits shown net refusals listed status answer old one two new is_net are_refusals are_listed are_edits are_shown design first middle last = tt
step-added rules (Some now) k edits shown net refusals listed status answer old one two new is_net are_refusals are_listed are_edits are_shown design first middle last =
    let head = line (codes "edit") (decimal now.edits ∷ []) in
    let foot = line (codes "again") (decimal k ∷ []) in
    let said : AnswersDesign (network_now rules now) (refusals_now rules now) status answer =
    subst (λ (counts : List RuleCount). AnswersDesign (network_now rules now) counts status answer) (are_listed ∙ are_refusals)
    (subst (λ (n : Network). AnswersDesign n listed status answer) is_net design) in
    let joined : new ≡ old ++ head ++ answer ++ foot =
    last ∙ ap (λ t. t ++ foot) (middle ∙ ap (λ t. t ++ answer) (first ∙ ap (λ n. old ++ line (codes "edit") (decimal n ∷ [])) (are_shown ∙ are_edits))) in
    (head ++ answer ++ foot, (status, answer, said, refl), joined ∙ ap (λ t. t ++ foot) (append_assoc old head answer) ∙ append_assoc old (head ++ answer) foot)

-- no line is left
pub steps-end : {Y : Type 0} (rules : Rules) (now : Basis) (k : ℕ) (old new : List ℕ) (done : Y) → AddsStep rules now k old new → AddsSteps rules now k [] old new (Ok done)
steps-end rules now k old new done added = (refl, (added.0, added.1, added.2))

-- the next line is refused
pub steps-refused : (now : Basis) (l : ScriptLine) (later : List ScriptLine) (fault : Fault)
    → ((reason : Reason) × (refusal_of now (line_edit now l) ≡ Some reason) × (fault ≡ line_fault (now.edits + 1) reason)) → first_refused now (l ∷ later) ≡ Some fault
steps-refused now l later fault said =
    ap (λ o. unless_refused_at (now.edits + 1) o (first_refused (after_line now l) later)) said.1 ∙ ap (λ f. Some f) (sym said.2)

-- the next line is applied, and then those after it
pub steps-more : {Y : Type 0} (rules : Rules) (now : Basis) (k : ℕ) (l : ScriptLine) (later : List ScriptLine) (old mid new : List ℕ) (result : Result Y ReadError) → AddsStep rules now k old mid
    → refusal_of now (line_edit now l) ≡ None → AddsSteps rules (after_line now l) (touches now (line_edit now l)) later mid new result → AddsSteps rules now k (l ∷ later) old new result
steps-more rules now k l later old mid new (Ok done) step taken more = (
  ap (λ o. unless_refused_at (now.edits + 1) o (first_refused (after_line now l) later)) taken ∙ more.0,
  (step.0 ++ more.1.0, (step.0, more.1.0, step.1, more.1.1, refl), more.1.2 ∙ ap (λ t. t ++ more.1.0) step.2 ∙ append_assoc old step.0 more.1.0),
)
steps-more rules now k l later old mid new (Err (Refused fault)) step taken more =
    ap (λ o. unless_refused_at (now.edits + 1) o (first_refused (after_line now l) later)) taken ∙ more
steps-more rules now k l later old mid new (Err NoMemory) step taken more = tt

-- ---- what an edit leaves

names-edit : (now : Basis) (place : Option ℕ) (change : Change) → IfSome place (λ s. s < length (names_of now.project))
    → names_of (after_edit now (option_map (λ s. record { section = s; change = change }) place)).project ≡ names_of now.project
names-edit now None change within = refl
names-edit now (Some s) change within =
    let long = length-map now.project.sections (λ (row : SectionRow). row.name) in
    let less : s < length now.project.sections = omega (arith, long, within) in
    all-kept (λ (row : SectionRow). row.name) now.project (record { section = s; change = change }) less (row-kept change (row_at now.project s)).name

edits-edit : (now : Basis) (place : Option ℕ) (change : Change) → (after_edit now (option_map (λ s. record { section = s; change = change }) place)).edits ≤ now.edits + 1
edits-edit now None change = omega arith
edits-edit now (Some s) change = omega arith

-- ---- the lines, one after the other

-- line i comes next, for the text of which k sections were condensed; what is added from here on is what the first lines
-- and these add
pub record IsAtLine {B : Type 0} (allows : B → Meaning) (label : B → List ℕ) (count : B → ℕ) (given : List B) (start : Option Basis) (names : List (List ℕ)) (first : ℕ) (lines : List ScriptLine) (old : List ℕ)
    (rules : List B) (state : Option State) (i k : ℕ) (text : List ℕ) : Type 0 where
  pub current : IsCurrent allows label count rules state
  pub same : SameRules allows label given rules
  pub now : Basis
  pub is : basis state ≡ Some now
  pub named : names ≡ names_of now.project
  pub few : now.edits + length (drop i lines) ≤ MAX_EDITS
  pub later : IfSome start (λ begun. (new : List ℕ) → (result : Result (Unit {0}) ReadError) → AddsSteps (rules_of allows label given) now k (drop i lines) text new result
      → AddsSteps (rules_of allows label given) begun first lines old new result)

for-some : {P Q : Basis → Type 0} (o : Option Basis) → IfSome o P → ((b : Basis) → P b → Q b) → IfSome o Q
for-some None holds next = tt
for-some (Some b) holds next = next b holds

pub at-start : {B : Type 0} (allows : B → Meaning) (label : B → List ℕ) (count : B → ℕ) (rules : List B) (state : Option State) (names : List (List ℕ)) (first : ℕ) (lines : List ScriptLine) (old : List ℕ)
    → IsCurrent allows label count rules state → IfSome (basis state) (λ now. names ≡ names_of now.project) → IfSome (basis state) (λ now. now.edits + length lines ≤ MAX_EDITS)
    → IsAtLine allows label count rules (basis state) names first lines old rules state 0 first old
at-start allows label count rules None names first lines old current named few = absurd current
at-start allows label count rules (Some s) names first lines old current named few = record {
  current = current;
  same = record { meanings = refl; names = refl };
  now = basis_of s;
  is = refl;
  named = named;
  few = few;
  later = λ new result adds. adds;
}

-- the text of line i was added
step-at : {B : Type 0} (allows : B → Meaning) (label : B → List ℕ) (given rules : List B) (o : Option Basis) (now : Basis) (k : ℕ) (text mid : List ℕ) → SameRules allows label given rules → o ≡ Some now
    → IfSome o (λ b. AddsStep (rules_of allows label rules) b k text mid) → AddsStep (rules_of allows label given) now k text mid
step-at allows label given rules o now k text mid same is step =
    subst (λ (r : Rules). AddsStep r now k text mid) (rules-same allows label given rules same) (subst (λ (b : Option Basis). IfSome b (λ x. AddsStep (rules_of allows label rules) x k text mid)) is step)

pub at-next : {B : Type 0} (allows : B → Meaning) (label : B → List ℕ) (count : B → ℕ) (given : List B) (start : Option Basis) (names : List (List ℕ)) (first : ℕ) (lines : List ScriptLine) (old : List ℕ)
    (rules next : List B) (state after_it : Option State) (i k more : ℕ) (text mid : List ℕ) (l : ScriptLine) → slice_get lines i ≡ Some l
    → IsAtLine allows label count given start names first lines old rules state i k text → IfSome (basis state) (λ now. AddsStep (rules_of allows label rules) now k text mid)
    → IfSome (basis state) (λ now. Applies now l (basis after_it) (Ok more)) → IsCurrent allows label count next after_it → SameRules allows label rules next
    → IsAtLine allows label count given start names first lines old next after_it (i + 1) more mid
at-next allows label count given start names first lines old rules next state after_it i k more text mid l there at step applied current same =
    let now = at.now in
    let said : Applies now l (basis after_it) (Ok more) = subst (λ (b : Option Basis). IfSome b (λ x. Applies x l (basis after_it) (Ok more))) at.is applied in
    let here : drop i lines ≡ l ∷ drop (i + 1) lines = drop_at lines i l there in
    let place = place_of l.section (names_of now.project) in
    record {
      current = current;
      same = record { meanings = same.meanings ∙ at.same.meanings; names = same.names ∙ at.same.names };
      now = after_line now l;
      is = said.2;
      named = at.named ∙ sym (names-edit now place l.change (place_of-within l.section (names_of now.project)));
      few =
          let few = at.few in
          let long : length (drop i lines) ≡ length (drop (i + 1) lines) + 1 = ap length here ∙ omega arith in
          let edits = edits-edit now place l.change in
          omega (arith, few, long, edits);
      later = for-some start at.later (λ begun later new result adds.
          later new result (subst (λ (ls : List ScriptLine). AddsSteps (rules_of allows label given) now k ls text new result) (sym here)
          (steps-more (rules_of allows label given) now k l (drop (i + 1) lines) text mid new result (step-at allows label given rules (basis state) now k text mid at.same at.is step) said.0
          (subst (λ (n : ℕ). AddsSteps (rules_of allows label given) (after_line now l) n (drop (i + 1) lines) mid new result) said.1 adds))));
    }

-- line i was refused, or memory ran out
pub at-refused : {B : Type 0} (allows : B → Meaning) (label : B → List ℕ) (count : B → ℕ) (given : List B) (start : Option Basis) (names : List (List ℕ)) (first : ℕ) (lines : List ScriptLine) (old : List ℕ)
    (rules : List B) (state after_it : Option State) (i k : ℕ) (text new : List ℕ) (l : ScriptLine) (error : ReadError) (result : Result (Unit {0}) ReadError) → slice_get lines i ≡ Some l
    → IsAtLine allows label count given start names first lines old rules state i k text → IfSome (basis state) (λ now. Applies now l (basis after_it) (Err error)) → IsErrAnd result (λ e. e ≡ error)
    → IfSome start (λ begun. AddsSteps (rules_of allows label given) begun first lines old new result)
at-refused allows label count given start names first lines old rules state after_it i k text new l error (Ok done) there at refused is = absurd is
at-refused allows label count given start names first lines old rules state after_it i k text new l (Refused fault) (Err (Refused again)) there at refused is =
    let same : again ≡ fault = cc is in
    let now = at.now in
    let said : Applies now l (basis after_it) (Err (Refused fault)) = subst (λ (b : Option Basis). IfSome b (λ x. Applies x l (basis after_it) (Err (Refused fault)))) at.is refused in
    for-some start at.later (λ begun later.
    later new (Err (Refused again)) (ap (first_refused now) (drop_at lines i l there) ∙ steps-refused now l (drop (i + 1) lines) fault said ∙ ap (λ f. Some f) (sym same)))
at-refused allows label count given start names first lines old rules state after_it i k text new l NoMemory (Err (Refused again)) there at refused is = absurd (cc is)
at-refused allows label count given start names first lines old rules state after_it i k text new l error (Err NoMemory) there at refused is = for-some start at.later (λ begun later. tt)

-- no line is left
pub at-end : {B : Type 0} (allows : B → Meaning) (label : B → List ℕ) (count : B → ℕ) (given : List B) (start : Option Basis) (names : List (List ℕ)) (first : ℕ) (lines : List ScriptLine) (old : List ℕ)
    (rules : List B) (state : Option State) (i k : ℕ) (text new : List ℕ) (done : Unit {0}) → length lines ≤ i → IsAtLine allows label count given start names first lines old rules state i k text
    → IfSome (basis state) (λ now. AddsStep (rules_of allows label rules) now k text new)
    → IfSome start (λ begun. AddsSteps (rules_of allows label given) begun first lines old new (Ok done))
at-end allows label count given start names first lines old rules state i k text new done past at step =
    for-some start at.later (λ begun later.
    later new (Ok done) (subst (λ (ls : List ScriptLine). AddsSteps (rules_of allows label given) at.now k ls text new (Ok done)) (sym (drop_all i lines past))
    (steps-end (rules_of allows label given) at.now k text new done (step-at allows label given rules (basis state) at.now k text new at.same at.is step))))

-- ---- the answer

-- the texts are the answer
pub lines-told : (rules : Rules) (start : Option Basis) (count : ℕ) (lines : List ScriptLine) (old new answer : List ℕ) (done : Unit {0}) → IfSome start (λ now. count ≡ section_count now.project.tree) → old ≡ [] → answer ≡ new
    → IfSome start (λ now. AddsSteps rules now count lines old new (Ok done)) → IfSome start (λ now. AnswersLines rules now lines FOUND answer)
lines-told rules None count lines old new answer done counted empty is adds = tt
lines-told rules (Some now) count lines old new answer done counted empty is adds =
    let same : answer ≡ adds.1.0 = is ∙ adds.1.2 ∙ ap (λ o. o ++ adds.1.0) empty in
    let steps : AreStepTexts rules now (section_count now.project.tree) lines answer =
    subst (λ (text : List ℕ). AreStepTexts rules now (section_count now.project.tree) lines text) (sym same) (subst (λ (k : ℕ). AreStepTexts rules now k lines adds.1.0) counted adds.1.1) in
    subst (λ (o : Option Fault). MatchOption o ((FOUND ≡ FOUND) × AreStepTexts rules now (section_count now.project.tree) lines answer) (λ fault. Says REFUSED (refusal_line script_file fault) FOUND answer))
    (sym adds.0) (refl, steps)

-- the line of the refusal is the answer
pub lines-refused : (rules : Rules) (start : Option Basis) (count : ℕ) (lines : List ScriptLine) (old new : List ℕ) (fault : Fault) (result : Result Answer NoMemoryError)
    → IfSome start (λ now. AddsSteps {Y = Unit {0}} rules now count lines old new (Err (Refused fault))) → IfOk result (λ a. (a.status ≡ REFUSED) × (a.text ≡ refusal_line script_file fault))
    → IfOk result (λ a. IfSome start (λ now. AnswersLines rules now lines a.status a.text))
lines-refused rules start count lines old new fault (Err error) adds says = tt
lines-refused rules start count lines old new fault (Ok a) adds says =
    for-some start adds (λ now refused.
    subst (λ (o : Option Fault). MatchOption o ((a.status ≡ FOUND) × AreStepTexts rules now (section_count now.project.tree) lines a.text) (λ f. Says REFUSED (refusal_line script_file f) a.status a.text)) (sym refused) says)

-- every name of the project joins something
pub script-told : (rules given : Rules) (state : Option Basis) (now : Basis) (lines : List ScriptLine) (result : Result Answer NoMemoryError) → given ≡ rules → state ≡ Some now → first_broken (joining_rules now.project now.catalogues) ≡ None
    → IfOk result (λ a. IfSome state (λ b. AnswersLines given b lines a.status a.text)) → IfOk result (λ a. AnswersScript rules now lines a.status a.text)
script-told rules given state now lines (Err error) same is joined told = tt
script-told rules given state now lines (Ok a) same is joined told =
    let said : AnswersLines rules now lines a.status a.text =
    subst (λ (r : Rules). AnswersLines r now lines a.status a.text) same (subst (λ (o : Option Basis). IfSome o (λ b. AnswersLines given b lines a.status a.text)) is told) in
    subst (λ (o : Option Fault). MatchOption o (AnswersLines rules now lines a.status a.text) (λ fault. Says REFUSED (refusal_line project_file fault) a.status a.text)) (sym joined) said

-- the first name that joins nothing is the answer
pub script-refused : (rules : Rules) (now : Basis) (lines : List ScriptLine) (fault : Fault) (result : Result Answer NoMemoryError) → unless_refused (first_broken (joining_rules now.project now.catalogues)) now.project ≡ Err fault
    → IfOk result (λ a. (a.status ≡ REFUSED) × (a.text ≡ refusal_line project_file fault)) → IfOk result (λ a. AnswersScript rules now lines a.status a.text)
script-refused rules now lines fault (Err error) refused says = tt
script-refused rules now lines fault (Ok a) refused says = by (first_broken (joining_rules now.project now.catalogues)) refused
  where
    by : (o : Option Fault) → unless_refused o now.project ≡ Err fault → MatchOption o (AnswersLines rules now lines a.status a.text) (λ f. Says REFUSED (refusal_line project_file f) a.status a.text)
    by None e = absurd (cc e)
    by (Some other) e = (let same : other ≡ fault = cc in subst (λ (f : Fault). Says REFUSED (refusal_line project_file f) a.status a.text) (sym same) says)
