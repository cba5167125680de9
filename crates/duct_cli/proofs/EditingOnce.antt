-- The answer of `edit` is one.
use Rattle.std.proofs.Common.{◌≡◌, ℕ, inl, inr, List, [], ◌∷◌, ◌++◌, Ok, Err, ap, sym, subst, ◌∙◌}
use Rattle.std.specs.Prelude.{codes, Result}
use Rattle.std.specs.Fmt.{decimal}
use Rattle.duct_units.specs.Lines.{line}
use Rattle.duct_units.specs.Rules.{first_broken}
use Rattle.duct_units.specs.declared.fault.Fault.{Fault}
use Rattle.net_build.specs.Joining.{joining_rules}
use Rattle.edit_script.specs.declared.script.ScriptLine.{ScriptLine}
use Rattle.edit_script.proofs.OneReading.{one_reading}
use Rattle.edit_session.specs.Current.{Basis}
use Rattle.command_words.specs.Commands.{DesignFiles}
use Rattle.command_words.specs.RefusalText.{refusal_line}
use Rattle.command_words.specs.declared.commands.FileKind.TheVariants.{Script as script_file}
use Rattle.duct_cli.specs.Designing.{Rules, data_of}
use Rattle.duct_cli.specs.Editing.{AnswersEdit, AnswersEdits, AnswersLines, AnswersScript, AreStepTexts, IsStepText, after_line, before_edits, first_refused, line_edit, network_now, refusals_now, touches}
use Rattle.duct_cli.proofs.Once.{AreOne, says_once, result_once, option_once}
use Rattle.duct_cli.proofs.BestOnce.{design_once}

step_once : (rules : Rules) (now : Basis) (k : ℕ) (one other : List ℕ) → IsStepText rules now k one
    → IsStepText rules now k other → one ≡ other
step_once rules now k one other said again =
    let same = design_once (network_now rules now) (refusals_now rules now) said.0 again.0 said.1 again.1 said.2 again.2 in
    said.3
    ∙ ap (λ (answer : List ℕ). line (codes "edit") (decimal now.edits ∷ []) ++ answer ++ line (codes "again") (decimal k ∷ [])) same.1
    ∙ sym again.3

texts_once : (rules : Rules) (now : Basis) (k : ℕ) (lines : List ScriptLine) (one other : List ℕ)
    → AreStepTexts rules now k lines one → AreStepTexts rules now k lines other → one ≡ other
texts_once rules now k [] one other said again = step_once rules now k one other said again
texts_once rules now k (l ∷ lines) one other said again =
    said.4 ∙ ap (λ (first : List ℕ). first ++ said.1) (step_once rules now k said.0 again.0 said.2 again.2)
    ∙ ap (λ (later : List ℕ). again.0 ++ later)
    (texts_once rules (after_line now l) (touches now (line_edit now l)) lines said.1 again.1 said.3 again.3)
    ∙ sym again.4

lines_once : (rules : Rules) (now : Basis) (lines : List ScriptLine) (s t : ℕ) (one other : List ℕ)
    → AnswersLines rules now lines s one → AnswersLines rules now lines t other → AreOne s t one other
lines_once rules now lines s t one other =
    option_once (first_refused now lines) _ _ _ _ (AreOne s t one other)
    (λ said again. (said.0 ∙ sym again.0, texts_once rules now _ lines one other said.1 again.1))
    (λ fault. says_once _ _ s t one other)

script_once : (rules : Rules) (now : Basis) (lines : List ScriptLine) (s t : ℕ) (one other : List ℕ)
    → AnswersScript rules now lines s one → AnswersScript rules now lines t other → AreOne s t one other
script_once rules now lines s t one other =
    option_once (first_broken (joining_rules now.project now.catalogues)) _ _ _ _ (AreOne s t one other)
    (lines_once rules now lines s t one other) (λ fault. says_once _ _ s t one other)

edits_once : (rules : Rules) (now : Basis) (script : List ℕ) (s t : ℕ) (one other : List ℕ)
    → AnswersEdits rules now script s one → AnswersEdits rules now script t other → AreOne s t one other
edits_once rules now script s t one other (inl said) (inl again) =
    let same : ◌≡◌ {A = Result (List ScriptLine) Fault} (Ok said.0) (Ok again.0) = one_reading script (Ok said.0) (Ok again.0) said.1 again.1 in
    let lines : said.0 ≡ again.0 = cc same in
    script_once rules now again.0 s t one other (subst (λ (ls : List ScriptLine). AnswersScript rules now ls s one) lines said.2) again.2
edits_once rules now script s t one other (inl said) (inr again) =
    let same : ◌≡◌ {A = Result (List ScriptLine) Fault} (Ok said.0) (Err again.0) = one_reading script (Ok said.0) (Err again.0) said.1 again.1 in
    absurd (cc same)
edits_once rules now script s t one other (inr said) (inl again) =
    let same : ◌≡◌ {A = Result (List ScriptLine) Fault} (Err said.0) (Ok again.0) = one_reading script (Err said.0) (Ok again.0) said.1 again.1 in
    absurd (cc same)
edits_once rules now script s t one other (inr said) (inr again) =
    let same : ◌≡◌ {A = Result (List ScriptLine) Fault} (Err said.0) (Err again.0) = one_reading script (Err said.0) (Err again.0) said.1 again.1 in
    let fault : said.0 ≡ again.0 = cc same in
    let line_is : ◌≡◌ {A = List ℕ} (refusal_line script_file said.0) (refusal_line script_file again.0) = ap (λ (f : Fault). refusal_line script_file f) fault in
    (said.2.0 ∙ sym again.2.0, said.2.1 ∙ line_is ∙ sym again.2.1)

pub edit_once : (rules : Rules) (bytes : DesignFiles) (script : List ℕ) (s t : ℕ) (one other : List ℕ)
    → AnswersEdit rules bytes script s one → AnswersEdit rules bytes script t other → AreOne s t one other
edit_once rules bytes script s t one other =
    result_once (data_of bytes) _ _ _ _ (AreOne s t one other)
    (λ said. edits_once rules (before_edits said) script s t one other) (λ refusal. says_once _ _ s t one other)
