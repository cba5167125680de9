-- The answer of `takeoff` is one.
use Rattle.std.proofs.Common.{◌≡◌, ℕ, inl, inr, List, ap, sym, ◌∙◌}
use Rattle.duct_units.specs.Rules.{section_fault}
use Rattle.duct_units.specs.declared.fault.Reason.TheVariants.{UnknownSection}
use Rattle.duct_definitions.specs.declared.listed.Listed.{Listed}
use Rattle.project_file.specs.declared.project.Project.{Project}
use Rattle.project_file.specs.ProjectFile.{project_of}
use Rattle.design_text.specs.Reading.{reading}
use Rattle.material_takeoff.specs.Agreement.{section_names}
use Rattle.material_takeoff.proofs.OneDifference.{difference-once, difference-none}
use Rattle.command_words.specs.RefusalText.{refusal_line}
use Rattle.command_words.specs.declared.commands.FileKind.TheVariants.{Design as text_file}
use Rattle.duct_cli.specs.TakingOff.{AnswersMaterial, AnswersTakeoff, names_of}
use Rattle.duct_cli.proofs.Once.{AreOne, says_once, result_once}

material_once : (p : Project) (l : Listed) (s t : ℕ) (one other : List ℕ) → AnswersMaterial p l s one
    → AnswersMaterial p l t other → AreOne s t one other
material_once p l s t one other (inl said) (inl again) =
    let same : ◌≡◌ {A = List ℕ} (refusal_line text_file (section_fault said.0 UnknownSection)) (refusal_line text_file (section_fault again.0 UnknownSection)) =
    ap (λ (n : ℕ). refusal_line text_file (section_fault n UnknownSection))
    (difference-once (names_of p) (section_names l) said.0 again.0 said.1 again.1) in
    (said.2.0 ∙ sym again.2.0, said.2.1 ∙ same ∙ sym again.2.1)
material_once p l s t one other (inl said) (inr (inl again)) = absurd (difference-none (names_of p) (section_names l) said.0 said.1 again.0)
material_once p l s t one other (inl said) (inr (inr again)) = absurd (difference-none (names_of p) (section_names l) said.0 said.1 again.0)
material_once p l s t one other (inr (inl said)) (inl again) = absurd (difference-none (names_of p) (section_names l) again.0 again.1 said.0)
material_once p l s t one other (inr (inr said)) (inl again) = absurd (difference-none (names_of p) (section_names l) again.0 again.1 said.0)
material_once p l s t one other (inr (inl said)) (inr (inl again)) = says_once _ _ s t one other said.2 again.2
material_once p l s t one other (inr (inl said)) (inr (inr again)) = absurd (again.1 said.1)
material_once p l s t one other (inr (inr said)) (inr (inl again)) = absurd (said.1 again.1)
material_once p l s t one other (inr (inr said)) (inr (inr again)) = says_once _ _ s t one other said.2 again.2

pub takeoff_once : (project design : List ℕ) (s t : ℕ) (one other : List ℕ) → AnswersTakeoff project design s one
    → AnswersTakeoff project design t other → AreOne s t one other
takeoff_once project design s t one other =
    result_once (project_of project) _ _ _ _ (AreOne s t one other)
    (λ p. result_once (reading design) _ _ _ _ (AreOne s t one other) (λ l. material_once p l s t one other)
    (λ fault. says_once _ _ s t one other))
    (λ fault. says_once _ _ s t one other)
