-- The text of the best design of a network, or of none, is one.
use Rattle.std.proofs.Common.{◌≡◌, ℕ, inl, inr, List, sym, ◌∙◌, ap}
use Rattle.duct_definitions.specs.declared.design.Design.{Design}
use Rattle.duct_definitions.specs.declared.listed.RuleCount.{RuleCount}
use Rattle.duct_definitions.specs.Network.{Network}
use Rattle.duct_definitions.specs.DesignText.{text, listed}
use Rattle.duct_definitions.proofs.OrderLaws.{best_is_one}
use Rattle.duct_cli.specs.BestDesign.{AnswersDesign}
use Rattle.duct_cli.proofs.Once.{AreOne, says_once}

pub design_once : (net : Network) (refusals : List RuleCount) (s t : ℕ) (one other : List ℕ) → AnswersDesign net refusals s one → AnswersDesign net refusals t other → AreOne s t one other
design_once net refusals s t one other (inl best) (inl again) =
    let same : ◌≡◌ {A = List ℕ} (text (listed net best.0)) (text (listed net again.0)) = ap (λ (d : Design). text (listed net d)) (best_is_one net best.0 again.0 best.1 again.1) in
    (best.3.0 ∙ sym again.3.0, best.3.1 ∙ same ∙ sym again.3.1)
design_once net refusals s t one other (inl best) (inr none) = absurd (none.0 best.0 best.1.meets)
design_once net refusals s t one other (inr none) (inl best) = absurd (none.0 best.0 best.1.meets)
design_once net refusals s t one other (inr none) (inr again) = says_once _ _ s t one other none.1 again.1
