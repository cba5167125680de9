-- What is found of a certificate and a design is one, and a yes proves that the design is a cheapest one.
use Rattle.std.proofs.Common.{◌≡◌, ℕ, ◌≤◌, Option, Some, None, refl, ap, sym, subst, ◌∙◌}
use Rattle.duct_definitions.specs.declared.design.Design.{Design}
use Rattle.duct_definitions.specs.declared.listed.Listed.{Listed}
use Rattle.duct_definitions.specs.Network.{Network}
use Rattle.duct_definitions.specs.Designs.{Meets, cost}
use Rattle.duct_definitions.specs.DesignText.{listed}
use Rattle.front_certificate.specs.Certificates.{Certificate}
use Rattle.front_certificate.specs.Sound.{NoneCostsLess}
use Rattle.front_certificate.specs.declared.judgement.Judgement.TheVariants as judged
use Rattle.front_certificate.proofs.OneJudgement.{judged-once}
use Rattle.certified_design.specs.declared.finding.Finding.{Finding}
use Rattle.certified_design.specs.declared.finding.Finding.TheVariants as found
use Rattle.certified_design.specs.Findings.{IsCertified, IsFinding, IsTextOfCheapest}

pub found-once : (net : Network) (c : Certificate) (design : Option Listed) (f g : Finding) → IsFinding net c design f
    → IsFinding net c design g → f ≡ g
found-once net c design found.Yes found.Yes is again = refl
found-once net c design found.Yes (found.Section s) is again = absurd (cc (judged-once net c judged.Yes (judged.Section s) is.0 again))
found-once net c design found.Yes found.Total is again = absurd (cc (judged-once net c judged.Yes judged.Total is.0 again))
found-once net c design found.Yes found.Design is again = absurd (again.1 is.1)
found-once net c design (found.Section s) found.Yes is again = absurd (cc (judged-once net c (judged.Section s) judged.Yes is again.0))
found-once net c design (found.Section s) (found.Section t) is again =
    let same : judged.Section s ≡ judged.Section t = judged-once net c (judged.Section s) (judged.Section t) is again in cc same
found-once net c design (found.Section s) found.Total is again = absurd (cc (judged-once net c (judged.Section s) judged.Total is again))
found-once net c design (found.Section s) found.Design is again = absurd (cc (judged-once net c (judged.Section s) judged.Yes is again.0))
found-once net c design found.Total found.Yes is again = absurd (cc (judged-once net c judged.Total judged.Yes is again.0))
found-once net c design found.Total (found.Section s) is again = absurd (cc (judged-once net c judged.Total (judged.Section s) is again))
found-once net c design found.Total found.Total is again = refl
found-once net c design found.Total found.Design is again = absurd (cc (judged-once net c judged.Total judged.Yes is again.0))
found-once net c design found.Design found.Yes is again = absurd (is.1 again.1)
found-once net c design found.Design (found.Section s) is again = absurd (cc (judged-once net c judged.Yes (judged.Section s) is.0 again))
found-once net c design found.Design found.Total is again = absurd (cc (judged-once net c judged.Yes judged.Total is.0 again))
found-once net c design found.Design found.Design is again = refl

pub certified-cheapest : (net : Network) (total : Option ℕ) (l : Listed) → NoneCostsLess net total → IsCertified net total l
    → IsTextOfCheapest net l
certified-cheapest net None l bounded certified = absurd (cc certified.1)
certified-cheapest net (Some total) l bounded certified =
    let d = certified.0.0 in
    let stated : total ≡ l.total = cc certified.1 in
    let costs : total ≡ cost net d = stated ∙ ap (λ (text : Listed). text.total) certified.0.2 in
    (d, record { meets = certified.0.1; least = λ e meets. subst (λ (n : ℕ). n ≤ cost net e) costs (bounded e meets) }, certified.0.2)
