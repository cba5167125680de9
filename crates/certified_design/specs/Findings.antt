-- What is found of a certificate, and of a design beside it.
--   IsCertified net total l          the text is that of a design that meets the rules and costs the total
--   IsTextOfCheapest net l           the text is that of a design than which none that meets the rules costs less
--   IsFinding net c design f         f is what is found
--   ProvesOf net total design f      what it proves of all designs
use Rattle.std.specs.Prelude.{◌≡◌, ℕ, ◌<◌, ◌≤◌, Option, Some, None}
use Rattle.duct_definitions.specs.declared.design.Design.{Design}
use Rattle.duct_definitions.specs.declared.listed.Listed.{Listed}
use Rattle.duct_definitions.specs.Tree.{section_count}
use Rattle.duct_definitions.specs.Network.{Network}
use Rattle.duct_definitions.specs.Designs.{Meets, cost}
use Rattle.duct_definitions.specs.DesignText.{listed}
use Rattle.design_check.specs.Designs.{IsOfDesign}
use Rattle.front_certificate.specs.Certificates.{Certificate}
use Rattle.front_certificate.specs.Sound.{IsSound, IsFirstUnsound, IsUnsoundTotal, NoneCostsLess}
use Rattle.certified_design.specs.declared.finding.Finding.{Finding}
use Rattle.certified_design.specs.declared.finding.Finding.TheVariants as found

-- the text is that of a design that meets the rules, and its cost is the total
abbrev pub IsCertified : Network → Option ℕ → Listed → Type 0
IsCertified net total l = IsOfDesign net l × (total ≡ Some l.total)

-- the same of a text that may not be there
abbrev pub AreCertified : Network → Option ℕ → Option Listed → Type 0
AreCertified net total None = Unit {0}
AreCertified net total (Some l) = IsCertified net total l

-- yes, where the certificate is sound and the text is that of a design that meets the rules and costs the total; else
-- the first section that is not sound, the total, or the design
abbrev pub IsFinding : Network → Certificate → Option Listed → Finding → Type 0
IsFinding net c design found.Yes = IsSound net c × AreCertified net c.total design
IsFinding net c design (found.Section s) = IsFirstUnsound net c.fronts s
IsFinding net c design found.Total = IsUnsoundTotal net c
IsFinding net c design found.Design = IsSound net c × (AreCertified net c.total design → ⊥)

-- the design meets the rules, and no design that meets them costs less
pub record IsCheapest (net : Network) (d : Design) : Type 0 where
  pub meets : Meets net d
  pub least : (e : Design) → Meets net e → cost net d ≤ cost net e

-- the text is that of a design than which none that meets the rules costs less
abbrev pub IsTextOfCheapest : Network → Listed → Type 0
IsTextOfCheapest net l = (d : Design) × IsCheapest net d × (l ≡ listed net d)

-- the text that is there is that of a cheapest design
abbrev pub AreOfCheapest : Network → Option Listed → Type 0
AreOfCheapest net None = Unit {0}
AreOfCheapest net (Some l) = IsTextOfCheapest net l

-- a yes proves that no design that meets the rules costs less than the total, and that the text, where there is one, is
-- that of a cheapest design
abbrev pub ProvesOf : Network → Option ℕ → Option Listed → Finding → Type 0
ProvesOf net total design found.Yes = NoneCostsLess net total × AreOfCheapest net design
ProvesOf net total design finding = Unit {0}

-- the section that is found is one of the network
abbrev pub NamesSection : Network → Finding → Type 0
NamesSection net (found.Section s) = s < section_count net.tree
NamesSection net finding = Unit {0}
