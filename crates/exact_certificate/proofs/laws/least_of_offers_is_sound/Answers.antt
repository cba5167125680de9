use Rattle.std.proofs.Common.{ℕ, List, Option, Some, None}
use Rattle.duct_definitions.specs.Network.{Network}
use Rattle.duct_definitions.specs.Tree.{IsTree}
use Rattle.pareto_front.specs.declared.point.Point.{Point}
use Rattle.front_certificate.specs.Sound.{IsSoundTotal}
use Rattle.front_certificate.proofs.ExactFronts.{exact-sections, exact-total, exact-none}
use Rattle.exact_certificate.specs.Exact.{HasExactFronts, IsLeastOfOffers}
use Rattle.exact_certificate.proofs.laws.least_of_offers_is_sound.Goals as goal

sound-total : (net : Network) → IsTree net.tree → (fronts : List (List Point)) → HasExactFronts net fronts
    → (total : Option ℕ) → IsLeastOfOffers net total → IsSoundTotal net fronts total
sound-total net tree fronts exact None least = exact-none net tree fronts exact.exact least
sound-total net tree fronts exact (Some total) least =
    exact-total net tree fronts exact.exact least.0 least.1 least.2.0 total least.2.1

pub returns : goal.returns
returns c net tree certificate exact least = record {
  sections = exact-sections net tree certificate.fronts exact.exact;
  total = sound-total net tree certificate.fronts exact certificate.total least;
}
