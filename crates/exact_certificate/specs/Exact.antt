-- The certificate of a network that states of each section what every budget buys, and what the best design costs.
--   collected entries             the fronts of all sections, one after the other
--   HasExactFronts net fronts     each front is that of the least prices up to the greatest fan pressure
--   IsCostOfBest net total        the total is the cost of the best design; without one no design meets the rules
--   IsExactCertificate net c      both
--   IsLeastOfOffers net total     no fans with any budget cost less; without a total none have a cost
use Rattle.std.specs.Prelude.{◌≡◌, ℕ, List, length, Option, Some, None, All}
use Rattle.std.specs.List.{flat_map}
use Rattle.contract_join.specs.SectionFronts.{SectionData}
use Rattle.duct_definitions.specs.declared.design.Design.{Design}
use Rattle.duct_definitions.specs.Network.{Network, cap}
use Rattle.duct_definitions.specs.Designs.{cost}
use Rattle.duct_definitions.specs.Order.{IsBest, NoneMeets}
use Rattle.duct_units.specs.declared.side.Side.TheVariants.{Supply, Return}
use Rattle.least_laws.specs.Choosing.{side_least, IsChosen}
use Rattle.expand_sizes.specs.BestChoice.{NoneHasCost}
use Rattle.pareto_front.specs.declared.point.Point.{Point}
use Rattle.pareto_front.specs.Front.{IsFront, NeedsWithin}
use Rattle.front_certificate.specs.Certificates.{Certificate, front_count}
use Rattle.front_certificate.specs.Sound.{AreExactFronts}

-- the fronts of all entries, one after the other
abbrev pub collected : List SectionData → List (List Point)
collected entries = flat_map (λ entry. entry.fronts) entries

-- a front for each section and size of its neighbour, without a need above the greatest fan pressure, which gives the
-- least price of the section and of all beyond it within each budget up to that pressure; so it has a point exactly
-- where the least price falls
pub record HasExactFronts (net : Network) (fronts : List (List Point)) : Type 0 where
  pub count : length fronts ≡ front_count net
  pub rising : All IsFront fronts
  pub needs : All (NeedsWithin (cap net)) fronts
  pub exact : AreExactFronts net fronts

-- the total is the cost of the best design; where none is stated, no design meets the rules
abbrev pub IsCostOfBest : Network → Option ℕ → Type 0
IsCostOfBest net None = NoneMeets net
IsCostOfBest net (Some total) = (d : Design) × IsBest net d × (total ≡ cost net d)

-- the fronts are exact, and the total is the cost of the best design
pub record IsExactCertificate (net : Network) (c : Certificate) : Type 0 where
  pub fronts : HasExactFronts net c.fronts
  pub total : IsCostOfBest net c.total

-- some fans and budget of the least cost cost the total; where none is stated, no fans with any budget have a cost
abbrev pub IsLeastOfOffers : Network → Option ℕ → Type 0
IsLeastOfOffers net None = NoneHasCost net
IsLeastOfOffers net (Some total) =
    (fan : ℕ) × (own : Option ℕ) × ((budget : ℕ) × IsChosen net (side_least net Supply) (side_least net Return) fan own budget total)
