-- The fronts of a section, one beside each size of its neighbour, and what makes them exact.
--   front_of fronts g         the front beside size g of the neighbour
--   most_beyond net           what a section and all beyond it cost at most, cents
--   AreExact net s fronts     each front is the least price of section s within each budget up to the cap
--   AreFrontsOf net fronts    one entry for each section of the network, in order
use Rattle.std.specs.Prelude.{◌≡◌, ℕ, ◌*◌, ◌<◌, List, [], length, slice_get, Some, unwrap_or, All}
use Rattle.pareto_front.specs.declared.point.Point.{Point}
use Rattle.pareto_front.specs.Front.{IsFront, NeedsWithin, CostsWithin, cheapest}
use Rattle.duct_definitions.specs.declared.limits.TheConstants.{MAX_PRICE}
use Rattle.duct_definitions.specs.Tree.{section_count}
use Rattle.duct_definitions.specs.Network.{Network, columns, cap}
use Rattle.least_laws.specs.LeastFromChildren.{IsExact}

-- a section of a network, and its fronts beside the sizes of its neighbour
pub record SectionData : Type 0 where
  pub net : Network
  pub section : ℕ
  pub fronts : List (List Point)

-- the front beside size g of the neighbour
abbrev pub front_of : List (List Point) → ℕ → List Point
front_of fronts g = unwrap_or (slice_get fronts g) []

-- the greatest price for each section of the network
abbrev pub most_beyond : Network → ℕ
most_beyond net = section_count net.tree * MAX_PRICE

-- a front beside each size of the neighbour, whose cheapest within each budget up to the greatest fan pressure is the
-- least price of the section and of all beyond it
pub record AreExact (net : Network) (s : ℕ) (fronts : List (List Point)) : Type 0 where
  pub in_range : s < section_count net.tree
  pub count : length fronts ≡ columns net s
  pub rising : All IsFront fronts
  pub exact : IsExact net s (λ g budget. cheapest (front_of fronts g) budget)
  pub needs : All (NeedsWithin (cap net)) fronts
  pub costs : All (CostsWithin (most_beyond net)) fronts

-- one entry for each section of the network, in order
pub record AreFrontsOf (net : Network) (entries : List SectionData) : Type 0 where
  pub count : length entries ≡ section_count net.tree
  pub each : (s : ℕ) (entry : SectionData) → slice_get entries s ≡ Some entry
      → (entry.net ≡ net) × (entry.section ≡ s)
