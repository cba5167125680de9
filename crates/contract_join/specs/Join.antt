-- A section whose children are added one by one: for each of its sizes, fronts that cost together what the children do.
--   Joining                          a section of a network, and how many of its children are added
--   AreSumOf net g sections fronts   the fronts cost together what these sections do beside size g of their neighbour
--   AddsSection net c g old new      one section more
--   IsAdding net s added sums        for each size of the section its first children, so many
--   AddsChild net c old new          one child more, for each size
--   HaveRoom net sums                one child more fits
--   AreTotals sums fronts            the front of each sum
--   AreSums net s fronts             for each size of the section a front of all its children
use Rattle.std.specs.Prelude.{◌≡◌, ℕ, ◌+◌, ◌*◌, ◌<◌, ◌≤◌, ◌^◌, List, length, take, All, slice_index_or}
use Rattle.pareto_front.specs.declared.point.Point.{Point}
use Rattle.pareto_front.specs.Front.{NeedsWithin, CostsWithin, cheapest}
use Rattle.pareto_front.specs.FrontSum.{together, greatest_together, IsTotal}
use Rattle.duct_definitions.specs.Tree.{section_count, children}
use Rattle.duct_definitions.specs.Network.{Network, IsNetwork, size_count, cap}
use Rattle.duct_units.specs.Prices.{both_of}
use Rattle.least_laws.specs.Prices.{sum_of}
use Rattle.least_laws.specs.LeastFromChildren.{least_in}
use Rattle.contract_join.specs.SectionFronts.{front_of, most_beyond}

-- a section of a network, and how many of its children are added
pub record Joining : Type 0 where
  pub net : Network
  pub section : ℕ
  pub added : ℕ

-- the fronts cost together what these sections do beside size g of their neighbour
pub record AreSumOf (net : Network) (g : ℕ) (sections : List ℕ) (fronts : List (List Point)) : Type 0 where
  pub value : (budget : ℕ) → budget ≤ cap net
      → together fronts budget ≡ sum_of (λ c. least_in net c g budget) sections
  pub needs : All (NeedsWithin (cap net)) fronts
  pub costs : greatest_together fronts ≤ length sections * most_beyond net

-- one section more
pub record AddsSection (net : Network) (c g : ℕ) (old new : List (List Point)) : Type 0 where
  pub value : (budget : ℕ) → budget ≤ cap net
      → together new budget ≡ both_of (together old budget) (least_in net c g budget)
  pub needs : All (NeedsWithin (cap net)) old → All (NeedsWithin (cap net)) new
  pub costs : greatest_together new ≤ greatest_together old + most_beyond net

-- for each size of the section its first children
pub record IsAdding (net : Network) (s added : ℕ) (sums : List (List (List Point))) : Type 0 where
  pub network : IsNetwork net
  pub in_range : s < section_count net.tree
  pub some_children : added ≤ length (children net.tree s)
  pub count : length sums ≡ size_count net s
  pub each : (k : ℕ) (d : List (List Point)) → k < length sums
      → AreSumOf net k (take added (children net.tree s)) (slice_index_or sums k d)

-- one child more, for each size
pub record AddsChild (net : Network) (c : ℕ) (old new : List (List (List Point))) : Type 0 where
  pub count : length new ≡ length old
  pub each : (k : ℕ) (d : List (List Point)) → k < length old
      → AddsSection net c k (slice_index_or old k d) (slice_index_or new k d)

-- one section more fits, with all beyond it
abbrev pub HasRoom : Network → List (List Point) → Type 0
HasRoom net fronts = greatest_together fronts + most_beyond net < 2 ^ 64

-- one child more fits, for each size
abbrev pub HaveRoom : Network → List (List (List Point)) → Type 0
HaveRoom net sums = All (HasRoom net) sums

-- the front of each sum
pub record AreTotals (sums : List (List (List Point))) (fronts : List (List Point)) : Type 0 where
  pub count : length fronts ≡ length sums
  pub each : (k : ℕ) (d : List (List Point)) → k < length sums
      → IsTotal (slice_index_or sums k d) (front_of fronts k)

-- a front for each size of the section, whose cheapest within each budget up to the greatest fan pressure is the sum of
-- the leasts of all children beside that size
pub record AreSums (net : Network) (s : ℕ) (sums : List (List Point)) : Type 0 where
  pub network : IsNetwork net
  pub in_range : s < section_count net.tree
  pub count : length sums ≡ size_count net s
  pub value : (k budget : ℕ) → k < size_count net s → budget ≤ cap net
      → cheapest (front_of sums k) budget ≡ sum_of (λ c. least_in net c k budget) (children net.tree s)
  pub needs : All (NeedsWithin (cap net)) sums
  pub costs : All (CostsWithin (length (children net.tree s) * most_beyond net)) sums
