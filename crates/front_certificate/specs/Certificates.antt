-- A certificate: a stated total and a front for each section beside each size of its neighbour.
--   fronts_before net s       how many fronts stand before those of section s
--   front_count net           how many fronts there are
--   front_at net fronts s g   the front of section s beside size g of its neighbour
--   bound net fronts s g b    the cost of the last point of that front whose need is within the budget b, or none
--   bound_sum .. b            the sum of the bounds of several sections beside one size, where all are there
use Rattle.std.specs.Prelude.{ℕ, zero, suc, ◌+◌, List, [], slice_get, unwrap_or, Option}
use Rattle.duct_definitions.specs.Tree.{section_count}
use Rattle.duct_definitions.specs.Network.{Network, columns}
use Rattle.pareto_front.specs.declared.point.Point.{Point}
use Rattle.pareto_front.specs.Front.{cheapest}
use Rattle.least_laws.specs.Prices.{sum_of}

-- the stated total, none where it says that no design meets the rules; and the fronts, section by section in file order
-- and of each section beside each size of its neighbour in order, one at the fan
pub record Certificate : Type 0 where
  pub total : Option ℕ
  pub fronts : List (List Point)

-- the fronts of the sections before section s
abbrev pub fronts_before : Network → ℕ → ℕ
fronts_before net zero = 0
fronts_before net (suc s) = fronts_before net s + columns net s

-- the fronts of all sections
abbrev pub front_count : Network → ℕ
front_count net = fronts_before net (section_count net.tree)

-- the front of section s beside size g of its neighbour
abbrev pub front_at : Network → List (List Point) → ℕ → ℕ → List Point
front_at net fronts s g = unwrap_or (slice_get fronts (fronts_before net s + g)) []

-- the cost of the last point of the front whose need is within the budget
abbrev pub bound : Network → List (List Point) → ℕ → ℕ → ℕ → Option ℕ
bound net fronts s g budget = cheapest (front_at net fronts s g) budget

-- the sum of the bounds of the sections beside size k, where all are there
unfoldable pub bound_sum : Network → List (List Point) → List ℕ → ℕ → ℕ → Option ℕ
bound_sum net fronts sections k budget = sum_of (λ s. bound net fronts s k budget) sections
