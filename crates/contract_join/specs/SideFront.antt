-- The front of a whole side of the fan.
--   IsSideFront net side front   within each budget up to the greatest fan pressure, the side's least cost
use Rattle.std.specs.Prelude.{◌≡◌, ℕ, ◌<◌, ◌≤◌, List, All}
use Rattle.duct_units.specs.declared.side.Side.{Side}
use Rattle.duct_definitions.specs.Network.{Network, cap}
use Rattle.least_laws.specs.Choosing.{side_least}
use Rattle.pareto_front.specs.declared.point.Point.{Point}
use Rattle.pareto_front.specs.declared.point.TheConstants.{COST_LIMIT}
use Rattle.pareto_front.specs.Front.{NeedsWithin, cheapest}

-- the front of a side: exact up to the greatest fan pressure, with no need above it and each cost within bounds
pub record IsSideFront (net : Network) (side : Side) (front : List Point) : Type 0 where
  pub exact : (budget : ℕ) → budget ≤ cap net → cheapest front budget ≡ side_least net side budget
  pub needs : NeedsWithin (cap net) front
  pub below : All (λ point. point.cost < COST_LIMIT) front
