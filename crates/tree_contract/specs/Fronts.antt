-- The fronts of all sections, and of each side.
--   IsFronted net closed supply back   what holds of the fields of a `Fronted`
use Rattle.std.specs.Prelude.{◌≡◌, List, []}
use Rattle.duct_units.specs.declared.side.Side.TheVariants.{Supply, Return}
use Rattle.duct_definitions.specs.Network.{Network}
use Rattle.pareto_front.specs.declared.point.Point.{Point}
use Rattle.contract_join.specs.SideFront.{IsSideFront}
use Rattle.child_counter.specs.Closed.{ClosedData}

-- what a contract sees: the network, the closed counters, and the front of each side
pub record FrontedData : Type 0 where
  pub net : Network
  pub closed : ClosedData
  pub supply : List Point
  pub back : List Point

-- the counters are of the network, no section was refused memory, and each side has its front
pub record IsFronted (net : Network) (closed : ClosedData) (supply back : List Point) : Type 0 where
  pub same_network : closed.net ≡ net
  pub none_refused : closed.refused ≡ []
  pub supply_is : IsSideFront net Supply supply
  pub back_is : IsSideFront net Return back
