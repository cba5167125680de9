use Rattle.std.proofs.Common.{◌≡◌, ℕ, ◌≤◌}
use Rattle.duct_definitions.specs.Network.{cap}
use Rattle.least_laws.specs.Prices.{least_below}
use Rattle.least_laws.specs.LeastFromChildren.{least_in, least_with}
use Rattle.pareto_front.specs.LaidPoints.{least_among}
use Rattle.contract_join.proofs.close.lay_sizes.Given as goal

abbrev pub invariant-loop-k : goal.invariant-loop-k
invariant-loop-k l =
    (l.laid.cap ≡ cap l.net)
    × ((budget : ℕ) → budget ≤ cap l.net
    → least_among l.laid.points budget ≡ least_below (least_with l.net (least_in l.net) l.s l.g budget) l.k)
