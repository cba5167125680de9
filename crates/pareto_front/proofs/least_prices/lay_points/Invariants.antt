use Rattle.pareto_front.proofs.PricesLaid.{IsLaidTo}
use Rattle.pareto_front.proofs.least_prices.lay_points.Given as goal

abbrev pub invariant-loop-point : goal.invariant-loop-point
invariant-loop-point l = IsLaidTo l.fn.prices l.prices l.points l.loss l.price l.point-index
