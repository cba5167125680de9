use Rattle.duct_units.specs.Prices.{lesser}
use Rattle.pareto_front.specs.Sweep.{points_left}
use Rattle.pareto_front.proofs.Swept.{Swept}
use Rattle.pareto_front.proofs.merge.either_points.Given as goal

abbrev pub invariant-loop-step : goal.invariant-loop-step
invariant-loop-step l = Swept lesser l.a l.b l.sweep l.points.items

abbrev pub decreases-loop-step : goal.decreases-loop-step
decreases-loop-step l = points_left l.sweep
