use Rattle.std.proofs.Common.{◌≡◌, ◌≤◌, ◌++◌, sum, drop}
use Rattle.pareto_front.specs.CostFalls.{points_after, points_of}
use Rattle.pareto_front.proofs.cost_falls.points_from.Given as goal

abbrev pub invariant-loop-need : goal.invariant-loop-need
invariant-loop-need l =
    (l.points.items ++ points_after l.need l.cost (drop l.need l.falls) ≡ points_of l.fn.first l.falls)
    × (sum (drop l.need l.falls) ≤ l.cost)
