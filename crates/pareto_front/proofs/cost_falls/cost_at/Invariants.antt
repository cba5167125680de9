use Rattle.std.proofs.Common.{◌≡◌, ◌+◌, ◌≤◌, sum, take}
use Rattle.pareto_front.specs.CostFalls.{falls_to}
use Rattle.pareto_front.proofs.cost_falls.cost_at.Given as goal

abbrev pub invariant-loop-later : goal.invariant-loop-later
invariant-loop-later l =
    (l.later ≤ l.need + 1) × (l.cost + sum (take l.later l.falls) ≡ l.fn.first.cost + falls_to l.fn.first.need l.falls)
