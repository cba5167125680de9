use Rattle.std.proofs.Common.{ℕ, ◌+◌, arith, ap, List, ◌++◌, drop}
use Rattle.std.proofs.lemmas.List.Sums.{sum_by-drop_more, sum_by-take-drop}
use Rattle.pareto_front.specs.declared.point.Point.{Point}
use Rattle.pareto_front.specs.CostFalls.{points_after}
use Rattle.pareto_front.proofs.cost_falls.points_from.Goals as goal

pub loop-need-init : goal.loop-need-init
loop-need-init c =
    let first = c.args.first in
    let falls = c.args.falls.now in
    let parts = sum_by-take-drop (λ (x : ℕ). x) falls (first.need + 1) in
    let within = c.requires.within in
    (ap (λ (l : List Point). l ++ points_after (first.need + 1) first.cost (drop (first.need + 1) falls)) c.in_ok-points.ensures.items, omega arith)

pub overflow_sub-cost : goal.overflow_sub-cost
overflow_sub-cost c =
    let test = c.loop-need-test.true in
    let more = sum_by-drop_more (λ (x : ℕ). x) c.args.falls.now c.loop-need.need 0 test in
    let within = c.loop-need.invariant.1 in
    omega arith
