use Rattle.std.proofs.Common.{◌+◌, sym, subst, Some, get_or}
use Rattle.pareto_front.specs.declared.point.Point.{Point}
use Rattle.pareto_front.proofs.CheaperLaws.{with_cheaper-cases}
use Rattle.pareto_front.proofs.InOrderLemmas.{IsKeptTo, IsKeptTo-skip, IsKeptTo-push}
use Rattle.pareto_front.proofs.few_points.keep_cheaper.Goals as goal

pub loop-point-preserved : goal.loop-point-preserved
loop-point-preserved c =
    let sorted = c.args.sorted.now in
    let kept = c.loop-point.kept.items in
    let i = c.loop-point.point-index in
    let none : Point = record { need = 0; cost = 0 } in
    let q : Point = get_or sorted i none in
    subst (λ points. IsKeptTo sorted points (i + 1)) (sym c.in_ok-push_cheaper.ensures)
    (with_cheaper-cases (λ points. IsKeptTo sorted points (i + 1)) q.need kept (Some q.cost)
    (IsKeptTo-skip sorted kept i none c.requires.order c.loop-point-test.true c.loop-point.invariant)
    (IsKeptTo-push sorted kept i none c.requires.order c.loop-point-test.true c.loop-point.invariant))
