use Rattle.pareto_front.proofs.Lessers.{Swept-with_cheaper}
use Rattle.pareto_front.proofs.merge.either_points.Goals as goal

pub loop-step-preserved : goal.loop-step-preserved
loop-step-preserved c =
    rw (c.in_ok-push_cheaper.ensures)
    (Swept-with_cheaper c.loop-step.invariant c.in-Some.ensures.some c.lesser_cost.result c.lesser_cost.ensures)
