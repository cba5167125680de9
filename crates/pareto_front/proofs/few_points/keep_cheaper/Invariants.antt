use Rattle.pareto_front.proofs.InOrderLemmas.{IsKeptTo}
use Rattle.pareto_front.proofs.few_points.keep_cheaper.Given as goal

abbrev pub invariant-loop-point : goal.invariant-loop-point
invariant-loop-point l = IsKeptTo l.sorted l.kept.items l.point-index
