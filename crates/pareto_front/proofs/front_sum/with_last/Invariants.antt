use Rattle.std.proofs.Common.{◌++◌, ◌∷◌, [], length}
use Rattle.pareto_front.specs.FrontSum.{CostsAlike}
use Rattle.pareto_front.proofs.front_sum.with_last.Given as goal

abbrev pub invariant-loop-last : goal.invariant-loop-last
invariant-loop-last l = CostsAlike (l.fn.parts.items ++ l.fn.sum ∷ []) (l.parts.items ++ l.sum ∷ [])

abbrev pub decreases-loop-last : goal.decreases-loop-last
decreases-loop-last l = length l.parts.items
