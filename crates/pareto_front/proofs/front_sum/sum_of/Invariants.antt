use Rattle.std.proofs.Common.{◌++◌, ◌∷◌, [], vec_len}
use Rattle.pareto_front.specs.FrontSum.{CostsAlike}
use Rattle.pareto_front.proofs.front_sum.sum_of.Given as goal

abbrev pub invariant-loop-last : goal.invariant-loop-last
invariant-loop-last l = CostsAlike l.fn.parts.items (l.parts.items ++ l.sum ∷ [])

abbrev pub decreases-loop-last : goal.decreases-loop-last
decreases-loop-last l = vec_len l.parts
