use Rattle.std.proofs.Common.{◌≡◌, ◌++◌, take, map}
use Rattle.pareto_front.specs.Front.{moved_by}
use Rattle.pareto_front.proofs.parts.push_moved.Given as goal

abbrev pub invariant-loop-point : goal.invariant-loop-point
invariant-loop-point l = l.all.items ≡ l.fn.all.items ++ map (moved_by l.loss l.price) (take l.point-index l.points)
