use Rattle.std.proofs.Common.{length, ◌-◌, ◌+◌, ◌<◌, ◌≤◌}
use Rattle.pareto_front.proofs.Summed.{IsSummed}
use Rattle.pareto_front.proofs.sums.both_points.Given as goal

abbrev pub invariant-loop-i : goal.invariant-loop-i
invariant-loop-i l = IsSummed l.a l.b l.i l.j l.points.items

abbrev pub decreases-loop-i : goal.decreases-loop-i
decreases-loop-i l = (length l.a - l.i) + (length l.b - l.j)

abbrev pub invariant-loop-i-2 : goal.invariant-loop-i-2
invariant-loop-i-2 l = IsSummed l.a l.b l.i l.j l.points.items × (l.i < length l.a → length l.b ≤ l.j)

abbrev pub decreases-loop-i-2 : goal.decreases-loop-i-2
decreases-loop-i-2 l = length l.a - l.i

abbrev pub invariant-loop-j : goal.invariant-loop-j
invariant-loop-j l = IsSummed l.a l.b l.i l.j l.points.items × (length l.a ≤ l.i)

abbrev pub decreases-loop-j : goal.decreases-loop-j
decreases-loop-j l = length l.b - l.j
