use Rattle.std.proofs.Common.{◌≤◌}
use Rattle.pareto_front.specs.FrontSum.{greatest_together}
use Rattle.room_tests.proofs.fronts.sum.Given as goal

abbrev pub invariant-loop-text : goal.invariant-loop-text
invariant-loop-text l = greatest_together l.sum ≤ l.most
