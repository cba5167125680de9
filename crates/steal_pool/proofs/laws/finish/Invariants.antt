use Rattle.std.proofs.Common.{◌≡◌}
use Rattle.steal_pool.proofs.laws.finish.Given as goal

abbrev pub invariant-loop : goal.invariant-loop
invariant-loop l = l.hand.fixed ≡ l.fn.hand.fixed

abbrev pub decreases-loop : goal.decreases-loop
decreases-loop l = l.hand.left
