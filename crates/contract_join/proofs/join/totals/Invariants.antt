use Rattle.std.proofs.Common.{length}
use Rattle.contract_join.proofs.Children.{AreTotalsTo}
use Rattle.contract_join.proofs.join.totals.Given as goal

abbrev pub invariant-loop-sum : goal.invariant-loop-sum
invariant-loop-sum l = AreTotalsTo l.fn.sums.items l.fronts.items (length l.yielded)
