use Rattle.contract_join.proofs.Children.{IsAddedTo}
use Rattle.contract_join.proofs.join.with_child.Given as goal

abbrev pub invariant-loop-k : goal.invariant-loop-k
invariant-loop-k l = IsAddedTo l.child.net l.child.section l.fn.sums.items l.sums.items l.k
