use Rattle.contract_join.proofs.Children.{AreEmpty}
use Rattle.contract_join.proofs.join.no_children.Given as goal

abbrev pub invariant-loop : goal.invariant-loop
invariant-loop l = AreEmpty l.sums.items l.counter
