use Rattle.net_model.proofs.DesignSums.{IsAdded}
use Rattle.net_model.proofs.designs.cost.Given as goal

abbrev pub invariant-loop-s : goal.invariant-loop-s
invariant-loop-s l = IsAdded l.net l.d l.s l.cost
