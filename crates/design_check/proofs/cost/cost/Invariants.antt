use Rattle.net_model.proofs.DesignSums.{IsAdded}
use Rattle.design_check.specs.Named.{named}
use Rattle.design_check.proofs.cost.cost.Given as goal

abbrev pub invariant-loop-s : goal.invariant-loop-s
invariant-loop-s l = IsAdded l.net (named l.net l.listed) l.s l.cost
