use Rattle.net_model.proofs.DesignSums.{IsGreatest}
use Rattle.net_model.proofs.designs.worst.Given as goal

abbrev pub invariant-loop-leaf : goal.invariant-loop-leaf
invariant-loop-leaf l = IsGreatest l.net l.d l.side l.leaf-index l.leaf-items l.most
