use Rattle.air_tree.specs.CarriedFlows.{AreKnown}
use Rattle.air_tree.proofs.carried.carry.Given as goal

abbrev pub invariant-loop-s : goal.invariant-loop-s
invariant-loop-s l = AreKnown l.tree (record { at_leaves = l.leaf_flows; leaks = l.leaks }) l.s l.carried
