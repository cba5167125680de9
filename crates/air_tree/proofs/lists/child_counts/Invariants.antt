use Rattle.std.proofs.Common.{length}
use Rattle.air_tree.proofs.FilledLists.{AreFilled}
use Rattle.air_tree.proofs.lists.child_counts.Given as goal

abbrev pub invariant-loop-s : goal.invariant-loop-s
invariant-loop-s l = AreFilled (λ children. length children) 0 l.s l.neighbours l.counts.items
