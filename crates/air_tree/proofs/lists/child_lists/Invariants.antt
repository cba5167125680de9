use Rattle.std.proofs.Common.{[], map}
use Rattle.air_tree.proofs.FilledLists.{AreFilled}
use Rattle.air_tree.proofs.lists.child_lists.Given as goal

abbrev pub invariant-loop-s : goal.invariant-loop-s
invariant-loop-s l = AreFilled (λ children. children) [] l.s l.neighbours (map (λ list. list.items) l.lists.items)
