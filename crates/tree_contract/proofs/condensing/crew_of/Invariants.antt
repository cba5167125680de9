use Rattle.std.proofs.Common.{◌≡◌, ◌++◌, map}
use Rattle.std.specs.Vec.Iter.{into_iter_items}
use Rattle.tree_contract.proofs.condensing.crew_of.Given as goal

abbrev pub invariant-loop-hand : goal.invariant-loop-hand
invariant-loop-hand l = record {
  hands : map (λ w. w.hand) l.crew.items ≡ l.yielded;
  all_hands : l.yielded ++ into_iter_items l.hand-iterator ≡ into_iter_items l.initial.hand-iterator;
  passes : map (λ w. w.pass) l.crew.items ++ into_iter_items l.passes ≡ l.fn.passes;
}
