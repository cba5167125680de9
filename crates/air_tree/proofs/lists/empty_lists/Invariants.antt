use Rattle.std.proofs.Common.{◌≡◌, [], map, take}
use Rattle.air_tree.proofs.lists.empty_lists.Given as goal

abbrev pub invariant-loop-count : goal.invariant-loop-count
invariant-loop-count l = map (λ list. list.items) l.lists.items ≡ map (λ _. []) (take l.count-index l.counts)
