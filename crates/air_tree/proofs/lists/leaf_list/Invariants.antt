use Rattle.std.proofs.Common.{◌≡◌, []}
use Rattle.std.specs.Prelude.{filter}
use Rattle.std.specs.List.{range_with_len}
use Rattle.duct_definitions.specs.Tree.{is_leaf}
use Rattle.air_tree.proofs.lists.leaf_list.Given as goal

abbrev pub invariant-loop-s : goal.invariant-loop-s
invariant-loop-s l = l.leaves.items ≡ filter (is_leaf (record { neighbours = l.fn.neighbours; sides = [] }))
    (range_with_len 0 l.s)
