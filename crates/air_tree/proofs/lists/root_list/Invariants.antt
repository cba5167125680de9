use Rattle.std.proofs.Common.{◌≡◌}
use Rattle.std.specs.Prelude.{filter, ◌&&◌}
use Rattle.std.specs.List.{range_with_len}
use Rattle.duct_definitions.specs.Tree.{Tree, side, is_root}
use Rattle.duct_units.specs.Side.{same_side}
use Rattle.air_tree.proofs.lists.root_list.Given as goal

abbrev pub invariant-loop-s : goal.invariant-loop-s
invariant-loop-s l =
    let tree : Tree = record { neighbours = l.neighbours; sides = l.sides } in
    l.found.items ≡ filter (λ s. same_side (side tree s) l.side && is_root tree s) (range_with_len 0 l.s)
