use Rattle.std.proofs.Common.{◌≡◌, map}
use Rattle.std.specs.List.{range_with_len}
use Rattle.duct_load.specs.Made.{neighbour_of, side_of}
use Rattle.duct_load.proofs.making.tree_of.Given as goal

-- the neighbours and the sides so far
abbrev pub invariant-loop-i : goal.invariant-loop-i
invariant-loop-i l = record {
  neighbours : l.neighbours.items ≡ map neighbour_of (range_with_len 0 l.i);
  sides : l.sides.items ≡ map side_of (range_with_len 0 l.i);
}
