use Rattle.std.proofs.Common.{◌≡◌, ◌++◌, map}
use Rattle.std.specs.List.{range_with_len}
use Rattle.duct_load.specs.Made.{pair_of}
use Rattle.duct_load.proofs.pairs.add_pairs.Given as goal

-- the pairs so far stand behind those that were there
abbrev pub invariant-loop-g : goal.invariant-loop-g
invariant-loop-g l = l.pairs.items ≡ l.fn.pairs.items ++ map (pair_of l.i l.k) (range_with_len 0 l.g)
