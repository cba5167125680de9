use Rattle.std.proofs.Common.{◌≡◌, map}
use Rattle.std.specs.List.{range_with_len}
use Rattle.tree_contract.specs.Depths.{depth}
use Rattle.tree_contract.proofs.dealing.depths_of.Given as goal

abbrev pub invariant-loop-s : goal.invariant-loop-s
invariant-loop-s l = l.depths.items ≡ map (depth l.net.tree) (range_with_len 0 l.s)
