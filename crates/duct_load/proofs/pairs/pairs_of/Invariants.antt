use Rattle.std.proofs.Common.{◌≡◌}
use Rattle.std.specs.List.{range_with_len, flat_map}
use Rattle.duct_load.specs.Made.{pairs_in_size}
use Rattle.duct_load.proofs.pairs.pairs_of.Given as goal

-- the pairs of the sizes so far
abbrev pub invariant-loop-k : goal.invariant-loop-k
invariant-loop-k l = l.pairs.items ≡ flat_map (pairs_in_size l.i) (range_with_len 0 l.k)
