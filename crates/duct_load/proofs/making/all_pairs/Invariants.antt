use Rattle.std.proofs.Common.{◌≡◌, map}
use Rattle.std.specs.List.{range_with_len}
use Rattle.duct_load.specs.Made.{pairs_of}
use Rattle.duct_load.proofs.making.all_pairs.Given as goal

-- the pairs of the sections so far
abbrev pub invariant-loop-i : goal.invariant-loop-i
invariant-loop-i l = l.pairs.items ≡ map pairs_of (range_with_len 0 l.i)
